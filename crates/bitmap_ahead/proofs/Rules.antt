-- What stands ahead of a bitmap, by kind: the test is the plain condition, and octets and what they say determine each other.
use Prim.Native.Nat.{ℕ, suc, ◌+◌, ◌≤◌, ◌<◌}
use native.Mathlib.Omega.{arith}
use mathlib.Core.Path.{◌≡◌, refl, sym, ap, ap₂, ◌∙◌}
use mathlib.Core.Bool.{true, ◌&&◌}
use mathlib.Core.List.{List, [], ◌∷◌, ◌++◌, append_assoc}
use lib.ListN.{length, get_or, take, drop, length-append, length-drop, take-append-drop}
use lib.Seq.{take_at, drop_at, take-append_seam, drop-append_seam, get_or-append_seam, get_or-drop, drop-drop, drop-cons, split_at}
use lib.Dec.{eqb}
use borrow.Author.Tests.{eqb-true, eq-eqb}
use Rattle.bits.proofs.Choice.{both}
use Rattle.bitmap_ahead.specs.declared.Kind.{Kind}
use Rattle.bitmap_ahead.specs.declared.Kind.TheVariants.{Plain, Icon, Logo}
use Rattle.bitmap_ahead.specs.Digits.{digits_taken, date_octets, date_taken}
use Rattle.bitmap_ahead.specs.Ahead.{Ahead, said, nothing, WellFormed, ahead_octets, silent, taken, start_of, ahead_in, fixed_stand, stands}
use Rattle.bitmap_ahead.proofs.Digits.{test_digits, digits_test}
use Rattle.bitmap_ahead.proofs.Dates.{day_octets, time_octets, universal_octets, date_length, test_date, date_test}

-- ---- the test and the plain condition

empty : (l : List ℕ) → eqb (length l) 0 ≡ true → l ≡ []
empty [] e = refl
empty (x ∷ l) e = let z : ⊥ = omega (arith, eqb-true (length (x ∷ l)) 0 e) in absurd z

nothing_said : (a : Ahead) → silent a ≡ true → a ≡ nothing
unfolding silent
nothing_said a e =
    let p = both (eqb (length a.mcc) 0 && eqb (length a.mnc) 0) (eqb (length a.date) 0) e in
    let q = both (eqb (length a.mcc) 0) (eqb (length a.mnc) 0) p.0 in
    ap₂ (λ (x y : List ℕ). said x y a.date) (empty a.mcc q.0) (empty a.mnc q.1) ∙ ap (λ (x : List ℕ). said [] [] x) (empty a.date p.1)

nothing_silent : (a : Ahead) → a ≡ nothing → silent a ≡ true
unfolding silent
nothing_silent a e = ap silent e

-- what passes the test of its kind is well formed
pub taken_formed : (kind : Kind) (a : Ahead) → taken kind a ≡ true → WellFormed kind a
taken_formed Plain a e = nothing_said a e
taken_formed Icon a e = nothing_said a e
taken_formed Logo a e =
    let p = both (digits_taken 3 a.mcc && digits_taken 2 a.mnc) (date_taken a.date) e in
    let q = both (digits_taken 3 a.mcc) (digits_taken 2 a.mnc) p.0 in
    (test_digits 3 a.mcc q.0, test_digits 2 a.mnc q.1, test_date a.date p.1)

-- and the other way round
pub formed_taken : (kind : Kind) (a : Ahead) → WellFormed kind a → taken kind a ≡ true
formed_taken Plain a f = nothing_silent a f
formed_taken Icon a f = nothing_silent a f
formed_taken Logo a f = rw (digits_test 3 a.mcc f.0, digits_test 2 a.mnc f.1, date_test f.2) refl

-- ---- octets that are written are told again

-- the octets of something well formed, and what follows them: the bitmap begins behind them, they say what they were made of, and they stand
pub record Found (kind : Kind) (a : Ahead) (m : List ℕ) : Type 0 where
  pub start : start_of kind m ≡ length (ahead_octets kind a)
  pub said : ahead_in kind m ≡ a
  pub stand : stands kind m ≡ true

-- a logo
logo_found : (mcc mnc date rest : List ℕ) → WellFormed Logo (said mcc mnc date) → Found Logo (said mcc mnc date) (ahead_octets Logo (said mcc mnc date) ++ rest)
unfolding stands
logo_found mcc mnc date rest f =
    let x : List ℕ = mcc ++ mnc ++ date ++ 0x0A ∷ [] ++ rest in
    let e : x ≡ mcc ++ (mnc ++ (date ++ 0x0A ∷ rest)) = simp append_assoc in
    let b : drop 3 x ≡ mnc ++ (date ++ 0x0A ∷ rest) = ap (drop 3) e ∙ drop_at mcc (mnc ++ (date ++ 0x0A ∷ rest)) 3 f.0.count in
    let c : drop 5 x ≡ date ++ 0x0A ∷ rest = sym (drop-drop 2 3 x) ∙ ap (drop 2) b ∙ drop_at mnc (date ++ 0x0A ∷ rest) 2 f.1.count in
    let n : date_octets (drop 5 x) ≡ length date =
    ap date_octets c ∙ date_length f.2 (0x0A ∷ rest) (λ z. omega (arith, z)) (λ z. omega (arith, z)) in
    let p : take 3 x ≡ mcc = ap (take 3) e ∙ take_at mcc (mnc ++ (date ++ 0x0A ∷ rest)) 3 f.0.count in
    let q : take 2 (drop 3 x) ≡ mnc = ap (take 2) b ∙ take_at mnc (date ++ 0x0A ∷ rest) 2 f.1.count in
    let r : take (date_octets (drop 5 x)) (drop 5 x) ≡ date = ap₂ take n c ∙ take-append_seam date (0x0A ∷ rest) in
    let l : get_or (0x30 ∷ x) (6 + date_octets (drop 5 x)) 0 ≡ 0x0A =
    sym (get_or-drop 6 (0x30 ∷ x) (date_octets (drop 5 x)) 0) ∙ ap₂ (λ (y : List ℕ) (i : ℕ). get_or y i 0) c n ∙ get_or-append_seam date 0x0A rest 0 in
    record {
      start = simp length-append (omega (arith, n, f.0.count, f.1.count));
      said = ap₂ (λ (y z : List ℕ). said y z (take (date_octets (drop 5 x)) (drop 5 x))) p q ∙ ap (λ (y : List ℕ). said mcc mnc y) r;
      stand = rw (eq-eqb (get_or (0x30 ∷ x) (6 + date_octets (drop 5 x)) 0) 0x0A l, p, q, r) (formed_taken Logo (said mcc mnc date) f);
    }

-- each kind
pub written_found : (kind : Kind) (a : Ahead) (rest : List ℕ) → WellFormed kind a → Found kind a (ahead_octets kind a ++ rest)
unfolding stands silent
written_found Plain a rest f = record { start = refl; said = sym f; stand = refl }
written_found Icon a rest f = record { start = refl; said = sym f; stand = refl }
written_found Logo a rest f = logo_found a.mcc a.mnc a.date rest f

-- ---- octets that stand are written again

-- what stands ahead says something well formed
pub found_formed : (kind : Kind) (m : List ℕ) → stands kind m ≡ true → WellFormed kind (ahead_in kind m)
unfolding stands
found_formed kind m e = taken_formed kind (ahead_in kind m) (both (fixed_stand kind m) (taken kind (ahead_in kind m)) e).1

-- a message by its version, the codes and what follows them
codes_apart : (m : List ℕ) → 1 ≤ length m → m ≡ get_or m 0 0 ∷ (take 3 (drop 1 m) ++ (take 2 (drop 4 m) ++ drop 6 m))
codes_apart m l =
    let d : drop 4 m ≡ take 2 (drop 4 m) ++ drop 6 m =
    sym (take-append-drop 2 (drop 4 m)) ∙ ap (λ (y : List ℕ). take 2 (drop 4 m) ++ y) (drop-drop 2 4 m) in
    let c : drop 1 m ≡ take 3 (drop 1 m) ++ drop 4 m =
    sym (take-append-drop 3 (drop 1 m)) ∙ ap (λ (y : List ℕ). take 3 (drop 1 m) ++ y) (drop-drop 3 1 m) in
    drop-cons m 0 0 l ∙ ap (λ (y : List ℕ). get_or m 0 0 ∷ y) (c ∙ ap (λ (y : List ℕ). take 3 (drop 1 m) ++ y) d)

-- a logo
logo_written : (m : List ℕ) → start_of Logo m ≤ length m → fixed_stand Logo m ≡ true → ahead_octets Logo (ahead_in Logo m) ++ drop (start_of Logo m) m ≡ m
logo_written m l e =
    let d : List ℕ = drop 6 m in
    let n : ℕ = date_octets d in
    let b = both (eqb (get_or m 0 0) 0x30) (eqb (get_or m (6 + n) 0) 0x0A) e in
    let v : get_or m 0 0 ≡ 0x30 = eqb-true (get_or m 0 0) 0x30 b.0 in
    let w : get_or d n 0 ≡ 0x0A = get_or-drop 6 m n 0 ∙ eqb-true (get_or m (6 + n) 0) 0x0A b.1 in
    let k : n < length d = omega (arith, length-drop 6 m) in
    let r : drop (6 + n + 1) m ≡ drop (suc n) d = let i : 6 + n + 1 ≡ 6 + suc n = omega arith in rw i (sym (drop-drop (suc n) 6 m)) in
    let t : d ≡ take n d ++ 0x0A ∷ drop (suc n) d = split_at d n 0 k ∙ ap (λ (x : ℕ). take n d ++ x ∷ drop (suc n) d) w in
    let g : 0x30 ∷ take 3 (drop 1 m) ++ take 2 (drop 4 m) ++ take n d ++ 0x0A ∷ [] ++ drop (suc n) d
    ≡ 0x30 ∷ (take 3 (drop 1 m) ++ (take 2 (drop 4 m) ++ (take n d ++ 0x0A ∷ drop (suc n) d))) = simp append_assoc in
    ap (λ (y : List ℕ). 0x30 ∷ take 3 (drop 1 m) ++ take 2 (drop 4 m) ++ take n d ++ 0x0A ∷ [] ++ y) r
    ∙ g
    ∙ ap₂ (λ (x : ℕ) (y : List ℕ). x ∷ (take 3 (drop 1 m) ++ (take 2 (drop 4 m) ++ y))) (sym v) (sym t)
    ∙ sym (codes_apart m (omega arith))

-- each kind
pub found_written : (kind : Kind) (m : List ℕ) → start_of kind m ≤ length m → stands kind m ≡ true → ahead_octets kind (ahead_in kind m) ++ drop (start_of kind m) m ≡ m
unfolding stands
found_written Plain m l e = refl
found_written Icon m l e =
    let b = both (fixed_stand Icon m) (taken Icon (ahead_in Icon m)) e in
    ap (λ (x : ℕ). x ∷ drop 1 m) (sym (eqb-true (get_or m 0 0) 0x30 b.0)) ∙ sym (drop-cons m 0 0 l)
found_written Logo m l e = logo_written m l (both (fixed_stand Logo m) (taken Logo (ahead_in Logo m)) e).0

-- ---- no message has two parts ahead

-- what is said ahead and what follows it are told by the octets alone
pub one_way : (kind : Kind) (a b : Ahead) (x y : List ℕ) → WellFormed kind a → WellFormed kind b → ahead_octets kind a ++ x ≡ ahead_octets kind b ++ y → (a ≡ b) × (x ≡ y)
one_way kind a b x y f g e =
    let p = written_found kind a x f in
    let q = written_found kind b y g in
    let n : length (ahead_octets kind a) ≡ length (ahead_octets kind b) = sym p.start ∙ ap (start_of kind) e ∙ q.start in (
      sym p.said ∙ ap (ahead_in kind) e ∙ q.said,
      sym (drop-append_seam (ahead_octets kind a) x) ∙ ap₂ drop n e ∙ drop-append_seam (ahead_octets kind b) y,
    )

-- ---- the three lengths of a logo's part ahead

-- octet 14 is no T: 15 octets
pub length_15 : (m : List ℕ) → (get_or m 14 0 ≡ 0x54 → ⊥) → start_of Logo m ≡ 15
length_15 m h = omega (arith, day_octets (drop 6 m) (λ e. h (sym (get_or-drop 6 m 8 0) ∙ e)))

-- octet 14 is a T and octet 21 no Z: 22 octets
pub length_22 : (m : List ℕ) → get_or m 14 0 ≡ 0x54 → (get_or m 21 0 ≡ 0x5A → ⊥) → start_of Logo m ≡ 22
length_22 m h k = omega (arith, time_octets (drop 6 m) (get_or-drop 6 m 8 0 ∙ h) (λ e. k (sym (get_or-drop 6 m 15 0) ∙ e)))

-- octet 14 is a T and octet 21 a Z: 23 octets
pub length_23 : (m : List ℕ) → get_or m 14 0 ≡ 0x54 → get_or m 21 0 ≡ 0x5A → start_of Logo m ≡ 23
length_23 m h k = omega (arith, universal_octets (drop 6 m) (get_or-drop 6 m 8 0 ∙ h) (get_or-drop 6 m 15 0 ∙ k))

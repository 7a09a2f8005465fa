-- Dates: how many octets one has, and that test and plain condition are the same.
use Prim.Native.Nat.{ℕ, ◌+◌, ◌-◌, ◌≤◌}
use native.Mathlib.Omega.{arith}
use native.Mathlib.Nat.{add-zero}
use mathlib.Core.Path.{◌≡◌, refl, sym, ap, ap₂, subst, ◌∙◌}
use mathlib.Core.Bool.{Bool, true, false, not, ◌&&◌}
use mathlib.Core.List.{List, [], ◌∷◌, ◌++◌, append_assoc, append-nil}
use lib.ListN.{length, get_or, take, drop, length-append, length-take, length-drop, drop_of_length-le, get_or-eq_default}
use lib.Seq.{length-take-le, take_all, take_at, take-add, take-take, drop_at, split_at, drop-append-add, get_or-append-add, get_or-take, get_or-drop}
use lib.Dec.{eqb}
use borrow.Author.Tests.{eqb-true, eqb-false, eq-eqb, ne_eqb, not-true, not-false}
use Rattle.bits.specs.Choice.{pick}
use Rattle.bits.proofs.Choice.{both}
use Rattle.bitmap_ahead.specs.Digits.{AllDigits, Digits, CommonDate, day, time, universal, all_digits, date_octets, date_taken}
use Rattle.bitmap_ahead.proofs.Digits.{test_all, all_test}

-- ---- the three lengths, told by the octets where T and Z may stand

-- no T: 8 octets
pub day_octets : (d : List ℕ) → (get_or d 8 0 ≡ 0x54 → ⊥) → 8 ≡ date_octets d
unfolding date_octets
day_octets d h = rw (ne_eqb (get_or d 8 0) 0x54 h) refl

-- a T and no Z: 15 octets
pub time_octets : (d : List ℕ) → get_or d 8 0 ≡ 0x54 → (get_or d 15 0 ≡ 0x5A → ⊥) → 15 ≡ date_octets d
unfolding date_octets
time_octets d h k = rw (eq-eqb (get_or d 8 0) 0x54 h, ne_eqb (get_or d 15 0) 0x5A k) refl

-- a T and a Z: 16 octets
pub universal_octets : (d : List ℕ) → get_or d 8 0 ≡ 0x54 → get_or d 15 0 ≡ 0x5A → 16 ≡ date_octets d
unfolding date_octets
universal_octets d h k = rw (eq-eqb (get_or d 8 0) 0x54 h, eq-eqb (get_or d 15 0) 0x5A k) refl

-- what is not there is no T and no Z
pub absent : (d : List ℕ) (i c : ℕ) → length d ≤ i → 1 ≤ c → get_or d i 0 ≡ c → ⊥
absent d i c h l e = omega (arith, get_or-eq_default d 0 {n = i} h, e)

pub day_short : (d : List ℕ) → length d ≤ 8 → 8 ≡ date_octets d
day_short d h = day_octets d (absent d 8 0x54 h (omega arith))

pub time_short : (d : List ℕ) → get_or d 8 0 ≡ 0x54 → length d ≤ 15 → 15 ≡ date_octets d
time_short d e h = time_octets d e (absent d 15 0x5A h (omega arith))

pub ruleset told = (day_short, day_octets, time_short, time_octets, universal_octets)

-- a date has 8, 15 or 16 octets
pub data Told (d : List ℕ) : ℕ → Type 0 where
  no_t : (get_or d 8 0 ≡ 0x54 → ⊥) → Told d 8
  t_no_z : get_or d 8 0 ≡ 0x54 → (get_or d 15 0 ≡ 0x5A → ⊥) → Told d 15
  t_and_z : get_or d 8 0 ≡ 0x54 → get_or d 15 0 ≡ 0x5A → Told d 16

pub date_told : (d : List ℕ) → Told d (date_octets d)
unfolding date_octets
date_told d = by_t (eqb (get_or d 8 0) 0x54) refl
  where
    by_z : get_or d 8 0 ≡ 0x54 → (z : Bool) → eqb (get_or d 15 0) 0x5A ≡ z → Told d (pick z 16 15)
    by_z h true e = t_and_z h (eqb-true (get_or d 15 0) 0x5A e)
    by_z h false e = t_no_z h (eqb-false (get_or d 15 0) 0x5A e)

    by_t : (t : Bool) → eqb (get_or d 8 0) 0x54 ≡ t → Told d (pick t (pick (eqb (get_or d 15 0) 0x5A) 16 15) 8)
    by_t true e = by_z (eqb-true (get_or d 8 0) 0x54 e) (eqb (get_or d 15 0) 0x5A) refl
    by_t false e = no_t (eqb-false (get_or d 8 0) 0x54 e)

least : {d : List ℕ} {n : ℕ} → Told d n → 8 ≤ n
least (no_t h) = omega arith
least (t_no_z h k) = omega arith
least (t_and_z h k) = omega arith

most : {d : List ℕ} {n : ℕ} → Told d n → n ≤ 16
most (no_t h) = omega arith
most (t_no_z h k) = omega arith
most (t_and_z h k) = omega arith

timed : {d : List ℕ} {n : ℕ} → Told d n → (n ≡ 8 → ⊥) → 15 ≤ n
timed (no_t h) k = absurd (k refl)
timed (t_no_z h l) k = omega arith
timed (t_and_z h l) k = omega arith

pub date_least : (d : List ℕ) → 8 ≤ date_octets d
date_least d = least (date_told d)

pub date_most : (d : List ℕ) → date_octets d ≤ 16
date_most d = most (date_told d)

-- ---- a date that stands first among other octets

-- cut to its length it has that length
again : (d : List ℕ) {n : ℕ} → Told d n → n ≤ length d → date_octets (take n d) ≡ n
again d (no_t h) l = sym (day_short (take 8 d) (omega (arith, length-take-le 8 d l)))
again d (t_no_z h k) l = sym (time_short (take 15 d) (get_or-take 15 d 8 0 (omega arith) ∙ h) (omega (arith, length-take-le 15 d l)))
again d (t_and_z h k) l = sym (universal_octets (take 16 d) (get_or-take 16 d 8 0 (omega arith) ∙ h) (get_or-take 16 d 15 0 (omega arith) ∙ k))

-- it is one where its first eight octets are digits, and the six behind the T
pub date_first : (d : List ℕ) → date_octets d ≤ length d
    → date_taken (take (date_octets d) d) ≡ (all_digits (take 8 d) && all_digits (take 6 (drop 9 (take (date_octets d) d))))
unfolding date_taken
date_first d l =
    let n : ℕ = date_octets d in
    let e : eqb (length (take n d)) (date_octets (take n d)) ≡ true =
    eq-eqb (length (take n d)) (date_octets (take n d)) (length-take-le n d l ∙ sym (again d (date_told d) l)) in
    rw (e, take-take 8 n d (date_least d)) refl

-- a date of eight octets has no T
pub no_hour : (d : List ℕ) → date_octets d ≡ 8 → all_digits (take 6 (drop 9 (take (date_octets d) d))) ≡ true
unfolding all_digits
no_hour d e =
    let z : drop 9 (take (date_octets d) d) ≡ [] =
    drop_of_length-le (take (date_octets d) d) {i = 9} (simp length-take (omega (arith, e))) in
    rw z refl

-- a longer one has six octets behind it
pub hour_of : (d : List ℕ) → 15 ≤ date_octets d → date_octets d ≤ length d → take 6 (drop 9 (take (date_octets d) d)) ≡ take 6 (drop 9 d)
hour_of d h l =
    let k : ℕ = date_octets d - 9 in
    let e : date_octets d ≡ 9 + k = omega arith in
    let x : drop 9 (take (date_octets d) d) ≡ take k (drop 9 d) =
    ap (λ (n : ℕ). drop 9 (take n d)) e
    ∙ ap (drop 9) (take-add 9 k d)
    ∙ drop_at (take 9 d) (take k (drop 9 d)) 9 (length-take-le 9 d (omega arith)) in
    ap (take 6) x ∙ take-take 6 k (drop 9 d) (omega arith)

pub date_timed : (d : List ℕ) → (date_octets d ≡ 8 → ⊥) → 15 ≤ date_octets d
date_timed d h = timed (date_told d) h

-- ---- the exits of `date_taken`

module _ (d : List ℕ) {n : ℕ} (e : n ≡ date_octets d) where
  pub other_length : (length d ≡ n → ⊥) → false ≡ date_taken d
  unfolding date_taken
  other_length h = rw (← e, ne_eqb (length d) n h) refl

  pub day_inside : length d ≡ n → 8 ≤ length d
  day_inside h = omega (arith, date_least d, e, h)

  pub day_wrong : {t : Bool} → length d ≡ n → t ≡ all_digits (take (8 - 0) (drop 0 d)) → not t ≡ true → false ≡ date_taken d
  unfolding date_taken
  day_wrong {t} h f g = rw (← e, eq-eqb (length d) n h, ← f, not-true t g) refl

  pub day_right : {t : Bool} → length d ≡ n → t ≡ all_digits (take (8 - 0) (drop 0 d)) → not t ≡ false → n ≡ 8 → true ≡ date_taken d
  unfolding date_taken all_digits
  day_right {t} h f g k =
      let z : drop 9 d ≡ [] = drop_of_length-le d {i = 9} (omega arith) in
      rw (← e, eq-eqb (length d) n h, ← f, not-false t g, z) refl

  pub time_inside : length d ≡ n → (n ≡ 8 → ⊥) → 15 ≤ length d
  time_inside h k = omega (arith, timed (date_told d) (λ z. k (e ∙ z)), e, h)

  pub time_told : {t u : Bool} → length d ≡ n → t ≡ all_digits (take (8 - 0) (drop 0 d)) → not t ≡ false → u ≡ all_digits (take (15 - 9) (drop 9 d)) → u ≡ date_taken d
  unfolding date_taken
  time_told {t} {u} h f g k = rw (← e, eq-eqb (length d) n h, ← f, not-false t g) k

pub ruleset dating = (other_length, day_inside, day_wrong, day_right, time_inside, time_told)

-- ---- the test and the plain condition

-- the first octet behind a list
behind : (d e : List ℕ) (n : ℕ) → length d ≡ n → get_or (d ++ e) n 0 ≡ get_or e 0 0
behind d e n h = ap (λ (i : ℕ). get_or (d ++ e) i 0) (sym h ∙ sym (add-zero (length d))) ∙ get_or-append-add d e 0 0

-- a T stands behind eight digits, and what follows the six digits behind it comes next
timed_long : {d t : List ℕ} → Digits 8 d → Digits 6 t → length (d ++ 0x54 ∷ t) ≡ 15
timed_long {d} {t} h k = simp length-append (omega (arith, h.count, k.count))

mark_t : {d : List ℕ} (t e : List ℕ) → Digits 8 d → get_or (d ++ 0x54 ∷ t ++ e) 8 0 ≡ 0x54
mark_t {d} t e h = ap (λ (l : List ℕ). get_or l 8 0) (append_assoc d (0x54 ∷ t) e) ∙ behind d (0x54 ∷ t ++ e) 8 h.count

-- a date is as long as its T and Z say, whatever stands behind it that is neither
pub date_length : {d : List ℕ} → CommonDate d → (e : List ℕ) → (get_or e 0 0 ≡ 0x54 → ⊥) → (get_or e 0 0 ≡ 0x5A → ⊥) → date_octets (d ++ e) ≡ length d
date_length (day {d} h) e nt nz = sym (day_octets (d ++ e) (λ x. nt (sym (behind d e 8 h.count) ∙ x))) ∙ sym h.count
date_length (time {d} {t} h k) e nt nz =
    let n = timed_long h k in
    sym (time_octets (d ++ 0x54 ∷ t ++ e) (mark_t t e h) (λ x. nz (sym (behind (d ++ 0x54 ∷ t) e 15 n) ∙ x))) ∙ sym n
date_length (universal {d} {t} h k) e nt nz =
    let n = timed_long h k in
    let a : d ++ 0x54 ∷ t ++ 0x5A ∷ [] ++ e ≡ d ++ 0x54 ∷ t ++ 0x5A ∷ e = append_assoc (d ++ 0x54 ∷ t) (0x5A ∷ []) e in
    let l : length (d ++ 0x54 ∷ t ++ 0x5A ∷ []) ≡ 16 = length-append (d ++ 0x54 ∷ t) (0x5A ∷ []) ∙ (rw n refl) in
    ap date_octets a
    ∙ sym (universal_octets (d ++ 0x54 ∷ t ++ 0x5A ∷ e) (mark_t t (0x5A ∷ e) h) (behind (d ++ 0x54 ∷ t) (0x5A ∷ e) 15 n))
    ∙ sym l

-- the eight octets ahead of a T and the six behind it
ahead_of_t : {d : List ℕ} (e : List ℕ) → Digits 8 d → take 8 (d ++ e) ≡ d
ahead_of_t {d} e h = take_at d e 8 h.count

behind_t : {d t : List ℕ} (e : List ℕ) → Digits 8 d → Digits 6 t → take 6 (drop 9 (d ++ 0x54 ∷ t ++ e)) ≡ t
behind_t {d} {t} e h k =
    let x : drop 9 (d ++ 0x54 ∷ t ++ e) ≡ t ++ e =
    ap (drop 9) (append_assoc d (0x54 ∷ t) e) ∙ (rw h.count at (drop-append-add d (0x54 ∷ t ++ e) 1)) in
    ap (take 6) x ∙ take_at t e 6 k.count

-- eight digits and six digits pass, where the length is the one told
passes : (d : List ℕ) {a b : List ℕ} → length d ≡ date_octets d → take 8 d ≡ a → take 6 (drop 9 d) ≡ b → all_digits a ≡ true → all_digits b ≡ true → date_taken d ≡ true
unfolding date_taken
passes d n e f h k = rw (eq-eqb (length d) (date_octets d) n, e, f, h, k) refl

-- a common date as long as it says
as_long : {d : List ℕ} → CommonDate d → length d ≡ date_octets d
as_long {d} c = sym (date_length c [] (λ x. omega (arith, x)) (λ x. omega (arith, x))) ∙ ap date_octets (append-nil d)

-- no more than 16 octets
pub date_short : {d : List ℕ} → CommonDate d → length d ≤ 16
date_short {d} c = omega (arith, as_long c, date_most d)

-- a common date passes the test
pub date_test : {d : List ℕ} → CommonDate d → date_taken d ≡ true
unfolding all_digits
date_test {d} (day h) =
    let z : drop 9 d ≡ [] = drop_of_length-le d {i = 9} (omega (arith, h.count)) in
    passes d (as_long (day h)) (take_all 8 d (omega (arith, h.count))) (ap (take 6) z) (all_test d h.each) refl
date_test (time {d} {t} h k) =
    passes (d ++ 0x54 ∷ t) (as_long (time h k)) (ahead_of_t (0x54 ∷ t) h)
    (ap (λ (l : List ℕ). take 6 (drop 9 l)) (sym (append-nil (d ++ 0x54 ∷ t))) ∙ behind_t [] h k)
    (all_test d h.each) (all_test t k.each)
date_test (universal {d} {t} h k) =
    passes (d ++ 0x54 ∷ t ++ 0x5A ∷ []) (as_long (universal h k))
    (ap (take 8) (append_assoc d (0x54 ∷ t) (0x5A ∷ [])) ∙ ahead_of_t (0x54 ∷ t ++ 0x5A ∷ []) h)
    (behind_t (0x5A ∷ []) h k) (all_test d h.each) (all_test t k.each)

-- what passes in each of the three lengths
made : (d : List ℕ) {n : ℕ} → Told d n → length d ≡ n → AllDigits (take 8 d) → AllDigits (take 6 (drop 9 d)) → CommonDate d
made d (no_t h) l a b = day (record { count = l; each = subst AllDigits (take_all 8 d (omega arith)) a })
made d (t_no_z h k) l a b =
    let n : length (drop 9 d) ≡ 6 = length-drop 9 d ∙ omega arith in
    let x : d ≡ take 8 d ++ 0x54 ∷ drop 9 d = split_at d 8 0 (omega arith) ∙ ap (λ (c : ℕ). take 8 d ++ c ∷ drop 9 d) h in
    subst CommonDate (sym x)
    (time {d = take 8 d} {t = drop 9 d}
    (record { count = length-take-le 8 d (omega arith); each = a })
    (record { count = n; each = subst AllDigits (take_all 6 (drop 9 d) (omega arith)) b }))
made d (t_and_z h k) l a b =
    let n : length (drop 9 d) ≡ 7 = length-drop 9 d ∙ omega arith in
    let e : drop 7 (drop 9 d) ≡ [] = drop_of_length-le (drop 9 d) {i = 7} (omega arith) in
    let z : get_or (drop 9 d) 6 0 ≡ 0x5A = get_or-drop 9 d 6 0 ∙ k in
    let y : drop 9 d ≡ take 6 (drop 9 d) ++ 0x5A ∷ [] =
    split_at (drop 9 d) 6 0 (omega arith) ∙ ap₂ (λ (c : ℕ) (r : List ℕ). take 6 (drop 9 d) ++ c ∷ r) z e in
    let x : d ≡ take 8 d ++ 0x54 ∷ take 6 (drop 9 d) ++ 0x5A ∷ [] =
    split_at d 8 0 (omega arith)
    ∙ ap₂ (λ (c : ℕ) (r : List ℕ). take 8 d ++ c ∷ r) h y
    ∙ sym (append_assoc (take 8 d) (0x54 ∷ take 6 (drop 9 d)) (0x5A ∷ [])) in
    subst CommonDate (sym x)
    (universal {d = take 8 d} {t = take 6 (drop 9 d)}
    (record { count = length-take-le 8 d (omega arith); each = a })
    (record { count = length-take-le 6 (drop 9 d) (omega arith); each = b }))

-- and what passes is a common date
pub test_date : (d : List ℕ) → date_taken d ≡ true → CommonDate d
unfolding date_taken
test_date d e =
    let q = both (eqb (length d) (date_octets d) && all_digits (take 8 d)) (all_digits (take 6 (drop 9 d))) e in
    let p = both (eqb (length d) (date_octets d)) (all_digits (take 8 d)) q.0 in
    made d (date_told d) (eqb-true (length d) (date_octets d) p.0) (test_all (take 8 d) p.1) (test_all (take 6 (drop 9 d)) q.1)

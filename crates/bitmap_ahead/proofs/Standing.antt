-- Where the bitmap of a message begins, and what the judge of the octets ahead of it finds.
use Prim.Native.Nat.{ℕ, ◌+◌, ◌-◌, ◌≤◌, ◌<◌}
use native.Mathlib.Omega.{arith}
use mathlib.Core.Path.{◌≡◌, refl, sym, ap, ◌∙◌}
use mathlib.Core.Bool.{Bool, true, false, not, ◌&&◌}
use mathlib.Core.List.{List, [], ◌++◌}
use lib.ListN.{length, get_or, take, drop, length-drop, drop_of_length-le}
use lib.Seq.{length-take-le, take-add, drop-drop}
use lib.Dec.{eqb}
use borrow.Author.Tests.{eq-eqb, ne_eqb, not-true, not-false}
use mir.Val.{Fits}
use mir.Syntax.{w64}
use Rattle.bits.proofs.Octets.{rest}
use Rattle.bitmap_ahead.specs.declared.Kind.{Kind}
use Rattle.bitmap_ahead.specs.declared.Kind.TheVariants.{Plain, Icon, Logo}
use Rattle.bitmap_ahead.specs.Digits.{all_digits, digits_taken, date_octets}
use Rattle.bitmap_ahead.specs.Ahead.{start_of, ahead_in, silent, taken, stands}
use Rattle.bitmap_ahead.proofs.Digits.{all_append}
use Rattle.bitmap_ahead.proofs.Dates.{date_least, date_most, day_short, date_first, no_hour, hour_of, date_timed}

-- ---- the exits of `logo_start` and `start`

pub start_short : (m : List ℕ) → length m < 6 → 15 ≡ start_of Logo m
start_short m h =
    let z : drop 6 m ≡ [] = drop_of_length-le m {i = 6} (omega arith) in
    rw z (omega (arith, day_short [] (omega arith)))

pub start_fits : (d : List ℕ) {n : ℕ} → n ≡ date_octets d → Fits w64 (n + 7)
start_fits d e = omega (arith, date_most d, e)

pub start_long : (m : List ℕ) {n : ℕ} → n ≡ date_octets (take (length m - 6) (drop 6 m)) → n + 7 ≡ start_of Logo m
start_long m e = omega (arith, e ∙ ap date_octets (rest 6 m))

-- no more than 23 octets stand ahead
pub start_most : (kind : Kind) (m : List ℕ) → start_of kind m ≤ 23
start_most Plain m = omega arith
start_most Icon m = omega arith
start_most Logo m = omega (arith, date_most (drop 6 m))

pub start_at : (m : List ℕ) {kind k : Kind} {r : ℕ} → kind ≡ k → r ≡ start_of k m → r ≡ start_of kind m
start_at m h e = e ∙ ap (λ (x : Kind). start_of x m) (sym h)

pub start_small : (m : List ℕ) {kind k : Kind} {r : ℕ} → kind ≡ k → r ≡ start_of k m → r ≤ 23
start_small m {kind} {k} h e = omega (arith, e, start_most k m)

pub ruleset starts = (start_short, start_fits, start_long, start_at, start_small)

-- ---- the exits of `logo_stands`

-- the two codes are digits where the five octets behind the version are
pub codes_told : (m : List ℕ) → 6 ≤ length m → all_digits (take 5 (drop 1 m)) ≡ (digits_taken 3 (take 3 (drop 1 m)) && digits_taken 2 (take 2 (drop 4 m)))
unfolding digits_taken
codes_told m h =
    let d : drop 3 (drop 1 m) ≡ drop 4 m = drop-drop 3 1 m in
    let l : length (drop 1 m) ≡ length m - 1 = length-drop 1 m in
    let k : length (drop 4 m) ≡ length m - 4 = length-drop 4 m in
    let a = length-take-le 3 (drop 1 m) (omega arith) in
    let b = length-take-le 2 (drop 4 m) (omega arith) in
    ap all_digits (take-add 3 2 (drop 1 m) ∙ ap (λ (x : List ℕ). take 3 (drop 1 m) ++ take 2 x) d)
    ∙ all_append (take 3 (drop 1 m)) (take 2 (drop 4 m))
    ∙ (rw (eq-eqb (length (take 3 (drop 1 m))) 3 a, eq-eqb (length (take 2 (drop 4 m))) 2 b) refl)

-- the thirteen octets behind the version are digits where the codes and the day are
thirteen : (m : List ℕ) → 14 ≤ length m
    → all_digits (take 13 (drop 1 m)) ≡ (digits_taken 3 (take 3 (drop 1 m)) && digits_taken 2 (take 2 (drop 4 m)) && all_digits (take 8 (drop 6 m)))
thirteen m h =
    ap all_digits (take-add 5 8 (drop 1 m) ∙ ap (λ (x : List ℕ). take 5 (drop 1 m) ++ take 8 x) (drop-drop 5 1 m))
    ∙ all_append (take 5 (drop 1 m)) (take 8 (drop 6 m))
    ∙ ap (λ (t : Bool). t && all_digits (take 8 (drop 6 m))) (codes_told m (omega arith))

and_assoc : (a b c : Bool) → (a && (b && c)) ≡ ((a && b) && c)
and_assoc true b c = refl
and_assoc false b c = refl

-- what a logo says is taken where those are digits and the six octets behind a T are
said_told : (m : List ℕ) → start_of Logo m ≤ length m
    → taken Logo (ahead_in Logo m) ≡ (all_digits (take 13 (drop 1 m)) && all_digits (take 6 (drop 9 (take (date_octets (drop 6 m)) (drop 6 m)))))
said_told m l =
    let d : List ℕ = drop 6 m in
    let c : Bool = digits_taken 3 (take 3 (drop 1 m)) && digits_taken 2 (take 2 (drop 4 m)) in
    let h : Bool = all_digits (take 6 (drop 9 (take (date_octets d) d))) in
    ap (λ (t : Bool). c && t) (date_first d (omega (arith, length-drop 6 m)))
    ∙ and_assoc c (all_digits (take 8 d)) h
    ∙ ap (λ (t : Bool). t && h) (sym (thirteen m (omega (arith, date_least d))))

pub version_wrong : (m : List ℕ) → (get_or m 0 0 ≡ 0x30 → ⊥) → false ≡ stands Logo m
unfolding stands
version_wrong m h = rw (ne_eqb (get_or m 0 0) 0x30 h) refl

module _ (m : List ℕ) {start : ℕ} (e : start ≡ start_of Logo m) (l : start ≤ length m) where
  -- the line feed stands where the date ends
  last : start - 1 ≡ 6 + date_octets (drop 6 m)
  last = omega (arith, e)

  inside : start_of Logo m ≤ length m
  inside = omega (arith, e, l)

  pub line_wrong : get_or m 0 0 ≡ 0x30 → (get_or m (start - 1) 0 ≡ 0x0A → ⊥) → false ≡ stands Logo m
  unfolding stands
  line_wrong h k =
      let n : (get_or m (6 + date_octets (drop 6 m)) 0 ≡ 0x0A → ⊥) = rw last at k in
      rw (eq-eqb (get_or m 0 0) 0x30 h, ne_eqb (get_or m (6 + date_octets (drop 6 m)) 0) 0x0A n) refl

  pub codes_inside : 14 ≤ length m
  codes_inside = omega (arith, e, l, date_least (drop 6 m))

  module _ {t : Bool} (h : get_or m 0 0 ≡ 0x30) (k : get_or m (start - 1) 0 ≡ 0x0A) (f : t ≡ all_digits (take (14 - 1) (drop 1 m))) where
    -- what is left of the judgement where version and line feed stand
    left : stands Logo m ≡ (t && all_digits (take 6 (drop 9 (take (date_octets (drop 6 m)) (drop 6 m)))))
    unfolding stands
    left =
        let line : get_or m (6 + date_octets (drop 6 m)) 0 ≡ 0x0A = rw last at k in
        rw (eq-eqb (get_or m 0 0) 0x30 h, eq-eqb (get_or m (6 + date_octets (drop 6 m)) 0) 0x0A line, f) (said_told m inside)

    pub codes_wrong : not t ≡ true → false ≡ stands Logo m
    codes_wrong g = rw (left, not-true t g) refl

    pub day_alone : not t ≡ false → start ≡ 15 → true ≡ stands Logo m
    day_alone g d = rw (left, not-false t g) (sym (no_hour (drop 6 m) (omega (arith, e))))

    pub hour_told : {r : Bool} → not t ≡ false → (start ≡ 15 → ⊥) → r ≡ all_digits (take (21 - 15) (drop 15 m)) → r ≡ stands Logo m
    hour_told {r} g n d =
        let b : 15 ≤ date_octets (drop 6 m) = date_timed (drop 6 m) (λ z. n (omega (arith, e, z))) in
        let x : take 6 (drop 9 (take (date_octets (drop 6 m)) (drop 6 m))) ≡ take 6 (drop 15 m) =
        hour_of (drop 6 m) b (omega (arith, inside, length-drop 6 m)) ∙ ap (take 6) (drop-drop 9 6 m) in
        rw (left, not-false t g, x) d

  pub hour_inside : (start ≡ 15 → ⊥) → 21 ≤ length m
  hour_inside n = omega (arith, e, l, date_timed (drop 6 m) (λ z. n (omega (arith, e, z))))

pub ruleset lines = (version_wrong, line_wrong, codes_inside, codes_wrong, day_alone, hour_told, hour_inside)

-- ---- the exits of `stands`

pub stands_at : (m : List ℕ) {kind k : Kind} {r : Bool} → kind ≡ k → r ≡ stands k m → r ≡ stands kind m
stands_at m h e = e ∙ ap (λ (x : Kind). stands x m) (sym h)

pub stands_plain : (m : List ℕ) {kind : Kind} → kind ≡ Plain → true ≡ stands kind m
unfolding stands silent
stands_plain m h = stands_at m h refl

pub stands_icon : (m : List ℕ) {kind : Kind} → kind ≡ Icon → eqb (get_or m 0 0) 0x30 ≡ stands kind m
unfolding stands silent
stands_icon m h = stands_at m h (go (eqb (get_or m 0 0) 0x30))
  where
    go : (t : Bool) → t ≡ (t && true)
    go true = refl
    go false = refl

-- a version octet is there where the bitmap begins behind it
pub icon_long : (m : List ℕ) {kind : Kind} {start : ℕ} → kind ≡ Icon → start ≡ start_of kind m → start ≤ length m → 0 < length m
icon_long m h e l = let f = e ∙ ap (λ (x : Kind). start_of x m) h in omega (arith, f, l)

pub logo_asked : (m : List ℕ) {kind : Kind} {start : ℕ} → kind ≡ Logo → start ≡ start_of kind m → start ≡ start_of Logo m
logo_asked m h e = e ∙ ap (λ (x : Kind). start_of x m) h

pub ruleset standing = (stands_at, stands_plain, stands_icon, icon_long, logo_asked)

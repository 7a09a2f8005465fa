-- The loop that tests digits by counting them.
use Prim.Native.Nat.{ℕ, ◌+◌, ◌≤◌, ◌<◌}
use native.Mathlib.Omega.{arith}
use native.Mathlib.Numerals.{add-one}
use mathlib.Core.Path.{◌≡◌, refl, ap}
use mathlib.Core.Bool.{Bool, true, false, ◌&&◌}
use mathlib.Core.List.{List, [], ◌∷◌}
use lib.ListN.{length, get_or, drop, drop_of_length-le}
use lib.Seq.{drop-cons}
use lib.Dec.{eqb}
use borrow.Author.Tests.{eqb-true, eqb-false, eq-eqb, ne_eqb}
use Rattle.bits.specs.Choice.{pick}
use Rattle.bitmap_ahead.specs.Digits.{digit, all_digits}

-- how many octets are digits
unfoldable pub digits_in : List ℕ → ℕ
digits_in [] = 0
digits_in (x ∷ l) = pick (digit x) 1 0 + digits_in l

-- no more than there are
in_most : (l : List ℕ) → digits_in l ≤ length l
unfolding digits_in
in_most [] = omega arith
in_most (x ∷ l) = go (digit x) (in_most l)
  where
    go : (t : Bool) → digits_in l ≤ length l → pick t 1 0 + digits_in l ≤ length (x ∷ l)
    go true h = omega arith
    go false h = omega arith

-- as many as there are octets exactly if all are digits
pub all_counted : (l : List ℕ) → eqb (digits_in l) (length l) ≡ all_digits l
unfolding digits_in all_digits
all_counted [] = refl
all_counted (x ∷ l) = go (digit x) (all_counted l)
  where
    more : (t : Bool) → eqb (digits_in l) (length l) ≡ t → eqb (1 + digits_in l) (length (x ∷ l)) ≡ t
    more true e = let h : digits_in l ≡ length l = eqb-true (digits_in l) (length l) e in eq-eqb (1 + digits_in l) (length (x ∷ l)) (omega arith)
    more false e =
        let h : (digits_in l ≡ length l → ⊥) = eqb-false (digits_in l) (length l) e in
        ne_eqb (1 + digits_in l) (length (x ∷ l)) (λ z. h (omega (arith, z)))

    go : (t : Bool) → eqb (digits_in l) (length l) ≡ all_digits l → eqb (pick t 1 0 + digits_in l) (length (x ∷ l)) ≡ (t && all_digits l)
    go true h = more (all_digits l) h
    go false h = ne_eqb (0 + digits_in l) (length (x ∷ l)) (λ e. omega (arith, in_most l, e))

-- ---- one octet a turn

-- the digits of the first i octets are counted
pub record Counted (s : List ℕ) (n i : ℕ) : Type 0 where
  pub inside : i ≤ length s
  pub counted : n + digits_in (drop i s) ≡ digits_in s
  pub most : n ≤ i

pub count_begins : (s : List ℕ) → Counted s 0 0
count_begins s = record { inside = omega arith; counted = omega arith; most = omega arith }

pub count_turn : {s : List ℕ} {n i k : ℕ} → Counted s n i → i < length s → (k ≡ pick (digit (get_or s i 0)) 1 0) × (k ≤ 1) → Counted s (n + k) (i + 1)
unfolding digits_in
count_turn {s} {n} {i} {k} t h e =
    let d : digits_in (drop i s) ≡ k + digits_in (drop (i + 1) s) = rw (drop-cons s i 0 h, add-one i, e.0) refl in
    record { inside = omega arith; counted = omega (arith, t.counted); most = omega arith }

pub count_ends : {s : List ℕ} {n i : ℕ} → Counted s n i → length s ≤ i → eqb n (length s) ≡ all_digits s
unfolding digits_in
count_ends {s} {n} {i} t h =
    let z : digits_in (drop i s) ≡ 0 = ap digits_in (drop_of_length-le s h) in
    let e : n ≡ digits_in s = omega (arith, t.counted) in
    rw e (all_counted s)

pub ruleset counting = (count_begins, count_turn, count_ends)

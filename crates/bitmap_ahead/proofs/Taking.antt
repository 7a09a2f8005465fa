-- What the judges of what is said ahead find.
use Prim.Native.Nat.{ℕ}
use mathlib.Core.Path.{◌≡◌, refl}
use mathlib.Core.Bool.{Bool, false}
use mathlib.Core.List.{List}
use lib.ListN.{length}
use borrow.Author.Tests.{eq-eqb, ne_eqb}
use Rattle.bitmap_ahead.specs.Digits.{all_digits, digits_taken}

-- ---- the exits of `digits_taken`

pub other_count : (n : ℕ) (l : List ℕ) → (length l ≡ n → ⊥) → false ≡ digits_taken n l
unfolding digits_taken
other_count n l h = rw (ne_eqb (length l) n h) refl

pub right_count : (n : ℕ) (l : List ℕ) {t : Bool} → length l ≡ n → t ≡ all_digits l → t ≡ digits_taken n l
unfolding digits_taken
right_count n l h e = rw (eq-eqb (length l) n h) e

pub ruleset counts = (other_count, right_count)

-- Digits: the tests and the plain conditions.
use Prim.Native.Nat.{ℕ}
use mathlib.Core.Path.{◌≡◌, refl}
use mathlib.Core.Bool.{Bool, true, false, ◌&&◌}
use mathlib.Core.List.{List, [], ◌∷◌, ◌++◌}
use lib.ListN.{length}
use lib.Dec.{leb, eqb}
use borrow.Author.Tests.{leb-true, eqb-true, le-leb, eq-eqb}
use Rattle.bits.proofs.Choice.{both}
use Rattle.bitmap_ahead.specs.Digits.{Digit, AllDigits, Digits, digit, all_digits, digits_taken}

-- an octet that passes the test is a digit
pub test_digit : (x : ℕ) → digit x ≡ true → Digit x
unfolding digit
test_digit x e = let b = both (leb 0x30 x) (leb x 0x39) e in (leb-true 0x30 x b.0, leb-true x 0x39 b.1)

-- and the other way round
pub digit_test : (x : ℕ) → Digit x → digit x ≡ true
unfolding digit
digit_test x h = rw (le-leb 0x30 x h.0, le-leb x 0x39 h.1) refl

-- the same of each
pub test_all : (l : List ℕ) → all_digits l ≡ true → AllDigits l
unfolding all_digits
test_all [] e = tt
test_all (x ∷ l) e = let b = both (digit x) (all_digits l) e in (test_digit x b.0, test_all l b.1)

pub all_test : (l : List ℕ) → AllDigits l → all_digits l ≡ true
unfolding all_digits
all_test [] h = refl
all_test (x ∷ l) h = rw (digit_test x h.0, all_test l h.1) refl

-- the same of so many
pub test_digits : (n : ℕ) (l : List ℕ) → digits_taken n l ≡ true → Digits n l
unfolding digits_taken
test_digits n l e = let b = both (eqb (length l) n) (all_digits l) e in record { count = eqb-true (length l) n b.0; each = test_all l b.1 }

pub digits_test : (n : ℕ) (l : List ℕ) → Digits n l → digits_taken n l ≡ true
unfolding digits_taken
digits_test n l h = rw (eq-eqb (length l) n h.count, all_test l h.each) refl

-- two runs of octets are digits where both are
pub all_append : (a b : List ℕ) → all_digits (a ++ b) ≡ (all_digits a && all_digits b)
unfolding all_digits
all_append [] b = refl
all_append (x ∷ a) b = go (digit x) (all_append a b)
  where
    go : (t : Bool) → all_digits (a ++ b) ≡ (all_digits a && all_digits b) → (t && all_digits (a ++ b)) ≡ ((t && all_digits a) && all_digits b)
    go true h = h
    go false h = refl

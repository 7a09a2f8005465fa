-- What holds of a choice and of rules in a row, and the tests that a branch of the code leaves.
use Prim.Native.Nat.{ℕ}
use native.Mathlib.Omega.{arith}
use mathlib.Core.Path.{◌≡◌, refl}
use mathlib.Core.Bool.{Bool, true, false, ◌&&◌}
use borrow.Author.Tests.{lt-ltb, le-ltb, le-leb, lt-leb, eq-eqb, ne_eqb}
use Rattle.bits.specs.Choice.{pick}
use Rattle.bits.specs.Outcome.{Outcome, accepted, refused, and_then}

-- a test of the rules, from the fact that the code has
pub ruleset tests = (lt-ltb, le-ltb, le-leb, lt-leb, eq-eqb, ne_eqb)

-- two choices by one test are equal where their sides are
pub pick_cong {ℓ} : {A : Type ℓ} (t : Bool) {a b c d : A} → (t ≡ true → a ≡ c) → (t ≡ false → b ≡ d) → pick t a b ≡ pick t c d
pick_cong true f g = f refl
pick_cong false f g = g refl

-- what holds of both sides holds of the choice
pub pick_elim {ℓ κ} : {A : Type ℓ} (P : A → Type κ) (t : Bool) {a b : A} → (t ≡ true → P a) → (t ≡ false → P b) → P (pick t a b)
pick_elim P true f g = f refl
pick_elim P false f g = g refl

-- what holds of what the next rule makes and of each refusal holds of the two rules in a row
pub then_elim {κ} : {A B : Type 0} (P : Outcome B → Type κ) (x : Outcome A) {f : A → Outcome B} → ((a : A) → x ≡ accepted a → P (f a)) → ((n p : ℕ) → x ≡ refused n p → P (refused n p)) → P (and_then x f)
then_elim P (accepted a) f g = f a refl
then_elim P (refused n p) f g = g n p refl

-- both sides of a test of two
pub both : (a b : Bool) → (a && b) ≡ true → (a ≡ true) × (b ≡ true)
both true b e = (refl, e)
both false b e = let z : ◌≡◌ {A = ℕ} 0 1 = cc in let n : ⊥ = omega arith in absurd n

-- a test beside one that passes
pub and_true : (a : Bool) → (a && true) ≡ a
and_true true = refl
and_true false = refl

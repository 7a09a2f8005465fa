-- What an answer says of the outcome that it answers.
use Rattle.std.specs.Prelude.{ℕ, ◌≡◌, Result, Ok, Err, refl}
use native.Mathlib.Omega.{arith}
use mathlib.Core.Path.{sym}
use Rattle.bits.specs.Outcome.{Outcome, accepted, refused}
use Rattle.bits.specs.Refusals.{number_of, refusal, answered}
use Rattle.bits.specs.declared.refusal.Refusal.{Refusal}
use Rattle.bits.proofs.Refusals.{grounded, GivenBy}

-- what is accepted is not refused
pub not_refused : {T E B : Type 0} {t : T} {e : E} → ◌≡◌ {A = Result T E} (Ok t) (Err e) → B
not_refused e = let z : ◌≡◌ {A = ℕ} 0 1 = cc in let n : ⊥ = omega arith in absurd n

-- a refusal, by its number and its place
pub by_number : (r : Refusal) → refusal (number_of r.why) r.place.0 ≡ r
by_number r = rw (grounded r.why) refl

-- an outcome that is answered with a refusal is that refusal
pub refusal_answered : {A B : Type 0} (f : A → B) (o : Outcome A) {r : Refusal} → GivenBy o → ◌≡◌ {A = Result B Refusal} (Err r) (answered f o) → o ≡ refused (number_of r.why) r.place.0
refusal_answered f (accepted a) g e = not_refused (sym e)
refusal_answered f (refused n p) {r} g e = let x : r ≡ refusal n p = cc in rw (x, g) refl

-- an outcome that is answered with acceptance is accepted
pub acceptance_answered : {A B : Type 0} (f : A → B) (o : Outcome A) {b : B} → ◌≡◌ {A = Result B Refusal} (Ok b) (answered f o) → (a : A) × (o ≡ accepted a) × (b ≡ f a)
acceptance_answered f (accepted a) {b} e = let x : b ≡ f a = cc in (a, refl, x)
acceptance_answered f (refused n p) e = not_refused e

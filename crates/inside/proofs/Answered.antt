-- What the code answers tells the outcome behind it.
use Prim.Native.Nat.{ℕ}
use mathlib.Core.Path.{◌≡◌, refl, ap, ap₂, sym, ◌∙◌}
use Rattle.std.specs.Prelude.{Ok, Err}
use Rattle.bits.specs.Outcome.{Outcome, accepted, refused}
use Rattle.bits.specs.Refusals.{number_of, refusal, answered}
use Rattle.bits.specs.declared.refusal.Refusal.{Refusal}
use Rattle.bits.proofs.Refusals.{GivenBy}

module _ {A B : Type 0} (f : A → B) where
  -- a refusal is the outcome's
  pub refusal_there : (o : Outcome A) {e : Refusal} → GivenBy o → Err e ≡ answered f o → o ≡ refused (number_of e.why) e.place.0
  refusal_there (accepted a) g h = cc
  refusal_there (refused n p) {e} g h =
      let z : e ≡ refusal n p = cc in
      ap₂ (λ (k q : ℕ). refused k q) (sym g ∙ ap (λ (r : Refusal). number_of r.why) (sym z)) (ap (λ (r : Refusal). r.place.0) (sym z))

  -- what is answered is what was accepted
  pub accepted_there : (o : Outcome A) {b : B} → Ok b ≡ answered f o → (a : A) × (o ≡ accepted a) × (b ≡ f a)
  accepted_there (accepted a) h = (a, refl, cc)
  accepted_there (refused n p) h = cc

-- a refusal is answered alike, whatever is made of what is accepted
pub refusal_passed : {A B C : Type 0} (f : A → B) (g : A → C) (o : Outcome A) {e : Refusal} → Err e ≡ answered f o → Err e ≡ answered g o
refusal_passed f g (accepted a) h = cc
refusal_passed f g (refused n p) {e} h = let z : e ≡ refusal n p = cc in ap (λ (r : Refusal). Err r) z

-- What a rule makes of what it is handed.
use Rattle.std.specs.Prelude.{ℕ, Bool}
use Rattle.bits.specs.Choice.{pick}

-- what is accepted, or the refusal's number and bit place
pub data Outcome (A : Type 0) : Type 0 where
  accepted : A → Outcome A
  refused : ℕ → ℕ → Outcome A

-- what was accepted goes to the next rule
abbrev pub and_then : {A B : Type 0} → Outcome A → (A → Outcome B) → Outcome B
and_then (accepted a) f = f a
and_then (refused n p) f = refused n p

-- a rule that must hold, the refusal where it does not, and what follows
abbrev pub demand : {A : Type 0} → Bool → ℕ → Outcome A → Outcome A
demand holds number next = pick holds next (refused number 0)

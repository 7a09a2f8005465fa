-- `list_rules::beats` meets its contract: the table of the code is that of the rule.
use Rattle.bits.proofs.Below.{none_below}
use native.Mathlib.Omega.{arith}
use Rattle.list_rules.proofs.beats.Goals as goal

-- no code comes to the last arm
pub returns-in_default : goal.returns-in_default
returns-in_default c = absurd (omega (arith, none_below 32 c.in_default.in_default-own.rest))

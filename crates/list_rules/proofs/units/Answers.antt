-- `list_rules::units` meets its contract: each entry of the sheet is the rule's.
use Rattle.bits.proofs.Below.{none_below}
use native.Mathlib.Omega.{arith}
use Rattle.list_rules.proofs.units.Goals as goal

-- no note comes to the last arm
pub returns-in_default : goal.returns-in_default
returns-in_default c = absurd (omega (arith, none_below 32 c.in_default.in_default-own.rest))

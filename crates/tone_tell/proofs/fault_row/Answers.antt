-- `tone_tell::fault_row` meets its contract.
use Rattle.tone_tell.proofs.Packed.{no_row}
use Rattle.tone_tell.proofs.fault_row.Goals as goal

pub returns-in_default : goal.returns-in_default
returns-in_default c = no_row c.in_default.in_default-own.rest

-- `tone_tell::four_notes` meets its contract.
use mathlib.Core.Path.{refl}
use Rattle.tone_tell.proofs.Packed.{notes_told}
use Rattle.tone_tell.proofs.four_notes.Goals as goal

pub returns : goal.returns
returns c = notes_told c.args.x c.requires c.fault_on.ensures c.fault_on-2.ensures c.fault_on-3.ensures c.fault_on-4.ensures refl refl refl

-- `tone_tell::note_on` meets its contract.
use Prim.Native.Nat.{◌/◌}
use lib.Dec.{eqb}
use Rattle.tone_tell.proofs.Packed.{note_number, note_small}
use Rattle.tone_tell.proofs.note_on.Goals as goal

pub returns : goal.returns
returns c = (note_number c.args.x, note_small (eqb (c.args.x / 2305843009213693952) 1))

-- `tone_sound::Marks::new` meets its contract: the row is tested as a whole.
use mathlib.Core.Path.{refl}
use Rattle.tone_sound.specs.Turning.{mark_of}
use Rattle.tone_sound.proofs.Marking.{marks_are}
use Rattle.tone_sound.proofs.Marks.new.Goals as goal

pub returns : goal.returns
unfolding mark_of
returns c = marks_are refl

pub invariant_of-result : goal.invariant_of-result
unfolding mark_of
invariant_of-result c = record { table = marks_are refl }

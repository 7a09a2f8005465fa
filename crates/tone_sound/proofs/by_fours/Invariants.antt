-- `tone_sound::by_fours` meets its contract. What is left falls with each turn.
use Rattle.tone_sound.specs.Answers.{Gone}
use Rattle.tone_sound.proofs.by_fours.Given as goal

abbrev pub invariant-loop-left : goal.invariant-loop-left
invariant-loop-left l = Gone l.whole l.initial.place.0 l.n l.place.0 l.left

abbrev pub decreases-loop-left : goal.decreases-loop-left
decreases-loop-left l = l.left

-- `tone_sound::at_hand` meets its contract. What is left falls by four with each turn.
use Rattle.tone_sound.proofs.Bodies.{Going}
use Rattle.tone_sound.proofs.at_hand.Given as goal

abbrev pub invariant-loop-left : goal.invariant-loop-left
invariant-loop-left l = Going l.whole l.initial.place.0 l.n l.place.0 l.left l.met l.seen.first l.seen.second

abbrev pub decreases-loop-left : goal.decreases-loop-left
decreases-loop-left l = l.left

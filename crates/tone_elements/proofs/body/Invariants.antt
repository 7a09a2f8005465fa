-- `tone_elements::body` meets its contract. What is left to read falls with each turn.
use Rattle.tone_elements.proofs.Walks.{BodyWalk, counted}
use Rattle.tone_elements.proofs.body.Given as goal

abbrev pub invariant-loop-more : goal.invariant-loop-more
invariant-loop-more l = BodyWalk l.msg (counted l.msg l.n l.initial.place.0) l.place.0 l.more l.notes

abbrev pub decreases-loop-more : goal.decreases-loop-more
decreases-loop-more l = l.more

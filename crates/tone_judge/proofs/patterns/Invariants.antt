-- `tone_judge::patterns` meets its contract. Each turn judges one pattern.
use Rattle.tone_judge.proofs.Tallies.{TallyWalk}
use Rattle.tone_judge.proofs.patterns.Given as goal

abbrev pub invariant-loop-left : goal.invariant-loop-left
invariant-loop-left l = TallyWalk l.wish l.named l.msg l.n l.initial.place.0 l.parts l.place.0 l.left l.table l.count l.cut

abbrev pub decreases-loop-left : goal.decreases-loop-left
decreases-loop-left l = l.left

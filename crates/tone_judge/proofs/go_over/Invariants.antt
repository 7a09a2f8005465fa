-- `tone_judge::go_over` meets its contract.
use Rattle.tone_elements.specs.Standing.{body_in}
use Rattle.tone_judge.proofs.Overs.{OverWalk}
use Rattle.tone_judge.proofs.go_over.Given as goal

abbrev pub invariant-loop-left : goal.invariant-loop-left
invariant-loop-left l = OverWalk l.msg (body_in l.msg l.initial.place.0 l.n) l.initial.place.0 l.place.0 l.left l.notes

abbrev pub decreases-loop-left : goal.decreases-loop-left
decreases-loop-left l = l.left

-- `label::left` meets its contract. Each turn leaves out one space.
use Rattle.label.proofs.Trimming.{Trimming}
use Rattle.label.proofs.left.Given as goal

abbrev pub invariant-loop-end : goal.invariant-loop-end
invariant-loop-end l = Trimming l.unicode l.title l.w l.end

abbrev pub decreases-loop-end : goal.decreases-loop-end
decreases-loop-end l = l.end

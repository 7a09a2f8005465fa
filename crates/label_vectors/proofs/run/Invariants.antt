-- `label_vectors::run` meets its contract. The octets of the text left fall.
use Rattle.std.proofs.Common.{◌-◌, length}
use Rattle.label_vectors.proofs.run.Given as goal

abbrev pub invariant-loop-at : goal.invariant-loop-at
invariant-loop-at l = Unit {0}

abbrev pub decreases-loop-at : goal.decreases-loop-at
decreases-loop-at l = length l.text - l.at

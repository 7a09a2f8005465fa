-- `pack::sum_of` meets its contract.
use Rattle.pack.proofs.Turning.{Summing}
use Rattle.pack.proofs.sum_of.Given as goal

abbrev pub invariant-loop-n : goal.invariant-loop-n
invariant-loop-n l = Summing l.lengths l.total l.n-index

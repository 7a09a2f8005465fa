-- `salvage::fronts` meets its contract.
use Rattle.salvage.proofs.Reaching.{Telling}
use Rattle.salvage.proofs.fronts.Given as goal

abbrev pub invariant-loop-i : goal.invariant-loop-i
invariant-loop-i l = Telling l.c l.from l.i l.n

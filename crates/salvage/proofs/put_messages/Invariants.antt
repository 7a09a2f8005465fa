-- `salvage::put_messages` meets its contract.
use Rattle.salvage.proofs.Putting.{Putting}
use Rattle.salvage.proofs.put_messages.Given as goal

abbrev pub invariant-loop-cell : goal.invariant-loop-cell
invariant-loop-cell l = Putting l.c l.cells l.initial.out l.out l.new l.cell-index

-- `salvage::put_report` meets its contract.
use Rattle.salvage.proofs.Putting.{Reporting}
use Rattle.salvage.proofs.put_report.Given as goal

abbrev pub invariant-loop-cell : goal.invariant-loop-cell
invariant-loop-cell l = Reporting l.cells l.initial.report l.report l.new l.at l.cell-index

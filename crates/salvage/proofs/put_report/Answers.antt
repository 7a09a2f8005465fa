-- `salvage::put_report` meets its contract.
use borrow.Author.Rules.{rules}
use Rattle.salvage.proofs.Putting.{report_turn, reporting}
use Rattle.salvage.proofs.put_report.Goals as goal

pub loop-cell-preserved : goal.loop-cell-preserved
loop-cell-preserved c = report_turn _ _ c.requires c.loop-cell.invariant (search rules)

pub returns : goal.returns
returns c = search (reporting, rules)

-- `salvage::put_rows` meets its contract.
use borrow.Author.Rules.{rules}
use Rattle.salvage.proofs.Putting.{rows_turn}
use Rattle.salvage.proofs.put_rows.Goals as goal

pub loop-cell-preserved : goal.loop-cell-preserved
loop-cell-preserved c = search (rows_turn, rules)

-- `salvage::put_messages` meets its contract.
use borrow.Author.Rules.{rules}
use Rattle.salvage.proofs.Putting.{putting, putting_more}
use Rattle.salvage.proofs.put_messages.Goals as goal

pub copy-requires : goal.copy-requires
copy-requires c = search (putting, rules)

pub loop-cell-preserved : goal.loop-cell-preserved
loop-cell-preserved c = search (putting_more, rules)

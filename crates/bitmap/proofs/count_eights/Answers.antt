-- `bitmap::count_eights` meets its contract.
use borrow.Author.Rules.{rules}
use Rattle.bitmap.proofs.Counting.{eights}
use Rattle.bitmap.proofs.count_eights.Goals as goal

pub loop-k-init : goal.loop-k-init
loop-k-init c = search (eights, rules)

pub loop-k-preserved : goal.loop-k-preserved
loop-k-preserved c = search (eights, rules)

-- `bitmap::count_singly` meets its contract.
use borrow.Author.Rules.{rules}
use Rattle.bitmap.proofs.Counting.{octetwise}
use Rattle.bitmap.proofs.count_singly.Goals as goal

pub loop-x-preserved : goal.loop-x-preserved
loop-x-preserved c = search (octetwise, rules)

pub returns : goal.returns
returns c = search (octetwise, rules)

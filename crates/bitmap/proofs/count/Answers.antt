-- `bitmap::count` meets its contract.
use borrow.Author.Rules.{rules}
use Rattle.bitmap.proofs.Counting.{counted_all}
use Rattle.bitmap.proofs.count.Goals as goal

pub returns : goal.returns
returns c = search (counted_all, rules)

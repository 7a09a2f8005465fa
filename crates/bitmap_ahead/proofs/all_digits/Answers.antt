-- `bitmap_ahead::all_digits` meets its contract.
use borrow.Author.Rules.{rules}
use Rattle.bitmap_ahead.proofs.Counting.{counting}
use Rattle.bitmap_ahead.proofs.all_digits.Goals as goal

pub loop-x-preserved : goal.loop-x-preserved
loop-x-preserved c = search (counting, rules)

pub returns : goal.returns
returns c = search (counting, rules)

-- `bitmap_ahead::digits_taken` meets its contract.
use borrow.Author.Rules.{rules}
use Rattle.bitmap_ahead.proofs.Taking.{counts}
use Rattle.bitmap_ahead.proofs.digits_taken.Goals as goal

pub returns-then-s-n : goal.returns-then-s-n
returns-then-s-n c = search (counts, rules)

pub returns-else-s-n : goal.returns-else-s-n
returns-else-s-n c = search (counts, rules)

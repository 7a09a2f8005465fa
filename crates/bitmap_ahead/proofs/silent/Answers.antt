-- `bitmap_ahead::silent` meets its contract.
use borrow.Author.Rules.{rules}
use Rattle.bits.proofs.Choice.{tests}
use Rattle.bitmap_ahead.specs.Ahead.{silent}
use Rattle.bitmap_ahead.proofs.silent.Goals as goal

pub returns-then-is_empty-2 : goal.returns-then-is_empty-2
unfolding silent
returns-then-is_empty-2 c = search (tests, rules)

pub returns-else-is_empty-2 : goal.returns-else-is_empty-2
unfolding silent
returns-else-is_empty-2 c = search (tests, rules)

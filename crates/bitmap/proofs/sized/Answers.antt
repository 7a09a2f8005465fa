-- `bitmap::sized` meets its contract.
use borrow.Author.Rules.{rules}
use Rattle.bits.proofs.Choice.{tests}
use Rattle.bitmap.specs.Image.{sizes_taken}
use Rattle.bitmap.proofs.sized.Goals as goal

pub returns-then-height-ge1 : goal.returns-then-height-ge1
unfolding sizes_taken
returns-then-height-ge1 c = search (tests, rules)

pub returns-else-height-ge1 : goal.returns-else-height-ge1
unfolding sizes_taken
returns-else-height-ge1 c = search (tests, rules)

-- `bitmap_ahead::logo_start` meets its contract.
use borrow.Author.Rules.{rules}
use Rattle.bitmap_ahead.proofs.Standing.{starts}
use Rattle.bitmap_ahead.proofs.logo_start.Goals as goal

-- `bitmap_ahead::logo_start` meets its contract.
pub returns-then-msg-lt6 : goal.returns-then-msg-lt6
returns-then-msg-lt6 c = search (starts, rules)

pub overflow_add-result : goal.overflow_add-result
overflow_add-result c = search (starts, rules)

pub returns : goal.returns
returns c = search (starts, rules)

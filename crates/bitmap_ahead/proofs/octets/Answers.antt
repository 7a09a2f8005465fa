-- `bitmap_ahead::octets` meets its contract.
use borrow.Author.Rules.{rules}
use Rattle.bitmap_ahead.proofs.Putting.{sums}
use Rattle.bitmap_ahead.proofs.octets.Goals as goal

pub overflow_add-result-in-Logo : goal.overflow_add-result-in-Logo
overflow_add-result-in-Logo c = search (sums, rules)

pub overflow_add-result-in-Logo-2 : goal.overflow_add-result-in-Logo-2
overflow_add-result-in-Logo-2 c = search (sums, rules)

pub returns-in-Logo : goal.returns-in-Logo
returns-in-Logo c = search (sums, rules)

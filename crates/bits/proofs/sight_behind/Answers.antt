-- `bits::sight_behind` meets its contract.
use borrow.Author.Rules.{rules}
use Rattle.bits.proofs.Looking.{pairs}
use Rattle.bits.proofs.sight_behind.Goals as goal

pub overflow_add-result : goal.overflow_add-result
overflow_add-result c = search (pairs, rules)

pub returns : goal.returns
returns c = search (pairs, rules)

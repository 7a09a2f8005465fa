-- `bits::full_sight` meets its contract.
use borrow.Author.Rules.{rules}
use Rattle.bits.proofs.Looking.{fulls}
use Rattle.bits.proofs.full_sight.Goals as goal

pub returns-then-o-eq0 : goal.returns-then-o-eq0
returns-then-o-eq0 c = search (fulls, rules)

pub overflow_cast-result-2 : goal.overflow_cast-result-2
overflow_cast-result-2 c = search (fulls, rules)

pub overflow_add-result : goal.overflow_add-result
overflow_add-result c = search (fulls, rules)

pub returns : goal.returns
returns c = search (fulls, rules)

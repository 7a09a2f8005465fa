-- `bits::inner_sight` meets its contract.
use borrow.Author.Rules.{rules}
use Rattle.bits.proofs.Looking.{inner_is}
use Rattle.bits.proofs.inner_sight.Goals as goal

pub returns : goal.returns
returns c = search (inner_is, rules)

-- `bits::sight` meets its contract.
use borrow.Author.Rules.{rules}
use Rattle.bits.proofs.Looking.{sight_is}
use Rattle.bits.proofs.sight.Goals as goal

pub returns : goal.returns
returns c = search (sight_is, rules)

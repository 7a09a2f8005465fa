-- `bits::look` meets its contract.
use borrow.Author.Rules.{rules}
use Rattle.bits.proofs.Looking.{look_is}
use Rattle.bits.proofs.look.Goals as goal

pub returns : goal.returns
returns c = search (look_is, rules)

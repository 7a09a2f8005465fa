-- `bits::through_octet` meets its contract.
use borrow.Author.Rules.{rules}
use Rattle.bits.proofs.Looking.{through_is}
use Rattle.bits.proofs.through_octet.Goals as goal

pub returns : goal.returns
returns c = search (through_is, rules)

-- `bits::octet_at` meets its contract.
use borrow.Author.Rules.{rules}
use Rattle.bits.proofs.Looking.{octet_is}
use Rattle.bits.proofs.octet_at.Goals as goal

pub returns : goal.returns
returns c = search (octet_is, rules)

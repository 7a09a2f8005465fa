-- `bits::wide_window` meets its contract.
use borrow.Author.Rules.{rules}
use Rattle.bits.proofs.Looking.{eight_is}
use Rattle.bits.proofs.wide_window.Goals as goal

pub returns : goal.returns
returns c = search (eight_is, rules)

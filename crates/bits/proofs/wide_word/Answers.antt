-- `bits::wide_word` meets its contract.
use borrow.Author.Rules.{rules}
use Rattle.bits.proofs.Looking.{eight_loaded}
use Rattle.bits.proofs.wide_word.Goals as goal

pub returns : goal.returns
returns c = search (eight_loaded, rules)

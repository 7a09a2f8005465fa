-- `bitmap::count_eight` meets its contract.
use borrow.Author.Rules.{rules}
use Rattle.bitmap.proofs.Ones.{eight_ones, eight_most}
use Rattle.bitmap.proofs.count_eight.Goals as goal

pub returns : goal.returns
returns c = search (eight_ones, eight_most, c.type_inv.s, rules)

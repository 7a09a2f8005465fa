-- `pack::fill` meets its contract.
use borrow.Author.Rules.{rules}
use Rattle.pack.proofs.Filling.{fillings}
use Rattle.pack.proofs.fill.Goals as goal

pub returns : goal.returns
returns c = search (fillings, rules)

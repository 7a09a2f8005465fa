-- `list::list` meets its contract.
use borrow.Author.Rules.{rules}
use Rattle.list.proofs.Outcomes.{cells_alone}
use Rattle.list.proofs.list.Goals as goal

pub returns : goal.returns
returns c = search (cells_alone, rules)

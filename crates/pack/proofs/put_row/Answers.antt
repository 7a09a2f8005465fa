-- `pack::put_row` meets its contract.
use borrow.Author.Rules.{rules}
use Rattle.pack.proofs.Filling.{one_row}
use Rattle.pack.proofs.put_row.Goals as goal

pub returns : goal.returns
returns c = search (one_row, rules)

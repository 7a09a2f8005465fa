-- `pack::Rows::nth` meets its contract.
use borrow.Author.Rules.{rules}
use Rattle.pack.proofs.Nth.{row_lengths}
use Rattle.pack.proofs.RowsLengths.nth.Goals as goal

pub overflow_mul-i : goal.overflow_mul-i
overflow_mul-i c = search (row_lengths, rules)

pub overflow_add-self : goal.overflow_add-self
overflow_add-self c = search (row_lengths, rules)

pub overflow_add-self-2 : goal.overflow_add-self-2
overflow_add-self-2 c = search (row_lengths, rules)

pub number_at-requires : goal.number_at-requires
number_at-requires c = search (row_lengths, rules)

pub returns : goal.returns
returns c = search (row_lengths, rules)

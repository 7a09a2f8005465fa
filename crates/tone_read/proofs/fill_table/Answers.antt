-- `tone_read::fill_table` meets its contract.
use borrow.Author.Rules.{rules}
use Rattle.tone_read.proofs.Filling.{tables}
use Rattle.tone_read.proofs.fill_table.Goals as goal

pub entry_at-c-requires-clause-some_entry : goal.entry_at-c-requires-clause-some_entry
entry_at-c-requires-clause-some_entry c = search (tables, rules)

pub loop-i-preserved : goal.loop-i-preserved
loop-i-preserved c = search (tables, rules)

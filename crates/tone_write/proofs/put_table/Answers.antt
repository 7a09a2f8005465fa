-- `tone_write::put_table` meets its contract. Each turn writes one entry.
use borrow.Author.Rules.{rules}
use Rattle.tone_write.proofs.Pieces.{tables}
use Rattle.tone_write.proofs.put_table.Goals as goal

pub put_entry-s-requires-clause-in_table : goal.put_entry-s-requires-clause-in_table
put_entry-s-requires-clause-in_table c = search (tables, rules)

pub put_entry-s-requires-clause-e_bound : goal.put_entry-s-requires-clause-e_bound
put_entry-s-requires-clause-e_bound c = search (tables, rules)

pub loop-e-preserved : goal.loop-e-preserved
loop-e-preserved c = search (tables, rules)

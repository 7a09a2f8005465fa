-- `tone_read::fill_table` meets its contract. Each turn takes up one entry.
use Rattle.tone_read.specs.Judging.{table_of}
use Rattle.tone_read.proofs.Filling.{TableFill}
use Rattle.tone_read.proofs.fill_table.Given as goal

abbrev pub invariant-loop-i : goal.invariant-loop-i
invariant-loop-i l = TableFill l.msg (table_of l.msg) l.n l.initial.table l.table l.place.0 l.i

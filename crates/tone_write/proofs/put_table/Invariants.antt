-- `tone_write::put_table` meets its contract. Each turn writes one entry.
use Rattle.tone.specs.Writing.{table_bits}
use Rattle.tone_write.proofs.Pieces.{Run}
use Rattle.tone_write.proofs.put_table.Given as goal

abbrev pub invariant-loop-e : goal.invariant-loop-e
invariant-loop-e l = Run table_bits l.table l.initial.s l.initial.out l.out l.s l.e-index

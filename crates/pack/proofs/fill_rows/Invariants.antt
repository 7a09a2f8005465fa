-- `pack::fill_rows` meets its contract.
use Rattle.pack.proofs.Filling.{Rowing}
use Rattle.pack.proofs.fill_rows.Given as goal

abbrev pub invariant-loop-length : goal.invariant-loop-length
invariant-loop-length l = Rowing l.lengths l.initial.out l.initial.at l.out l.start l.at l.length-index

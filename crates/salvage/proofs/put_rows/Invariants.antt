-- `salvage::put_rows` meets its contract.
use Rattle.pack.specs.Pack.{lengths_in}
use Rattle.pack.proofs.Filling.{Rowing}
use Rattle.salvage.specs.Answers.{rows_of}
use Rattle.salvage.proofs.put_rows.Given as goal

abbrev pub invariant-loop-cell : goal.invariant-loop-cell
invariant-loop-cell l = Rowing (lengths_in (rows_of l.cells)) l.initial.out l.initial.at l.out l.start l.at l.cell-index

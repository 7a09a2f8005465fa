-- `vectors::add_cells` meets its contract. The length of the table stays, and its room falls.
use Rattle.std.proofs.Common.{◌≡◌, ◌-◌, length}
use Rattle.vectors.proofs.add_cells.Given as goal

abbrev pub invariant-loop-n : goal.invariant-loop-n
invariant-loop-n l = length l.table ≡ length l.initial.table

abbrev pub decreases-loop-n : goal.decreases-loop-n
decreases-loop-n l = length l.initial.table - l.n

-- `tone_table::judge` meets its contract. Each turn judges one pattern.
use Prim.Native.Nat.{◌-◌}
use lib.ListN.{length}
use Rattle.tone_table.proofs.Walks.{RowWalk}
use Rattle.tone_table.proofs.judge.Given as goal

abbrev pub invariant-loop-i : goal.invariant-loop-i
invariant-loop-i l = RowWalk l.table l.known l.patterns l.bits l.i

abbrev pub decreases-loop-i : goal.decreases-loop-i
decreases-loop-i l = length l.table - l.i

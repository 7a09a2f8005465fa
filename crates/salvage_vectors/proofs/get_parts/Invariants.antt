-- `salvage_vectors::get_parts` meets its contract. The parts left fall.
use Prim.Native.Nat.{◌+◌, ◌-◌}
use lib.ListN.{length}
use Rattle.salvage_vectors.proofs.get_parts.Given as goal

abbrev pub invariant-loop-n : goal.invariant-loop-n
invariant-loop-n l = Unit {0}

abbrev pub decreases-loop-n : goal.decreases-loop-n
decreases-loop-n l = length l.pack + 1 - l.n

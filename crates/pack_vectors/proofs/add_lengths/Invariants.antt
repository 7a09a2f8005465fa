-- `pack_vectors::add_lengths` meets its contract. The number of lengths that there is room for stays, and the times left fall.
use Prim.Native.Nat.{◌-◌}
use mathlib.Core.Path.{◌≡◌}
use lib.ListN.{length}
use Rattle.pack_vectors.proofs.add_lengths.Given as goal

abbrev pub invariant-loop-i : goal.invariant-loop-i
invariant-loop-i l = length l.lengths ≡ length l.initial.lengths

abbrev pub decreases-loop-i : goal.decreases-loop-i
decreases-loop-i l = l.times.value - l.i

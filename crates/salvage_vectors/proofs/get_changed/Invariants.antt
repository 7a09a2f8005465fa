-- `salvage_vectors::get_changed` meets its contract. The length of the pack stays, and the octets left fall.
use Prim.Native.Nat.{◌-◌}
use mathlib.Core.Path.{◌≡◌}
use lib.ListN.{length}
use Rattle.salvage_vectors.proofs.get_changed.Given as goal

abbrev pub invariant-loop-i : goal.invariant-loop-i
invariant-loop-i l = length l.pack ≡ length l.initial.pack

abbrev pub decreases-loop-i : goal.decreases-loop-i
decreases-loop-i l = length l.initial.pack - l.i

-- `pack_vectors::take_out` meets its contract. The lengths of both buffers stay, and the room for lengths falls.
use Prim.Native.Nat.{◌-◌}
use mathlib.Core.Path.{◌≡◌}
use lib.ListN.{length}
use Rattle.pack_vectors.proofs.take_out.Given as goal

abbrev pub invariant-loop-i : goal.invariant-loop-i
invariant-loop-i l = (length l.octets ≡ length l.initial.octets) × (length l.lengths ≡ length l.initial.lengths)

abbrev pub decreases-loop-i : goal.decreases-loop-i
decreases-loop-i l = length l.initial.lengths - l.i

-- `ohakelm_vectors::repeat` meets its contract. The length of the buffer stays, and the times left fall.
use Prim.Native.Nat.{◌-◌}
use mathlib.Core.Path.{◌≡◌}
use lib.ListN.{length}
use Rattle.ohakelm_vectors.proofs.repeat.Given as goal

abbrev pub invariant-loop-i : goal.invariant-loop-i
invariant-loop-i l = length l.buf ≡ length l.initial.buf

abbrev pub decreases-loop-i : goal.decreases-loop-i
decreases-loop-i l = l.times - l.i

-- `pack_vectors::mix_others` meets its contract. The length of the pack stays, and the octets to try fall.
use mathlib.Core.Path.{◌≡◌}
use lib.ListN.{length}
use Rattle.pack_vectors.proofs.mix_others.Given as goal

abbrev pub invariant-loop-by : goal.invariant-loop-by
invariant-loop-by l = length l.pack ≡ length l.initial.pack

abbrev pub decreases-loop-by : goal.decreases-loop-by
decreases-loop-by l = l.by

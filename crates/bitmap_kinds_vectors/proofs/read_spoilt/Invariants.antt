-- `bitmap_kinds_vectors::read_spoilt` meets its contract. The length of the message stays.
use mathlib.Core.Path.{◌≡◌}
use lib.ListN.{length}
use Rattle.bitmap_kinds_vectors.proofs.read_spoilt.Given as goal

abbrev pub invariant-loop-i : goal.invariant-loop-i
invariant-loop-i l = length l.msg ≡ length l.initial.msg

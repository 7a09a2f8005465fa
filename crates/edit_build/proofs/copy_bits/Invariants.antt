-- `edit_build::copy_bits` meets its contract.
use Prim.Native.Nat.{◌+◌, ◌*◌}
use Rattle.bits.specs.Sink.{written}
use Rattle.edit_build.proofs.Copies.{BitCopy}
use Rattle.edit_build.proofs.copy_bits.Given as goal

abbrev pub invariant-loop-left : goal.invariant-loop-left
invariant-loop-left l = BitCopy l.msg l.initial.place.0 l.n (written l.initial.out l.initial.s.octets.0 l.initial.s.n l.initial.s.acc) (8 * l.initial.s.octets.0 + l.initial.s.n) l.initial.out l.place.0 l.left l.out l.s.octets.0 l.s.n l.s.acc

abbrev pub decreases-loop-left : goal.decreases-loop-left
decreases-loop-left l = l.left

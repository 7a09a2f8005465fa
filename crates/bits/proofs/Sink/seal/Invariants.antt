-- `bits::Sink::seal` meets its contract. Each turn hands eight bits over to the buffer; the bits in hand fall.
use Rattle.bits.proofs.Putting.{Turn}
use Rattle.bits.proofs.Sink.seal.Given as goal

abbrev pub invariant-loop-left : goal.invariant-loop-left
invariant-loop-left l = Turn l.initial.buf l.initial.at l.initial.left l.bits l.buf l.at l.left

abbrev pub decreases-loop-left : goal.decreases-loop-left
decreases-loop-left l = l.left

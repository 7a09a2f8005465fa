-- `bits::Sink::seal` meets its contract. Each turn hands eight bits over to the buffer; the bits in hand fall.
use native.Mathlib.Omega.{arith}
use Rattle.bits.proofs.Putting.{turn, begin, finish}
use Rattle.bits.proofs.Sink.seal.Goals as goal

pub loop-left-init : goal.loop-left-init
loop-left-init c =
    let a = c.args in
    begin a.buf.now a.self.octets.0 a.self.n a.self.acc _ a.self.in_hand (omega arith)

pub loop-left-preserved : goal.loop-left-preserved
loop-left-preserved c = turn c.loop-left.invariant (omega arith) (omega arith)

pub returns : goal.returns
returns c =
    let a = c.args in
    finish a.buf.now a.self.octets.0 a.self.n a.self.acc _ a.self.in_hand (omega arith) (omega arith) c.loop-left.invariant (omega arith)

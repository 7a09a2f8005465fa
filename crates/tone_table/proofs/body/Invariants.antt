-- `tone_table::body` meets its contract. Each turn judges one instruction.
use Rattle.tone_table.proofs.Weights.{BodyWalk}
use Rattle.tone_table.proofs.body.Given as goal

abbrev pub invariant-loop-e : goal.invariant-loop-e
invariant-loop-e l = BodyWalk l.rest l.n l.e-index l.bits

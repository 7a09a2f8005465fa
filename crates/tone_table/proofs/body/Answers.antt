-- `tone_table::body` meets its contract. Each turn judges one instruction.
use borrow.Author.Rules.{rules}
use Rattle.tone_table.proofs.Weights.{body_on, body_fault, body_small}
use Rattle.tone_table.proofs.body.Goals as goal

pub returns-in_err-bits : goal.returns-in_err-bits
returns-in_err-bits c = let e = body_fault c.loop-e.invariant c.min-due.ensures c.loop-e-test.true c.instruction.ensures c.in_err-bits.was in search rules

pub overflow_add-bits : goal.overflow_add-bits
overflow_add-bits c = body_small c.loop-e.invariant c.min-due.ensures c.loop-e-test.true c.instruction.ensures c.in_ok-bits.was c.requires

pub loop-e-preserved : goal.loop-e-preserved
loop-e-preserved c = body_on c.loop-e.invariant c.min-due.ensures c.loop-e-test.true c.instruction.ensures c.in_ok-bits.was

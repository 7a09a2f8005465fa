-- `list_fill::fill_few` meets its contract.
use borrow.Author.Rules.{rules}
use native.Mathlib.Omega.{arith}
use Rattle.list_fill.proofs.Walking.{few_counted, few_done, few_instruction, few_room, seeings}
use Rattle.list_fill.proofs.fill_few.Goals as goal

pub loop-init : goal.loop-init
loop-init c = search (seeings, rules)

pub step-walk-requires-clause-instruction : goal.step-walk-requires-clause-instruction
step-walk-requires-clause-instruction c =
    (few_instruction c.loop.invariant (omega (arith, c.loop-test.true)) c.sight-s.ensures, few_room c.loop.invariant (omega (arith, c.loop-test.true)) c.sight-s.ensures)

pub loop-preserved : goal.loop-preserved
loop-preserved c = few_counted c.loop.invariant c.loop-test.true c.sight-s.ensures c.step-walk.ensures

pub returns : goal.returns
returns c = few_done c.loop.invariant (omega (arith, c.loop-test.false))

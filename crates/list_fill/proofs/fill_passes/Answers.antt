-- `list_fill::fill_passes` meets its contract.
use borrow.Author.Rules.{rules}
use native.Mathlib.Omega.{arith}
use Rattle.list_fill.proofs.Walking.{times_counted, times_room, timings}
use Rattle.list_fill.proofs.fill_passes.Goals as goal

pub loop-init : goal.loop-init
loop-init c = search (timings, rules)

pub fill_pass-walk-requires-clause-n_in_bounds : goal.fill_pass-walk-requires-clause-n_in_bounds
fill_pass-walk-requires-clause-n_in_bounds c = times_room c.loop.invariant (omega (arith, c.loop-test.true)) c.begun.ensures

pub loop-preserved : goal.loop-preserved
loop-preserved c = times_counted c.loop.invariant c.loop-test.true c.begun.ensures c.fill_pass-walk.ensures

-- `list_fill::fill_list` meets its contract.
use native.Mathlib.Omega.{arith}
use native.Mathlib.Numerals.{unary_clauses}
use Rattle.list_fill.proofs.Fillings.{list_begins, list_entry, list_unknown, list_body, list_fits, list_ends, list_header, list_on, list_done, listed}
use Rattle.list_fill.proofs.fill_list.Goals as goal

pub loop-init : goal.loop-init
loop-init c = let p = c.requires in simp unary_clauses (list_begins p.patterns_at p.n_in_bounds c.start-walk.ensures)

pub entry_at-head-requires-clause-some_entry : goal.entry_at-head-requires-clause-some_entry
entry_at-head-requires-clause-some_entry c = list_entry c.loop.invariant (omega (arith, c.loop-test.true))

pub returns-in_default : goal.returns-in_default
returns-in_default c =
    absurd (list_unknown c.loop.invariant (omega (arith, c.loop-test.true)) c.entry_at-head.ensures c.part_after-part.ensures c.in_default.is)

pub fill_passes-walk-requires-clause-body_at : goal.fill_passes-walk-requires-clause-body_at
fill_passes-walk-requires-clause-body_at c =
    list_body c.loop.invariant (omega (arith, c.loop-test.true)) c.entry_at-head.ensures c.part_after-part.ensures c.in-Some.is

pub fill_passes-walk-requires-clause-value_in_bounds : goal.fill_passes-walk-requires-clause-value_in_bounds
fill_passes-walk-requires-clause-value_in_bounds c =
    list_fits c.loop.invariant (omega (arith, c.loop-test.true)) c.entry_at-head.ensures c.part_after-part.ensures c.in-Some.is

pub returns-then-value-eq15 : goal.returns-then-value-eq15
returns-then-value-eq15 c =
    list_ends c.loop.invariant (omega (arith, c.loop-test.true)) c.entry_at-head.ensures c.part_after-part.ensures c.in-Some.is c.fill_passes-walk.ensures c.if-value-eq15.true

pub next_header-walk-requires : goal.next_header-walk-requires
next_header-walk-requires c =
    (c.fill_passes-walk.ensures.ready, list_header c.loop.invariant (omega (arith, c.loop-test.true)) c.entry_at-head.ensures c.part_after-part.ensures c.in-Some.is c.fill_passes-walk.ensures)

pub loop-preserved : goal.loop-preserved
loop-preserved c =
    listed c.args.n c.loop.counter (list_on c.loop.invariant (omega (arith, c.loop-test.true)) c.entry_at-head.ensures c.part_after-part.ensures c.in-Some.is c.fill_passes-walk.ensures c.if-value-eq15.false c.behind_pattern-place.ensures c.next_header-walk.ensures)

pub returns : goal.returns
returns c = list_done c.loop.invariant (omega (arith, c.loop-test.false))

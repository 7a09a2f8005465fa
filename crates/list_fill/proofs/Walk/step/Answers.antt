-- `list_fill::Walk::step` meets its contract.
use borrow.Author.Rules.{rules}
use Rattle.list_fill.proofs.Stepping.{steps}
use Rattle.list_fill.proofs.Walk.step.Goals as goal

pub units-units-requires : goal.units-units-requires
units-units-requires c = search (steps, rules)

pub duration_step-lasted-requires : goal.duration_step-lasted-requires
duration_step-lasted-requires c =
    record {
      units_bound = search (steps, rules);
      timed = search (steps, rules);
    }

pub overflow_add-origin : goal.overflow_add-origin
overflow_add-origin c = let p = c.requires in search (rules, p.ready.0.headers, p.ready.0.positions)

pub put_cells-cells-requires : goal.put_cells-cells-requires
put_cells-cells-requires c = search (steps, rules)

pub overflow_add-next : goal.overflow_add-next
overflow_add-next c = let p = c.requires in search (rules, p.ready.1)

pub returns-then-x-eq1 : goal.returns-then-x-eq1
returns-then-x-eq1 c = let p = c.requires in search (steps, rules, p.ready, p.instruction)

pub width-n-requires : goal.width-n-requires
width-n-requires c = search (steps, rules)

pub overflow_shr-payload : goal.overflow_shr-payload
overflow_shr-payload c = search (steps, rules)

pub overflow_cast-payload-2 : goal.overflow_cast-payload-2
overflow_cast-payload-2 c = search (steps, rules)

pub overflow_add-kind : goal.overflow_add-kind
overflow_add-kind c = search (steps, rules)

pub beats-beats-requires : goal.beats-beats-requires
beats-beats-requires c = search (steps, rules)

pub inverse-requires : goal.inverse-requires
inverse-requires c = search (steps, rules)

pub returns-then-kind-eq4 : goal.returns-then-kind-eq4
returns-then-kind-eq4 c = search (steps, rules)

pub base-requires : goal.base-requires
base-requires c = search (steps, rules)

pub returns : goal.returns
returns c = search (steps, rules)

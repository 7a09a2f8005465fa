-- `bitmap_kinds::field_of` meets its contract.
use borrow.Author.Rules.{rules}
use native.Mathlib.Omega.{arith}
use Rattle.bitmap_kinds.proofs.Exits.{field_ends, stretches}
use Rattle.bitmap_kinds.proofs.field_of.Goals as goal

pub fields_at-requires : goal.fields_at-requires
fields_at-requires c = search (stretches, rules)

pub overflow_add-end : goal.overflow_add-end
overflow_add-end c = omega (arith, field_ends c.args.kind c.args.field c.args.msg.now c.judge.ensures c.in-Ok.is c.start-start.ensures.0 c.fields_at.ensures c.one_of-s.ensures)

pub slice_bounds-result-end : goal.slice_bounds-result-end
slice_bounds-result-end c = search (stretches, rules)

pub returns-in-Ok : goal.returns-in-Ok
returns-in-Ok c = search (stretches, rules)

pub returns-in-Err : goal.returns-in-Err
returns-in-Err c = search (stretches, rules)

-- `list_rules::duration_step` meets its contract.
use borrow.Author.Rules.{rules}
use Rattle.list_rules.proofs.Durations.{dividing, step_lasts}
use Rattle.list_rules.proofs.duration_step.Goals as goal

pub overflow_mul-whole : goal.overflow_mul-whole
overflow_mul-whole c = search (dividing, rules)

pub overflow_cast-whole-2 : goal.overflow_cast-whole-2
overflow_cast-whole-2 c = search (dividing, rules)

pub overflow_mul-result : goal.overflow_mul-result
overflow_mul-result c = search (dividing, rules)

pub overflow_sub-result : goal.overflow_sub-result
overflow_sub-result c = search (dividing, rules)

pub returns : goal.returns
returns c = let p = c.requires in step_lasts p.units_bound p.timed

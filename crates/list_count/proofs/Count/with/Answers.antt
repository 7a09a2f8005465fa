-- `Count::with` meets its contract.
use borrow.Author.Rules.{rules}
use Rattle.list_count.proofs.Counts.{notes_times, counts}
use native.Mathlib.Omega.{arith}
use Rattle.list_count.proofs.Count.with.Goals as goal

pub returns-then-self : goal.returns-then-self
returns-then-self c = search (counts, rules)

pub overflow_mul-entries : goal.overflow_mul-entries
overflow_mul-entries c = let m = notes_times c.args.notes c.passes_of.result (omega arith) (omega arith) in omega arith

pub overflow_add-entries : goal.overflow_add-entries
overflow_add-entries c = let m = notes_times c.args.notes c.passes_of.result (omega arith) (omega arith) in omega arith

pub returns-then-value-eq15 : goal.returns-then-value-eq15
returns-then-value-eq15 c = search (counts, rules)

pub returns : goal.returns
returns c = search (counts, rules)

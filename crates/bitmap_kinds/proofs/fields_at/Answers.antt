-- `bitmap_kinds::fields_at` meets its contract.
use borrow.Author.Rules.{rules}
use Rattle.bitmap_kinds.proofs.Exits.{fields}
use Rattle.bitmap_kinds.proofs.fields_at.Goals as goal

pub overflow_sub-start : goal.overflow_sub-start
overflow_sub-start c = search (fields, rules)

pub returns-in-Plain : goal.returns-in-Plain
returns-in-Plain c = search (fields, rules)

pub returns-in-Logo : goal.returns-in-Logo
returns-in-Logo c = search (fields, rules)

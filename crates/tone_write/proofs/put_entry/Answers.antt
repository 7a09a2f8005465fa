-- `tone_write::put_entry` meets its contract.
use borrow.Author.Rules.{rules}
use Rattle.tone_write.proofs.Pieces.{entries, notes}
use Rattle.tone_write.proofs.put_entry.Goals as goal

pub put-requires : goal.put-requires
put-requires c = search (notes, rules)

pub returns-then-kind-eq1 : goal.returns-then-kind-eq1
returns-then-kind-eq1 c = search (notes, rules)

pub overflow_add-kind : goal.overflow_add-kind
overflow_add-kind c = search (entries, rules)

pub put-requires-2 : goal.put-requires-2
put-requires-2 c = (search rules, search (entries, rules), search (entries, rules))

pub returns : goal.returns
returns c = search (entries, rules)

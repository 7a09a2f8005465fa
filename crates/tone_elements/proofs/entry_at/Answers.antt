-- `tone_elements::entry_at` meets its contract.
use borrow.Author.Rules.{rules}
use Rattle.tone_elements.proofs.Standing.{entry_passed, note_passed, some_kind}
use Rattle.tone_elements.proofs.entry_at.Goals as goal

pub returns-then-kind-eq1 : goal.returns-then-kind-eq1
returns-then-kind-eq1 c = search (entry_passed, note_passed, some_kind, rules)

pub width-requires : goal.width-requires
width-requires c = search (entry_passed, note_passed, some_kind, rules)

pub entry_of-requires-2 : goal.entry_of-requires-2
entry_of-requires-2 c = search (entry_passed, note_passed, some_kind, rules)

pub returns : goal.returns
returns c = λ e b h. entry_passed (search rules) h (search rules) (search rules) c.entry_of-2.ensures

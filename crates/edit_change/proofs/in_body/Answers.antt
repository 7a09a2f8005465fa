-- `edit_change::in_body` meets its contract.
use borrow.Author.Rules.{rules}
use Rattle.edit_change.proofs.Grounds.{kinds}
use Rattle.edit_change.proofs.in_body.Goals as goal

pub returns-in-Replace : goal.returns-in-Replace
returns-in-Replace c = search (kinds, rules)

pub returns-in-Insert : goal.returns-in-Insert
returns-in-Insert c = search (kinds, rules)

pub returns-in-Delete : goal.returns-in-Delete
returns-in-Delete c = search (kinds, rules)

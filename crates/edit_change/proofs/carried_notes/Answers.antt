-- `edit_change::carried_notes` meets its contract.
use borrow.Author.Rules.{rules}
use Rattle.edit_change.proofs.Pieces.{noteds}
use Rattle.edit_change.proofs.carried_notes.Goals as goal

pub returns-in-Replace : goal.returns-in-Replace
returns-in-Replace c = search (noteds, rules)

pub returns-in-Insert : goal.returns-in-Insert
returns-in-Insert c = search (noteds, rules)

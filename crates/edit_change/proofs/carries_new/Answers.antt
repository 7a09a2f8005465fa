-- `edit_change::carries_new` meets its contract.
use borrow.Author.Rules.{rules}
use Rattle.edit_change.proofs.Pieces.{carries}
use Rattle.edit_change.proofs.carries_new.Goals as goal

pub returns-in-Replace : goal.returns-in-Replace
returns-in-Replace c = search (carries, rules)

pub returns-in-Insert : goal.returns-in-Insert
returns-in-Insert c = search (carries, rules)

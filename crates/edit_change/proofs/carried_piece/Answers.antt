-- `edit_change::carried_piece` meets its contract.
use borrow.Author.Rules.{rules}
use Rattle.edit_change.proofs.Pieces.{puts}
use Rattle.edit_change.proofs.carried_piece.Goals as goal

pub piece_of-requires : goal.piece_of-requires
piece_of-requires c = search (puts, rules)

pub piece_of-requires-in-Insert : goal.piece_of-requires-in-Insert
piece_of-requires-in-Insert c = search (puts, rules)

pub returns-in-Replace : goal.returns-in-Replace
returns-in-Replace c = search (puts, rules)

pub returns-in-Insert : goal.returns-in-Insert
returns-in-Insert c = search (puts, rules)

pub returns-in-Delete : goal.returns-in-Delete
returns-in-Delete c = search (puts, rules)

-- `edit_change::piece_of` meets its contract.
use borrow.Author.Rules.{rules}
use Rattle.edit_change.proofs.Pieces.{pieces}
use Rattle.edit_change.proofs.piece_of.Goals as goal

pub width-w-requires : goal.width-w-requires
width-w-requires c = search (pieces, rules)

pub overflow_add-result-2 : goal.overflow_add-result-2
overflow_add-result-2 c = search (pieces, rules)

pub returns : goal.returns
returns c = search (pieces, rules)

-- `tone_elements::note_in` meets its contract.
use borrow.Author.Rules.{rules}
use Rattle.bits.proofs.Choice.{tests}
use Rattle.tone_elements.proofs.note_in.Goals as goal

pub returns-then-cell-eq1 : goal.returns-then-cell-eq1
returns-then-cell-eq1 c = search (tests, rules)

pub returns-else-cell-eq1 : goal.returns-else-cell-eq1
returns-else-cell-eq1 c = search (tests, rules)

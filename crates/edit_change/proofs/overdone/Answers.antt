-- `edit_change::overdone` meets its contract.
use borrow.Author.Rules.{rules}
use Rattle.edit_change.proofs.Grounds.{kinds}
use Rattle.edit_change.proofs.overdone.Goals as goal

pub returns-then-n-eq255 : goal.returns-then-n-eq255
returns-then-n-eq255 c = search (kinds, rules)

pub returns-then-n-eq1 : goal.returns-then-n-eq1
returns-then-n-eq1 c = search (kinds, rules)

pub returns-else-n-eq255 : goal.returns-else-n-eq255
returns-else-n-eq255 c = search (kinds, rules)

pub returns-else-n-eq1 : goal.returns-else-n-eq1
returns-else-n-eq1 c = search (kinds, rules)

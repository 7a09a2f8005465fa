-- `edit_change::ground` meets its contract.
use borrow.Author.Rules.{rules}
use Rattle.edit_change.proofs.Grounds.{grounds}
use Rattle.edit_change.proofs.ground.Goals as goal

pub returns-then-n-lt1 : goal.returns-then-n-lt1
returns-then-n-lt1 c = search (grounds, rules)

pub returns-then-in_body : goal.returns-then-in_body
returns-then-in_body c = search (grounds, rules)

pub returns : goal.returns
returns c = search (grounds, rules)

-- `edit_change::is_new` meets its contract.
use borrow.Author.Rules.{rules}
use Rattle.edit_change.proofs.Pieces.{news}
use Rattle.edit_change.proofs.is_new.Goals as goal

pub returns-then-kind-lt1 : goal.returns-then-kind-lt1
returns-then-kind-lt1 c = search (news, rules)

pub returns-then-kind-gt5 : goal.returns-then-kind-gt5
returns-then-kind-gt5 c = search (news, rules)

pub returns-then-payload-width : goal.returns-then-payload-width
returns-then-payload-width c = search (news, rules)

pub returns : goal.returns
returns c = search (news, rules)

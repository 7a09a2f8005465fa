-- `label::supplied` meets its contract.
use borrow.Author.Rules.{rules}
use Rattle.label.proofs.Exits.{supplies}
use Rattle.label.proofs.supplied.Goals as goal

pub returns-then-n-ne0 : goal.returns-then-n-ne0
returns-then-n-ne0 c = search (supplies, rules)

pub returns-else-n-ne0 : goal.returns-else-n-ne0
returns-else-n-ne0 c = search (supplies, rules)

pub returns-else-not-odd : goal.returns-else-not-odd
returns-else-not-odd c = search (supplies, rules)

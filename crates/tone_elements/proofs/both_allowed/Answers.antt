-- `tone_elements::both_allowed` meets its contract.
use borrow.Author.Rules.{rules}
use Rattle.tone_elements.proofs.Titles.{holding}
use Rattle.tone_elements.proofs.both_allowed.Goals as goal

pub returns-then-unicode : goal.returns-then-unicode
returns-then-unicode c = search (holding, rules)

pub returns : goal.returns
returns c = search (holding, rules)

-- `tone_elements::span` meets its contract.
use borrow.Author.Rules.{rules}
use Rattle.tone_elements.proofs.Titles.{spans}
use Rattle.tone_elements.proofs.span.Goals as goal

pub returns-then-unicode : goal.returns-then-unicode
returns-then-unicode c = search (spans, rules)

pub returns-else-unicode : goal.returns-else-unicode
returns-else-unicode c = search (spans, rules)

-- `bitmap_kinds::behind` meets its contract.
use borrow.Author.Rules.{rules}
use Rattle.bitmap_kinds.proofs.Exits.{behinds}
use Rattle.bitmap_kinds.proofs.behind.Goals as goal

pub returns-then-msg-start : goal.returns-then-msg-start
returns-then-msg-start c = search (behinds, rules)

pub returns-then-stands : goal.returns-then-stands
returns-then-stands c = search (behinds, rules)

pub returns : goal.returns
returns c = search (behinds, rules)

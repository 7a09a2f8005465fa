-- `tone_elements::any` meets its contract.
use borrow.Author.Rules.{rules}
use Rattle.tone_elements.proofs.Elements.{elements}
use Rattle.tone_elements.proofs.any.Goals as goal

pub returns-then-left-w : goal.returns-then-left-w
returns-then-left-w c = search (elements, rules)

pub returns : goal.returns
returns c = search (elements, rules)

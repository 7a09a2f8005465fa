-- `tone_elements::width` meets its contract.
use borrow.Author.Rules.{rules}
use Rattle.tone_elements.proofs.Elements.{width_packed}
use Rattle.tone_elements.proofs.width.Goals as goal

pub returns : goal.returns
returns c = search (width_packed, rules)

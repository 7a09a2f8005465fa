-- `tone_elements::ending` meets its contract.
use borrow.Author.Rules.{rules}
use Rattle.tone_elements.proofs.Openings.{ending_told}
use Rattle.tone_elements.proofs.ending.Goals as goal

pub returns-then-through_octet-eq0 : goal.returns-then-through_octet-eq0
returns-then-through_octet-eq0 c = search (ending_told, rules)

-- `tone_elements::required` meets its contract.
use borrow.Author.Rules.{rules}
use Rattle.tone_elements.proofs.Openings.{dues}
use Rattle.tone_elements.proofs.required.Goals as goal

pub returns-in_err-seen : goal.returns-in_err-seen
returns-in_err-seen c = search (dues, rules)

pub returns-then-seen-code : goal.returns-then-seen-code
returns-then-seen-code c = search (dues, rules)

pub returns : goal.returns
returns c = search (dues, rules)

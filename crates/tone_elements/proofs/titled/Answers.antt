-- `tone_elements::titled` meets its contract.
use borrow.Author.Rules.{rules}
use Rattle.tone_elements.proofs.Openings.{titles}
use Rattle.tone_elements.proofs.titled.Goals as goal

pub returns-in_err-title : goal.returns-in_err-title
returns-in_err-title c = search (titles, rules)

pub any-requires-clause-within : goal.any-requires-clause-within
any-requires-clause-within c = search (titles, rules)

pub returns-in_err-count : goal.returns-in_err-count
returns-in_err-count c = search (titles, rules)

pub returns-then-count-eq0 : goal.returns-then-count-eq0
returns-then-count-eq0 c = search (titles, rules)

pub returns : goal.returns
returns c = search (titles, rules)

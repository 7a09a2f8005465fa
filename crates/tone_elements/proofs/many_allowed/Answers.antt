-- `tone_elements::many_allowed` meets its contract.
use borrow.Author.Rules.{rules}
use Rattle.tone_elements.proofs.Titles.{rows}
use Rattle.tone_elements.proofs.many_allowed.Goals as goal

pub returns-then-all-le128 : goal.returns-then-all-le128
returns-then-all-le128 c = search (rows, rules)

pub returns-then-both_allowed : goal.returns-then-both_allowed
returns-then-both_allowed c = search (rows, rules)

pub returns : goal.returns
returns c = search (rows, rules)

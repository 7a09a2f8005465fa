-- `tone_elements::spelled` meets its contract.
use borrow.Author.Rules.{rules}
use Rattle.tone_elements.proofs.Openings.{commands}
use Rattle.tone_elements.proofs.spelled.Goals as goal

pub returns-in_err-length : goal.returns-in_err-length
returns-in_err-length c = search (commands, rules)

pub parts-requires : goal.parts-requires
parts-requires c = search (commands, rules)

pub returns-then-length-eq2 : goal.returns-then-length-eq2
returns-then-length-eq2 c = search (commands, rules)

pub parts-requires-then-length-eq3 : goal.parts-requires-then-length-eq3
parts-requires-then-length-eq3 c = search (commands, rules)

pub returns-then-length-eq3 : goal.returns-then-length-eq3
returns-then-length-eq3 c = search (commands, rules)

pub returns : goal.returns
returns c = search (commands, rules)

-- `tone_elements::header` meets its contract.
use borrow.Author.Rules.{rules}
use Rattle.tone_elements.proofs.Elements.{headers}
use Rattle.tone_elements.proofs.header.Goals as goal

pub returns-then-rest-lt3 : goal.returns-then-rest-lt3
returns-then-rest-lt3 c = search (headers, rules)

pub returns-then-x-ne0 : goal.returns-then-x-ne0
returns-then-x-ne0 c = search (headers, rules)

pub returns-then-rest-lt17 : goal.returns-then-rest-lt17
returns-then-rest-lt17 c = search (headers, rules)

pub returns : goal.returns
returns c = search (headers, rules)

-- `tone_elements::instruction` meets its contract.
use borrow.Author.Rules.{rules}
use Rattle.tone_elements.proofs.Elements.{instructions}
use Rattle.tone_elements.proofs.instruction.Goals as goal

pub returns-then-left-lt3 : goal.returns-then-left-lt3
returns-then-left-lt3 c = search (instructions, rules)

pub payload-requires-clause-w_value : goal.payload-requires-clause-w_value
payload-requires-clause-w_value c = search (instructions, rules)

pub returns-then-kind-eq0 : goal.returns-then-kind-eq0
returns-then-kind-eq0 c = search (instructions, rules)

pub returns-then-kind-gt5 : goal.returns-then-kind-gt5
returns-then-kind-gt5 c = search (instructions, rules)

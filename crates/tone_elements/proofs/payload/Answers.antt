-- `tone_elements::payload` meets its contract.
use borrow.Author.Rules.{rules}
use Rattle.tone_elements.proofs.Elements.{payloads}
use Rattle.tone_elements.proofs.payload.Goals as goal

pub returns-then-left-w : goal.returns-then-left-w
returns-then-left-w c = search (payloads, rules)

pub returns-then-allowed : goal.returns-then-allowed
returns-then-allowed c = search (payloads, rules)

pub returns : goal.returns
returns c = search (payloads, rules)

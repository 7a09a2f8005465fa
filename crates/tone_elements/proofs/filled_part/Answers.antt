-- `tone_elements::filled_part` meets its contract.
use borrow.Author.Rules.{rules}
use Rattle.tone_elements.proofs.Openings.{commands, filled_next}
use Rattle.tone_elements.proofs.filled_part.Goals as goal

pub returns-in_err-part : goal.returns-in_err-part
returns-in_err-part c = search (commands, rules)

pub required-requires-2-clause-within : goal.required-requires-2-clause-within
required-requires-2-clause-within c = search (commands, rules)

pub returns : goal.returns
returns c = filled_next c.args.msg.now c.args.at.0 c.args.code c.required.ensures c.in_ok-part.was c.required-2.ensures

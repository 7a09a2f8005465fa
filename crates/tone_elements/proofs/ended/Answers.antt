-- `tone_elements::ended` meets its contract.
use borrow.Author.Rules.{rules}
use Rattle.tone_elements.proofs.Openings.{endings, ending_bad, ending_next}
use Rattle.tone_elements.proofs.ended.Goals as goal

pub returns-then-filler-eq0 : goal.returns-then-filler-eq0
returns-then-filler-eq0 c = search (endings, rules)

pub returns-in_err-run : goal.returns-in_err-run
returns-in_err-run c = search (ending_bad c.args.msg.now c.args.at.0 c.place_after-reached.ensures c.octets_to.ensures c.required-2.ensures c.in_err-run.was, rules)

pub required-requires-3-clause-within : goal.required-requires-3-clause-within
required-requires-3-clause-within c = search (endings, rules)

pub returns : goal.returns
returns c = ending_next c.args.msg.now c.args.at.0 c.place_after-reached.ensures c.octets_to.ensures c.required-2.ensures c.in_ok-run.was c.required-3.ensures

-- `tone_elements::singly` meets its contract.
use borrow.Author.Rules.{rules}
use Rattle.tone_elements.proofs.Walks.{bodies, counted_more}
use Rattle.tone_elements.proofs.singly.Goals as goal

pub returns-in_err-seen : goal.returns-in_err-seen
returns-in_err-seen c = search (bodies, rules)

pub loop-preserved : goal.loop-preserved
loop-preserved c = counted_more c.loop.invariant c.loop-test.true c.instruction.ensures c.in_ok-seen.was c.note_in-notes.ensures

pub returns : goal.returns
returns c = search (bodies, rules)

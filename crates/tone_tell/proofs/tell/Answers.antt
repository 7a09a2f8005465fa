-- `tone_tell::tell` meets its contract.
use borrow.Author.Rules.{rules}
use Rattle.tone_tell.proofs.Counting.{as_due}
use Rattle.tone_tell.proofs.tell.Goals as goal

pub four_notes-requires : goal.four_notes-requires
four_notes-requires c = c.notes_alone.ensures.holds c.if-notes_alone.true

pub returns-then-notes_alone : goal.returns-then-notes_alone
returns-then-notes_alone c = search (as_due, rules)

pub returns : goal.returns
returns c = search (as_due, rules)

-- `tone_tell::notes_alone` meets its contract.
use borrow.Author.Rules.{rules}
use Rattle.tone_tell.proofs.Packed.{all_notes}
use Rattle.tone_tell.proofs.notes_alone.Goals as goal

pub returns : goal.returns
returns c = search (all_notes, rules)

-- `tone_sound::end_behind` meets its contract.
use borrow.Author.Rules.{rules}
use Rattle.tone_sound.proofs.Standing.{ended}
use Rattle.tone_sound.proofs.end_behind.Goals as goal

pub returns-then-whole-reached : goal.returns-then-whole-reached
returns-then-whole-reached c = search (ended, rules)

pub returns-then-through_octet-filler-ne0 : goal.returns-then-through_octet-filler-ne0
returns-then-through_octet-filler-ne0 c = search (ended, rules)

pub returns : goal.returns
returns c = search (ended, rules)

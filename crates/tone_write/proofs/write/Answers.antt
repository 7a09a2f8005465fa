-- `tone_write::write` meets its contract.
use borrow.Author.Rules.{rules}
use Rattle.tone_write.proofs.Told.{writings, spellings}
use Rattle.tone_write.proofs.write.Goals as goal

pub returns-then-song-eq0 : goal.returns-then-song-eq0
returns-then-song-eq0 c = search (writings, rules)

pub returns-then-not-titled : goal.returns-then-not-titled
returns-then-not-titled c = search (writings, rules)

pub returns-then-not-legible : goal.returns-then-not-legible
returns-then-not-legible c = search (writings, spellings, rules)

-- `tone_sound::song` meets its contract.
use borrow.Author.Rules.{rules}
use Rattle.tone_sound.proofs.Standing.{song_none, opened_within, song_told}
use Rattle.tone_sound.proofs.song.Goals as goal

pub returns-in_err-opened : goal.returns-in_err-opened
returns-in_err-opened c = search (song_none _ _ c.place_after.ensures c.front.ensures c.requires.0 c.in_err-opened.was, rules)

pub patterns-requires : goal.patterns-requires
patterns-requires c = opened_within _ _ c.place_after.ensures c.front.ensures c.in_ok-opened.was c.requires.1

pub returns : goal.returns
returns c = song_told _ _ c.place_after.ensures c.front.ensures c.in_ok-opened.was c.requires.0 c.patterns.ensures

-- `tone_sound::tone_at` meets its contract.
use native.Mathlib.Omega.{arith}
use borrow.Author.Rules.{rules}
use Rattle.tone_sound.proofs.Standing.{tone_none, song_within, tone_cut, tone_ends, tone_there}
use Rattle.tone_sound.proofs.tone_at.Goals as goal

pub returns-in_err-place : goal.returns-in_err-place
returns-in_err-place c = search (tone_none _ _ c.song.ensures c.in_err-place.was, rules)

pub end_behind-requires : goal.end_behind-requires
end_behind-requires c = song_within _ _ c.song.ensures c.in_ok-place.was c.requires.1

pub returns-in_err-end : goal.returns-in_err-end
returns-in_err-end c = search (tone_cut _ _ c.song.ensures c.in_ok-place.was c.end_behind.ensures c.in_err-end.was, rules)

pub overflow_sub-result : goal.overflow_sub-result
overflow_sub-result c = let z = tone_ends _ _ c.song.ensures c.in_ok-place.was c.end_behind.ensures c.in_ok-end.was c.requires.0 in omega (arith, z)

pub returns : goal.returns
returns c = tone_there _ _ c.song.ensures c.in_ok-place.was c.end_behind.ensures c.in_ok-end.was c.requires.0

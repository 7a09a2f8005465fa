-- Judging what is to be written: the song type, the title, the table, and the message's size. All places are 0.
use Rattle.std.specs.Prelude.{ℕ, ◌%◌, Bool, ◌&&◌, ◌||◌, List, length, leb, eqb}
use Rattle.bits.specs.Outcome.{Outcome, accepted, and_then, demand}
use Rattle.tone.specs.Tone.{Tone, patterns_of, per_character, characters, allowed_title}
use Rattle.tone.specs.Writing.{tone_length, most_octets}
use Rattle.tone_table.specs.Judging.{judge_table}

-- ---- the song type and the title

-- basic or temporary
abbrev pub song_fine : ℕ → Bool
song_fine song = eqb song 1 || eqb song 2

-- at most 15 characters, no odd octets under UNICODE, and empty in a temporary song
abbrev pub title_fine : ℕ → Bool → List ℕ → Bool
title_fine song unicode title =
    leb (characters unicode title) 15 && (eqb (length title % per_character unicode) 0 && (eqb song 1 || eqb (length title) 0))

-- ---- the whole

-- the message's size: 1 above 4,096 octets, 11 above the room
unfoldable pub sized : ℕ → Tone → Outcome Tone
sized room t =
    demand (leb (tone_length t) most_octets) 1
    (demand (leb (tone_length t) room) 11
    (accepted t))

-- what is to be written, as a tone
abbrev pub tone_of : ℕ → Bool → List ℕ → List ℕ → Tone
tone_of song unicode title table = record { song = song; unicode = unicode; title = title; patterns = patterns_of table }

-- writing a tone into so many octets of room: 4, 17, 21, the table's refusals, 1, 11
unfoldable pub write_tone : ℕ → Bool → List ℕ → List ℕ → ℕ → Outcome Tone
write_tone song unicode title table room =
    demand (song_fine song) 4
    (demand (title_fine song unicode title) 17
    (demand (allowed_title unicode title) 21
    (and_then (judge_table table) (λ _. sized room (tone_of song unicode title table)))))

-- The promise of `read`.
use Rattle.std.specs.Prelude.{ℕ, ◌≡◌, Bool, false, ◌&&◌, List, length, leb, Result, Ok, Err}
use Rattle.bits.specs.Choice.{pick}
use Rattle.bits.specs.Lent.{over}
use Rattle.bits.specs.Outcome.{Outcome, accepted, refused}
use Rattle.bits.specs.Refusals.{number_of, answered}
use Rattle.bits.specs.declared.refusal.Refusal.{Refusal}
use Rattle.tone.specs.Tone.{Tone, cells, characters, entries}
use Rattle.tone.specs.Reading.{read_tone}
use Rattle.tone_read.specs.declared.Reading.{Reading}

-- 11 where the title or the table does not fit
abbrev pub roomed : ℕ → ℕ → Outcome Tone → Outcome Tone
roomed title_room table_room (accepted t) =
    pick (leb (length t.title) title_room && leb (entries t.patterns) table_room) (accepted t) (refused 11 0)
roomed title_room table_room (refused n p) = refused n p

-- reading a message into a title and a table with so much room
abbrev pub read_into : List ℕ → ℕ → ℕ → Outcome Tone
read_into m title_room table_room = roomed title_room table_room (read_tone m)

-- the numbers of document 01
pub record Numbers : Type 0 where
  pub refusal : ℕ
  pub place : ℕ
  pub song : ℕ
  pub unicode : Bool
  pub characters : ℕ
  pub patterns : ℕ
  pub entries : ℕ

-- each case's number and values: on a refusal all other numbers are 0
abbrev pub numbers : Result Reading Refusal → Numbers
numbers (Ok r) = record { refusal = 0; place = 0; song = r.song; unicode = r.unicode; characters = r.characters; patterns = r.patterns; entries = r.entries }
numbers (Err r) = record { refusal = number_of r.why; place = r.place.0; song = 0; unicode = false; characters = 0; patterns = 0; entries = 0 }

-- the numbers that the rules ask for
abbrev pub read_numbers : Outcome Tone → Numbers
read_numbers (accepted t) = record {
  refusal = 0;
  place = 0;
  song = t.song;
  unicode = t.unicode;
  characters = characters t.unicode t.title;
  patterns = length t.patterns;
  entries = entries t.patterns;
}
read_numbers (refused n p) = record { refusal = n; place = p; song = 0; unicode = false; characters = 0; patterns = 0; entries = 0 }

-- what was read of a tone
abbrev pub reading : Tone → Reading
reading t = record { song = t.song; unicode = t.unicode; characters = characters t.unicode t.title; patterns = length t.patterns; entries = entries t.patterns }

-- the answer to an outcome
abbrev pub read_answer : Outcome Tone → Result Reading Refusal
read_answer o = answered reading o

-- the lent table after the call
abbrev pub table_after : Outcome Tone → List ℕ → List ℕ
table_after (accepted t) old = over (cells t.patterns) old
table_after (refused n p) old = old

-- the lent title after the call
abbrev pub title_after : Outcome Tone → List ℕ → List ℕ
title_after (accepted t) old = over t.title old
title_after (refused n p) old = old

-- the promise: the answer, its numbers, and every cell of the table and of the title
pub record ReadPromise (m table title table' title' : List ℕ) (r : Result Reading Refusal) : Type 0 where
  pub answer : r ≡ read_answer (read_into m (length title) (length table))
  pub said : numbers r ≡ read_numbers (read_into m (length title) (length table))
  pub leaves_table : table' ≡ table_after (read_into m (length title) (length table)) table
  pub leaves_title : title' ≡ title_after (read_into m (length title) (length table)) title

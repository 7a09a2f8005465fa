-- Samples of the fraction left over: what is carried on, what restarts, what the program prints, and edits.
use Rattle.std.specs.Prelude.{ℕ, ◌≡◌, List, [], ◌∷◌, ◌++◌, map, replicate}
use Rattle.tone.specs.Tone.{Pattern}
use Rattle.list_rules.specs.Duration.{microseconds, left_over}
use Rattle.list_rules.specs.Listing.{list_tone, fits_numbers}
use Rattle.list.specs.Promise.{cells_after}
use Rattle.list_text.specs.Text.{answer_of}
use Rattle.edit_change.specs.declared.Edit.{Edit}
use Rattle.edit_change.specs.declared.Edit.TheVariants.{Replace, Insert, Delete}
use Rattle.edit.specs.Editing.{edit_message, list_after}
use Rattle.samples.specs.List.{part, c, list_of}

-- C as a 1/32 note of two thirds, 8 units
abbrev pub short : ℕ
short = 65591

-- how long the entries of some parts last
abbrev pub lasting : List Pattern → List ℕ
lasting ps = map (λ r. r.microseconds) (list_of ps).entries

-- part A: tempo code 31, 900 beats, and two such notes
abbrev pub two : List ℕ
two = 0x02 ∷ 0x4A ∷ 0x3A ∷ 0x80 ∷ 0x40 ∷ 0x00 ∷ 0x73 ∷ 0xE4 ∷ 0x6E ∷ 0x46 ∷ 0xE0 ∷ 0x00 ∷ []

-- the list of an edit of it, in a buffer of one octet more
abbrev pub of_two : Edit → ℕ → List ℕ
of_two ed i = list_after (edit_message (two ++ (0 ∷ [])) 12 ed 0 i 9) (replicate 9 77)

-- the step, spans, what carries on and what restarts, and then edits
pub record Drift : Type 0 where
  -- 8 units at 900 beats: 5,555 microseconds and 500 of 900 parts; with these ahead 5,556, and 100 parts
  pub step : microseconds 0 8 900 ∷ left_over 0 8 900 ∷ microseconds 500 8 900 ∷ left_over 500 8 900 ∷ [] ≡ 5555 ∷ 500 ∷ 5556 ∷ 100 ∷ []
  -- the longest note with the largest fraction, 24 of 25 parts: still 16,800,000
  pub longest : microseconds 24 672 25 ∷ left_over 24 672 25 ∷ [] ≡ 16800000 ∷ 24 ∷ []
  -- nine such notes: 50,000 in all, where nine times 5,555 would be 49,995
  pub nine : lasting (part 0 0 (262175 ∷ replicate 9 short) ∷ []) ≡ 5555 ∷ 5556 ∷ 5555 ∷ 5556 ∷ 5555 ∷ 5556 ∷ 5555 ∷ 5556 ∷ 5556 ∷ []
  -- 21 quarters at 63 beats are 20 seconds, and the next is as long as the first
  pub quarters : lasting (part 0 0 (replicate 22 c) ∷ []) ≡ 952380 ∷ (replicate 20 952381 ++ (952380 ∷ []))
  -- notes of 8, 12 and 21 units
  pub mixed : lasting (part 0 0 (262175 ∷ short ∷ 65588 ∷ 65590 ∷ []) ∷ []) ≡ 5555 ∷ 8333 ∷ 14584 ∷ []
  -- a tempo instruction restarts, also one that sets the tempo in force
  pub same_tempo : lasting (part 0 0 (c ∷ c ∷ 262152 ∷ c ∷ c ∷ []) ∷ []) ≡ 952380 ∷ 952381 ∷ 952380 ∷ 952381 ∷ []
  pub other_tempo : lasting (part 0 0 (262175 ∷ short ∷ 262152 ∷ c ∷ c ∷ []) ∷ []) ≡ 5555 ∷ 952380 ∷ 952381 ∷ []
  -- scale, style and volume do not, and a pause is an entry
  pub other_settings : map (λ e. lasting (part 0 0 (c ∷ e ∷ c ∷ []) ∷ [])) (131074 ∷ 196609 ∷ 327683 ∷ []) ≡ replicate 3 (952380 ∷ 952381 ∷ [])
  pub pauses : lasting (part 0 0 (c ∷ 65544 ∷ c ∷ []) ∷ []) ≡ 952380 ∷ 952381 ∷ 952381 ∷ []
  -- nor do patterns, recalls and passes of other loops
  pub patterns : lasting (part 0 0 (c ∷ []) ∷ part 1 0 (c ∷ []) ∷ part 0 0 (c ∷ []) ∷ []) ≡ 952380 ∷ 952381 ∷ 952381 ∷ []
  pub recalls : lasting (part 0 0 (c ∷ []) ∷ part 0 0 [] ∷ part 0 1 [] ∷ []) ≡ 952380 ∷ 952381 ∷ 952381 ∷ 952381 ∷ []
  pub two_passes : lasting (part 0 1 (c ∷ []) ∷ []) ≡ 952380 ∷ 952381 ∷ []
  pub fifteen_passes : lasting (part 0 14 (c ∷ []) ∷ []) ≡ 952380 ∷ replicate 14 952381
  -- each pass of a loop 15 does, the first too: at 90 beats 8 units last 55,555 in both, 55,556 without the restart
  pub endless : lasting (part 0 15 (262155 ∷ short ∷ []) ∷ []) ≡ 55555 ∷ 55555 ∷ []
  pub endless_behind : lasting (part 1 0 (262155 ∷ short ∷ []) ∷ part 0 15 (short ∷ []) ∷ []) ≡ 55555 ∷ 55555 ∷ 55555 ∷ []
  pub endless_recall : lasting (part 0 0 (c ∷ []) ∷ part 0 15 [] ∷ []) ≡ 952380 ∷ 952380 ∷ 952380 ∷ []
  -- within a pass it is carried on
  pub endless_two : lasting (part 0 15 (c ∷ c ∷ []) ∷ []) ≡ 952380 ∷ 952381 ∷ 952380 ∷ 952381 ∷ []
  -- a message's list, and "entries 2 return none", "1 1 0 7 5555 0 1" and "1 1 0 7 5556 0 2", each with a line feed
  pub cells : cells_after (list_tone two (fits_numbers 7)) (replicate 7 77) ≡ 1287 ∷ 5555 ∷ 1 ∷ 1287 ∷ 5556 ∷ 2 ∷ 77 ∷ []
  pub text : answer_of two (replicate 6 0)
      ≡ (0x65 ∷ 0x6E ∷ 0x74 ∷ 0x72 ∷ 0x69 ∷ 0x65 ∷ 0x73 ∷ 0x20 ∷ 0x32 ∷ 0x20 ∷ 0x72 ∷ 0x65 ∷ 0x74 ∷ 0x75 ∷ 0x72 ∷ 0x6E ∷ 0x20 ∷ 0x6E ∷ 0x6F ∷ 0x6E ∷ 0x65 ∷ 0x0A ∷ [])
      ++ ((0x31 ∷ 0x20 ∷ 0x31 ∷ 0x20 ∷ 0x30 ∷ 0x20 ∷ 0x37 ∷ 0x20 ∷ 0x35 ∷ 0x35 ∷ 0x35 ∷ 0x35 ∷ 0x20 ∷ 0x30 ∷ 0x20 ∷ 0x31 ∷ 0x0A ∷ [])
      ++ (0x31 ∷ 0x20 ∷ 0x31 ∷ 0x20 ∷ 0x30 ∷ 0x20 ∷ 0x37 ∷ 0x20 ∷ 0x35 ∷ 0x35 ∷ 0x35 ∷ 0x36 ∷ 0x20 ∷ 0x30 ∷ 0x20 ∷ 0x32 ∷ 0x0A ∷ []))
  -- an edit: the same tempo between the two notes restarts
  pub inserted : of_two (Insert 262175) 2 ≡ 1287 ∷ 5555 ∷ 1 ∷ 1287 ∷ 5555 ∷ 3 ∷ replicate 3 77
  -- a quarter for the first: it leaves 600 of 900 parts, and the note behind it is the longer one
  pub replaced : of_two (Replace c) 1 ≡ 1287 ∷ 66666 ∷ 1 ∷ 1287 ∷ 5556 ∷ 2 ∷ replicate 3 77
  -- without the tempo both are at 63 beats, and without the first note the second is the first
  pub tempo_deleted : of_two Delete 0 ≡ 1287 ∷ 79365 ∷ 0 ∷ 1287 ∷ 79365 ∷ 1 ∷ replicate 3 77
  pub note_deleted : of_two Delete 1 ≡ 1287 ∷ 5555 ∷ 1 ∷ replicate 6 77

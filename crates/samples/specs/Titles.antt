-- Samples of the characters in a title: the bounds of those that are refused, in either width, and what comes ahead of them.
use Rattle.std.specs.Prelude.{ℕ, ◌+◌, ◌*◌, ◌/◌, ◌%◌, ◌≡◌, true, false, List, [], ◌∷◌, map, take, set, replicate}
use Rattle.bits.specs.Outcome.{Outcome, accepted, refused}
use Rattle.tone.specs.Tone.{Tone}
use Rattle.tone.specs.Reading.{read_tone}
use Rattle.tone_write.specs.Judging.{write_tone}
use Rattle.tone_write.specs.Promise.{write_numbers}
use Rattle.list_rules.specs.Listing.{fits_numbers, list_tone}
use Rattle.edit_change.specs.declared.Edit.TheVariants.{Replace, Insert, Delete}
use Rattle.edit.specs.Editing.{edit_message}
use Rattle.bitmap.specs.Bitmap.{refusal_of}
use Rattle.samples.specs.Message.{note_part, all}

-- a message with a title of three characters, which begin at 30, 38 and 46
abbrev pub spelt : ℕ → ℕ → ℕ → List ℕ
spelt x y z = 0x02 ∷ 0x4A ∷ 0x3A ∷ (0x4C + x / 64) ∷ (x % 64 * 4 + y / 64) ∷ (y % 64 * 4 + z / 64) ∷ (z % 64 * 4) ∷ 0x04 ∷ 0x00 ∷ 0x02 ∷ 0x69 ∷ 0x00 ∷ 0x00 ∷ []

-- the same under UNICODE with two, which begin at 38 and 54
abbrev pub spelt_wide : ℕ → ℕ → List ℕ
spelt_wide x y = 0x03 ∷ 0x4A ∷ 0x44 ∷ 0x3A ∷ (0x48 + x / 16384) ∷ (x / 64 % 256) ∷ (x % 64 * 4 + y / 16384) ∷ (y / 64 % 256) ∷ (y % 64 * 4) ∷ 0x04 ∷ 0x00 ∷ 0x02 ∷ 0x69 ∷ 0x00 ∷ 0x00 ∷ []

-- numbers that are refused: the first and the last of each row, a tab, and 128
abbrev pub wreckers : List ℕ
wreckers = 0 ∷ 9 ∷ 31 ∷ 127 ∷ 128 ∷ 159 ∷ []

-- the numbers next to them, and 255
abbrev pub beside : List ℕ
beside = 32 ∷ 126 ∷ 160 ∷ 255 ∷ []

-- numbers above 255; all but the last have an octet that is refused alone
abbrev pub wide_beside : List ℕ
wide_beside = 0x0100 ∷ 0x0109 ∷ 0x017F ∷ 0x0900 ∷ 0x1F20 ∷ 0x7F41 ∷ 0x9F9F ∷ 0xFFFF ∷ []

-- a tone of one note with this title
abbrev pub called : List ℕ → Outcome Tone
called title = accepted (record { song = 1; unicode = false; title = title; patterns = note_part ∷ [] })

-- a basic song with the table of one note and this title, written into 99 octets
abbrev pub writes : List ℕ → ℕ
writes title = refusal_of (write_tone 1 false title (1 ∷ 65864 ∷ []) 99)

-- the same under UNICODE, with a title of A and this character
abbrev pub writes_wide : ℕ → ℕ
writes_wide c = refusal_of (write_tone 1 true (0x00 ∷ 0x41 ∷ c / 256 ∷ c % 256 ∷ []) (1 ∷ 65864 ∷ []) 99)

-- which characters are refused, and where
pub record Titles : Type 0 where
  -- 21 at the character's place: the first, the second, the last
  pub first : map (λ c. read_tone (spelt c 0x41 0x42)) wreckers ≡ all 6 21 30
  pub second : map (λ c. read_tone (spelt 0x41 c 0x42)) wreckers ≡ all 6 21 38
  pub last : map (λ c. read_tone (spelt 0x41 0x42 c)) wreckers ≡ all 6 21 46
  -- the numbers beside them are allowed
  pub neighbours : map (λ c. read_tone (spelt c c c)) beside ≡ map (λ c. called (c ∷ c ∷ c ∷ [])) beside
  -- of two the first counts
  pub first_counts : read_tone (spelt 0x41 9 7) ≡ refused 21 38
  -- under UNICODE the 16-bit number is judged
  pub wide_first : map (λ c. read_tone (spelt_wide c 0x41)) wreckers ≡ all 6 21 38
  pub wide_last : map (λ c. read_tone (spelt_wide 0x0900 c)) wreckers ≡ all 6 21 54
  pub wide_neighbours : map (λ c. refusal_of (read_tone (spelt_wide c c))) beside ≡ replicate 4 0
  -- and not its octets
  pub wide_octets : map (λ c. refusal_of (read_tone (spelt_wide c c))) wide_beside ≡ replicate 8 0
  -- complete before it is judged: the tab is cut, and under UNICODE the input stops behind the high octet
  pub cut_first : read_tone (take 5 (spelt 0x41 9 0x42)) ≡ refused 2 38
  pub wide_cut_first : read_tone (take 6 (spelt_wide 9 0x41)) ≡ refused 2 38
  -- judged as soon as it is complete, whatever is cut behind it
  pub cut_behind : read_tone (take 6 (spelt 0x41 9 0x42)) ≡ refused 21 38
  pub wide_cut_behind : read_tone (take 7 (spelt_wide 9 0x41)) ≡ refused 21 38
  -- ahead of 5: pattern count zero, behind a bell and behind an A
  pub no_pattern : map (λ c. read_tone (set (spelt 0x41 0x42 c) 7 0x00)) (7 ∷ 0x41 ∷ []) ≡ refused 21 46 ∷ refused 5 54 ∷ []
  -- behind the song type
  pub song_first : read_tone (set (spelt 9 0x41 0x42) 3 0xCC) ≡ refused 4 23
  -- a list has it from the message, whatever is lent
  pub listed : list_tone (spelt 0x41 9 0x42) (fits_numbers 0) ≡ refused 21 38
  -- so has an edit, ahead of its own grounds and behind a used length beyond the buffer
  pub edited : map (λ ed. edit_message (spelt 0x41 9 0x42) 13 ed 9 9 0) (Replace 393216 ∷ Insert 393216 ∷ Delete ∷ []) ≡ replicate 3 (refused 21 38)
  pub used_first : edit_message (spelt 0x41 9 0x42) 14 Delete 0 0 3 ≡ refused 1 0
  -- writing: 21 for the same characters
  pub written : map (λ c. writes (c ∷ 0x41 ∷ [])) wreckers ≡ replicate 6 21
  pub written_beside : map (λ c. writes (0x41 ∷ c ∷ [])) beside ≡ replicate 4 0
  pub written_wide : map writes_wide wreckers ≡ replicate 6 21
  pub written_octets : map writes_wide wide_beside ≡ replicate 8 0
  -- at place 0
  pub written_place : write_numbers (write_tone 1 false (0x41 ∷ 9 ∷ []) (1 ∷ 65864 ∷ []) 99) ≡ record { refusal = 21; place = 0; octets = 0 }
  -- behind 4, and behind 17: 16 characters, odd octets under UNICODE, a temporary song
  pub written_song : write_tone 0 false (9 ∷ []) (1 ∷ 65864 ∷ []) 99 ≡ refused 4 0
  pub written_long : write_tone 1 false (replicate 16 9) (1 ∷ 65864 ∷ []) 99 ≡ refused 17 0
  pub written_odd : write_tone 1 true (0 ∷ 9 ∷ 0 ∷ []) (1 ∷ 65864 ∷ []) 99 ≡ refused 17 0
  pub written_temporary : write_tone 2 false (9 ∷ []) (1 ∷ 65864 ∷ []) 99 ≡ refused 17 0
  -- ahead of the table: kind 6, no pattern; and ahead of the room
  pub written_table : map (λ t. write_tone 1 false (9 ∷ []) t 99) ((393216 ∷ []) ∷ [] ∷ []) ≡ replicate 2 (refused 21 0)
  pub written_room : write_tone 1 false (9 ∷ []) (1 ∷ 65864 ∷ []) 0 ≡ refused 21 0

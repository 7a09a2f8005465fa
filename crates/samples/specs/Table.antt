-- Samples of the tone table: what reading answers and leaves, and what writing refuses, with document 01's numbers.
use Rattle.std.specs.Prelude.{ℕ, ◌≡◌, Bool, true, false, List, [], ◌∷◌, ◌++◌, map, set, replicate}
use Rattle.bits.specs.Outcome.{Outcome, refused}
use Rattle.tone.specs.Tone.{Tone}
use Rattle.tone_read.specs.Promise.{read_into, read_numbers, table_after, title_after}
use Rattle.tone_write.specs.Judging.{write_tone}
use Rattle.tone_write.specs.Promise.{write_numbers, octets_after}
use Rattle.bitmap.specs.Bitmap.{refusal_of}
use Rattle.samples.specs.Samples.{message}
use Rattle.samples.specs.Message.{titled, wide, fifteen, every_kind, two_parts}

-- ---- reading into a table and a title

-- the numbers of reading, 11, and what is left in the table and in the title
pub record Readings : Type 0 where
  -- P1 into three cells and no title
  pub p1 : read_numbers (read_into message 0 3) ≡ record { refusal = 0; place = 0; song = 2; unicode = false; characters = 0; patterns = 1; entries = 3 }
  -- two characters in two octets
  pub characters : read_numbers (read_into titled 2 2) ≡ record { refusal = 0; place = 0; song = 1; unicode = false; characters = 2; patterns = 1; entries = 2 }
  -- two characters in four octets under UNICODE
  pub wide_characters : read_numbers (read_into wide 4 2) ≡ record { refusal = 0; place = 0; song = 1; unicode = true; characters = 2; patterns = 1; entries = 2 }
  -- fifteen characters
  pub fifteen_characters : read_numbers (read_into fifteen 15 2) ≡ record { refusal = 0; place = 0; song = 1; unicode = false; characters = 15; patterns = 1; entries = 2 }
  -- a cell or an octet too few: 11
  pub no_cells : read_into message 0 2 ≡ refused 11 0
  pub no_title : read_into titled 1 2 ≡ refused 11 0
  pub no_wide_title : read_into wide 3 2 ≡ refused 11 0
  -- the message's refusal ahead of 11, and all other numbers 0
  pub message_first : read_numbers (read_into (set message 1 0x0A) 0 0) ≡ record { refusal = 3; place = 8; song = 0; unicode = false; characters = 0; patterns = 0; entries = 0 }
  -- kind × 65,536 + payload, and id × 4,096 + loop × 256 + specifier; the cells behind are left
  pub table : table_after (read_into every_kind 0 9) (replicate 9 77) ≡ 15878 ∷ 65536 ∷ 65943 ∷ 131075 ∷ 196610 ∷ 262175 ∷ 327695 ∷ 77 ∷ 77 ∷ []
  -- several headers, in message order
  pub headers : table_after (read_into two_parts 0 5) (replicate 5 77) ≡ 1 ∷ 65576 ∷ 4097 ∷ 65640 ∷ 0 ∷ []
  -- a title's octets; those behind are left
  pub title : title_after (read_into wide 5 2) (replicate 5 77) ≡ 0x01 ∷ 0x41 ∷ 0x20 ∷ 0xAC ∷ 77 ∷ []
  -- a refusal leaves both
  pub kept : table_after (read_into message 0 2) (77 ∷ 77 ∷ []) ++ title_after (read_into titled 1 2) (77 ∷ []) ≡ 77 ∷ 77 ∷ 77 ∷ []

-- ---- writing

-- a temporary song with this table, into 99 octets
abbrev pub temporary : List ℕ → Outcome Tone
temporary table = write_tone 2 false [] table 99

-- a basic song with the table of one note, and a title of so many octets A
abbrev pub basic : Bool → ℕ → Outcome Tone
basic unicode octets = write_tone 1 unicode (replicate octets 0x41) (1 ∷ 65864 ∷ []) 99

-- the table of one instruction
abbrev pub alone : ℕ → List ℕ
alone e = 1 ∷ e ∷ []

-- the grounds against writing in their order, and what is written
pub record Writings : Type 0 where
  -- 4: the song types 0 and 3
  pub songs : map (λ s. refusal_of (write_tone s false [] (1 ∷ 65864 ∷ []) 99)) (0 ∷ 1 ∷ 2 ∷ 3 ∷ []) ≡ 4 ∷ 0 ∷ 0 ∷ 4 ∷ []
  -- 17: more than 15 characters; odd octets are no fault without UNICODE
  pub titles : map (λ n. refusal_of (basic false n)) (0 ∷ 1 ∷ 15 ∷ 16 ∷ []) ≡ 0 ∷ 0 ∷ 0 ∷ 17 ∷ []
  -- under UNICODE 15 characters are 30 octets, and odd octets are a fault
  pub wide_titles : map (λ n. refusal_of (basic true n)) (0 ∷ 1 ∷ 2 ∷ 29 ∷ 30 ∷ 31 ∷ 32 ∷ []) ≡ 0 ∷ 17 ∷ 0 ∷ 17 ∷ 0 ∷ 17 ∷ 17 ∷ []
  -- a title in a temporary song
  pub temporary_title : write_tone 2 false (0x41 ∷ []) (1 ∷ 65864 ∷ []) 99 ≡ refused 17 0
  -- 6: kind 6, and the first payload that does not fit the bits of its kind, or is none of a style: header, note, scale, style, tempo, volume
  pub kind_six : temporary (393216 ∷ []) ≡ refused 6 0
  pub payloads : map (λ t. refusal_of (temporary t)) ((16384 ∷ []) ∷ alone 66048 ∷ alone 131076 ∷ alone 196611 ∷ alone 262176 ∷ alone 327696 ∷ []) ≡ replicate 6 6
  -- and the last that it has: D with loop 15 and 255 instructions, which are not there, then the others
  pub last_payloads : map (λ t. refusal_of (temporary t)) ((16383 ∷ []) ∷ alone 65943 ∷ alone 131075 ∷ alone 196610 ∷ alone 262175 ∷ alone 327695 ∷ []) ≡ 18 ∷ replicate 5 0
  -- note 13, and durations 6 and 7
  pub notes : map (λ t. refusal_of (temporary t)) (alone 65952 ∷ alone 65880 ∷ alone 65884 ∷ []) ≡ replicate 3 6
  -- 18: an instruction where a header is due, a header where an instruction is due, a body cut short
  pub instruction_first : temporary (65864 ∷ []) ≡ refused 18 0
  pub header_in_body : temporary (1 ∷ 1 ∷ 65864 ∷ []) ≡ refused 18 0
  pub cut_body : temporary (2 ∷ 65864 ∷ []) ≡ refused 18 0
  -- 7: a recall with nothing earlier of that id
  pub recall : map (λ t. refusal_of (temporary t)) ((0 ∷ []) ∷ (1 ∷ 65864 ∷ 4096 ∷ []) ∷ (1 ∷ 65864 ∷ 0 ∷ []) ∷ []) ≡ 7 ∷ 7 ∷ 0 ∷ []
  -- each of the four parts may be recalled, once it is defined
  pub recalls : map (λ t. refusal_of (temporary t)) ((1 ∷ 65864 ∷ 0 ∷ []) ∷ (4097 ∷ 65864 ∷ 4096 ∷ []) ∷ (8193 ∷ 65864 ∷ 8192 ∷ []) ∷ (12289 ∷ 65864 ∷ 12288 ∷ []) ∷ []) ≡ replicate 4 0
  -- 5: no pattern
  pub no_pattern : temporary [] ≡ refused 5 0
  -- 18: 256 patterns, of which 255 recall the first; 255 are no fault
  pub patterns : map (λ n. refusal_of (write_tone 2 false [] (alone 131072 ++ replicate n 0) 4096)) (254 ∷ 255 ∷ []) ≡ 0 ∷ 18 ∷ []
  -- 11: one octet too few
  pub room : map (λ n. refusal_of (write_tone 2 false [] (2 ∷ 262158 ∷ 65864 ∷ []) n)) (9 ∷ 10 ∷ []) ≡ 11 ∷ 0 ∷ []
  -- the octets, those behind left: P1, and a title under UNICODE
  pub p1 : octets_after (temporary (2 ∷ 262158 ∷ 65864 ∷ [])) (replicate 12 0xEE) ≡ message ++ (0xEE ∷ 0xEE ∷ [])
  pub title_written : octets_after (write_tone 1 true (0x01 ∷ 0x41 ∷ 0x20 ∷ 0xAC ∷ []) (1 ∷ 65864 ∷ []) 15) (replicate 15 0xEE) ≡ wide
  pub kinds_written : octets_after (temporary (15878 ∷ 65536 ∷ 65943 ∷ 131075 ∷ 196610 ∷ 262175 ∷ 327695 ∷ [])) (replicate 14 0xEE) ≡ every_kind
  pub parts_written : octets_after (temporary (1 ∷ 65576 ∷ 4097 ∷ 65640 ∷ 0 ∷ [])) (replicate 15 0xEE) ≡ two_parts
  -- the numbers: how many octets, and on a refusal none
  pub numbers : write_numbers (temporary (2 ∷ 262158 ∷ 65864 ∷ [])) ≡ record { refusal = 0; place = 0; octets = 10 }
  pub no_numbers : write_numbers (temporary []) ≡ record { refusal = 5; place = 0; octets = 0 }

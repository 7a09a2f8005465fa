-- Samples of tone messages beside P1 to P12: every element of a message, what it is refused with, and where it begins.
use Rattle.std.specs.Prelude.{ℕ, zero, suc, ◌≡◌, true, false, List, [], ◌∷◌, ◌++◌, map, take, set, replicate}
use Rattle.bits.specs.Outcome.{Outcome, accepted, refused}
use Rattle.tone.specs.Tone.{Pattern, Tone}
use Rattle.tone.specs.Reading.{read_tone}
use Rattle.samples.specs.Samples.{message, with_scale}

-- ---- the messages

-- part A: one note, A, quarter
abbrev pub note_part : Pattern
note_part = record { id = 0; loop = 0; body = 65864 ∷ [] }

-- a basic song with the title "AB"
abbrev pub titled : List ℕ
titled = 0x02 ∷ 0x4A ∷ 0x3A ∷ 0x49 ∷ 0x05 ∷ 0x08 ∷ 0x04 ∷ 0x00 ∷ 0x02 ∷ 0x69 ∷ 0x00 ∷ 0x00 ∷ []

-- the same under UNICODE, with a title of the characters 0141 and 20AC
abbrev pub wide : List ℕ
wide = 0x03 ∷ 0x4A ∷ 0x44 ∷ 0x3A ∷ 0x48 ∷ 0x05 ∷ 0x04 ∷ 0x82 ∷ 0xB0 ∷ 0x04 ∷ 0x00 ∷ 0x02 ∷ 0x69 ∷ 0x00 ∷ 0x00 ∷ []

-- a title of fifteen characters, A to O
abbrev pub fifteen : List ℕ
fifteen = 0x02 ∷ 0x4A ∷ 0x3A ∷ 0x7D ∷ 0x05 ∷ 0x09 ∷ 0x0D ∷ 0x11 ∷ 0x15 ∷ 0x19 ∷ 0x1D ∷ 0x21 ∷ 0x25 ∷ 0x29 ∷ 0x2D ∷ 0x31 ∷ 0x35 ∷ 0x39 ∷ 0x3C ∷ 0x04 ∷ 0x00 ∷ 0x02 ∷ 0x69 ∷ 0x00 ∷ 0x00 ∷ []

-- every kind of instruction: part D, loop 14, with a full pause, H as 1/32 at two thirds, scale 3, style 2, tempo 31, volume 15
abbrev pub every_kind : List ℕ
every_kind = 0x02 ∷ 0x4A ∷ 0x3A ∷ 0x80 ∷ 0x47 ∷ 0xC0 ∷ 0xC4 ∷ 0x00 ∷ 0x72 ∷ 0xEB ∷ 0x74 ∷ 0xFD ∷ 0xF0 ∷ 0x00 ∷ []

-- part A with one instruction of five bits, scale or style, whose octet begins with 001, the end of the header
abbrev pub one_short : ℕ → List ℕ
one_short octet = 0x02 ∷ 0x4A ∷ 0x3A ∷ 0x80 ∷ 0x40 ∷ 0x00 ∷ octet ∷ 0x00 ∷ []

-- part A with scale 0, and behind it a recall: the octet has the id B as 08, A as 00
abbrev pub then_recall : ℕ → List ℕ
then_recall octet = 0x02 ∷ 0x4A ∷ 0x3A ∷ 0x80 ∷ 0x80 ∷ 0x00 ∷ 0x28 ∷ octet ∷ 0x00 ∷ 0x00 ∷ 0x00 ∷ []

-- part A with C, part B with D, and a recall of A
abbrev pub two_parts : List ℕ
two_parts = 0x02 ∷ 0x4A ∷ 0x3A ∷ 0x80 ∷ 0xC0 ∷ 0x00 ∷ 0x24 ∷ 0x50 ∷ 0x10 ∷ 0x01 ∷ 0x26 ∷ 0x80 ∷ 0x00 ∷ 0x00 ∷ 0x00 ∷ []

-- ---- what is asked of them

-- a message with another octet at a position
abbrev pub each_at : List ℕ → ℕ → List ℕ → List (Outcome Tone)
each_at m i octets = map (λ x. read_tone (set m i x)) octets

-- a message cut behind its first n octets, n - 1, and so on to none, the shortest first
abbrev pub cuts : List ℕ → ℕ → List (Outcome Tone)
cuts m zero = []
cuts m (suc n) = cuts m n ++ (read_tone (take n m) ∷ [])

-- refused with 2 at each of these places
abbrev pub cut_at : List ℕ → List (Outcome Tone)
cut_at places = map (refused 2) places

-- so many times the same refusal
abbrev pub all : ℕ → ℕ → ℕ → List (Outcome Tone)
all n number place = replicate n (refused number place)

-- what reading makes of them: the elements in their order, and then what is accepted
pub record Messages : Type 0 where
  -- where the elements of P1 begin that are cut: length, programming, sound, song type, pattern count, the rest of the header and of two instructions, end
  pub cut : cuts message 10 ≡ cut_at (0 ∷ 8 ∷ 16 ∷ 23 ∷ 26 ∷ 37 ∷ 37 ∷ 54 ∷ 62 ∷ 72 ∷ [])
  -- with a title: each character is an element, and here the ids of the header and of the note are cut
  pub cut_title : cuts titled 12 ≡ cut_at (0 ∷ 8 ∷ 16 ∷ 23 ∷ 30 ∷ 38 ∷ 46 ∷ 54 ∷ 57 ∷ 71 ∷ 74 ∷ 88 ∷ [])
  -- under UNICODE: a character is cut within its two octets too
  pub cut_wide : cuts wide 15 ≡ cut_at (0 ∷ 8 ∷ 16 ∷ 24 ∷ 31 ∷ 38 ∷ 38 ∷ 54 ∷ 54 ∷ 70 ∷ 78 ∷ 81 ∷ 95 ∷ 98 ∷ 112 ∷ [])
  -- complete before it is judged: a song type of which one bit is there, and that is 1
  pub cut_first : read_tone (0x02 ∷ 0x4A ∷ 0x3B ∷ []) ≡ refused 2 23
  -- a command length of 0, 1, 4 and 255, and of 3 where no UNICODE part follows
  pub lengths : each_at message 0 (0 ∷ 1 ∷ 4 ∷ 255 ∷ []) ≡ all 4 3 0
  pub length_three : read_tone (set message 0 3) ≡ refused 3 16
  -- the cancel command, 0000101
  pub cancel : read_tone (set message 1 0x0A) ≡ refused 3 8
  -- the filler bit behind programming
  pub programming_filler : read_tone (set message 1 0x4B) ≡ refused 8 15
  -- UNICODE where sound is due, and 0011100 for sound
  pub no_sound : each_at message 2 (0x44 ∷ 0x38 ∷ []) ≡ all 2 3 16
  -- the filler bit behind UNICODE
  pub unicode_filler : read_tone (set wide 2 0x45) ≡ refused 8 23
  -- UNICODE again where sound is due
  pub wide_no_sound : read_tone (set wide 3 0x44) ≡ refused 3 24
  -- the song types 0 and 3, and 6; and under UNICODE 3
  pub songs : each_at message 3 (0x00 ∷ 0xC0 ∷ []) ≡ all 2 4 23
  pub song_six : read_tone (set message 2 0x3B) ≡ refused 4 23
  pub wide_song : read_tone (set wide 4 0xC8) ≡ refused 4 31
  -- no pattern, and the same behind a title
  pub no_pattern : read_tone (set message 4 0x00) ≡ refused 5 26
  pub wide_no_pattern : read_tone (set wide 9 0x00) ≡ refused 5 70
  -- the ids 001 to 111 where a header is due
  pub header_ids : each_at message 4 (0x48 ∷ 0x50 ∷ 0x58 ∷ 0x60 ∷ 0x68 ∷ 0x70 ∷ 0x78 ∷ []) ≡ all 7 6 34
  -- a recall with nothing earlier at all, and one of B behind A
  pub recall_first : read_tone (set message 6 0x11) ≡ refused 7 37
  pub recall_other : read_tone (then_recall 0x08) ≡ refused 7 59
  -- the ids 000, 110 and 111 where an instruction is due
  pub instruction_ids : each_at message 6 (0x41 ∷ 0x59 ∷ 0x5D ∷ []) ≡ all 3 6 51
  -- note 13 as a full note, then the durations 6 and 7 of an A
  pub note_thirteen : read_tone (set (set message 7 0xC7) 8 0x40) ≡ refused 6 62
  pub durations : each_at message 8 (0xB0 ∷ 0xB8 ∷ []) ≡ all 2 6 62
  -- style 3
  pub style_three : read_tone (one_short 0x2F) ≡ refused 6 54
  -- a run of filler is placed where it begins, whichever of its bits is 1: four bits, and five
  pub filler_of_four : each_at with_scale 9 (0x81 ∷ 0x82 ∷ 0x84 ∷ 0x88 ∷ []) ≡ all 4 8 76
  pub filler_of_five : each_at titled 10 (0x01 ∷ 0x10 ∷ []) ≡ all 2 8 83
  -- the end octet
  pub ends : each_at message 9 (0x01 ∷ 0x80 ∷ 0xFF ∷ []) ≡ all 3 9 72
  -- two octets more
  pub more : read_tone (message ++ (0x00 ∷ 0x00 ∷ [])) ≡ refused 10 80
  -- no filler: scale 0 and tempo 14 end at 64; the end octet is due there
  pub no_filler : map read_tone ((0x02 ∷ 0x4A ∷ 0x3A ∷ 0x80 ∷ 0x40 ∷ 0x00 ∷ 0x48 ∷ 0x8E ∷ 0x00 ∷ []) ∷ (0x02 ∷ 0x4A ∷ 0x3A ∷ 0x80 ∷ 0x40 ∷ 0x00 ∷ 0x48 ∷ 0x8E ∷ []) ∷ [])
      ≡ accepted (record { song = 2; unicode = false; title = []; patterns = record { id = 0; loop = 0; body = 131072 ∷ 262158 ∷ [] } ∷ [] }) ∷ refused 2 64 ∷ []
  -- seven bits of it: volume 0 and volume 15 end at 65
  pub seven_filler : map read_tone ((0x02 ∷ 0x4A ∷ 0x3A ∷ 0x80 ∷ 0x40 ∷ 0x00 ∷ 0x54 ∷ 0x2F ∷ 0x80 ∷ 0x00 ∷ []) ∷ (0x02 ∷ 0x4A ∷ 0x3A ∷ 0x80 ∷ 0x40 ∷ 0x00 ∷ 0x54 ∷ 0x2F ∷ 0x81 ∷ 0x00 ∷ []) ∷ [])
      ≡ accepted (record { song = 2; unicode = false; title = []; patterns = record { id = 0; loop = 0; body = 327680 ∷ 327695 ∷ [] } ∷ [] }) ∷ refused 8 65 ∷ []
  -- a basic song with a title, and with none
  pub reads : read_tone titled ≡ accepted (record { song = 1; unicode = false; title = 0x41 ∷ 0x42 ∷ []; patterns = note_part ∷ [] })
  pub untitled : read_tone (0x02 ∷ 0x4A ∷ 0x3A ∷ 0x40 ∷ 0x04 ∷ 0x00 ∷ 0x02 ∷ 0x69 ∷ 0x00 ∷ 0x00 ∷ []) ≡ accepted (record { song = 1; unicode = false; title = []; patterns = note_part ∷ [] })
  -- under UNICODE, high octet first; and a temporary song
  pub reads_wide : read_tone wide ≡ accepted (record { song = 1; unicode = true; title = 0x01 ∷ 0x41 ∷ 0x20 ∷ 0xAC ∷ []; patterns = note_part ∷ [] })
  pub wide_temporary : read_tone (0x03 ∷ 0x4A ∷ 0x44 ∷ 0x3A ∷ 0x80 ∷ 0x40 ∷ 0x00 ∷ 0x26 ∷ 0x90 ∷ 0x00 ∷ []) ≡ accepted (record { song = 2; unicode = true; title = []; patterns = note_part ∷ [] })
  -- the most characters
  pub reads_fifteen : read_tone fifteen
      ≡ accepted (record { song = 1; unicode = false; title = 65 ∷ 66 ∷ 67 ∷ 68 ∷ 69 ∷ 70 ∷ 71 ∷ 72 ∷ 73 ∷ 74 ∷ 75 ∷ 76 ∷ 77 ∷ 78 ∷ 79 ∷ []; patterns = note_part ∷ [] })
  -- every kind of instruction, and a header, in as many bits as the table has
  pub kinds : read_tone every_kind
      ≡ accepted (record { song = 2; unicode = false; title = []; patterns = record { id = 3; loop = 14; body = 65536 ∷ 65943 ∷ 131075 ∷ 196610 ∷ 262175 ∷ 327695 ∷ [] } ∷ [] })
  -- style 2, the last
  pub style_two : read_tone (one_short 0x2E) ≡ accepted (record { song = 2; unicode = false; title = []; patterns = record { id = 0; loop = 0; body = 196610 ∷ [] } ∷ [] })
  -- a recall of A behind A
  pub recall : read_tone (then_recall 0x00)
      ≡ accepted (record { song = 2; unicode = false; title = []; patterns = record { id = 0; loop = 0; body = 131072 ∷ [] } ∷ record { id = 0; loop = 0; body = [] } ∷ [] })

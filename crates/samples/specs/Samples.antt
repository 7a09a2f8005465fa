-- P1 to P12 of document 01, one collection with a single claim.
use Rattle.std.specs.Prelude.{ℕ, ◌≡◌, false, List, [], ◌∷◌, ◌++◌, pos, negsuc}
use Rattle.bits.specs.Outcome.{Outcome, accepted, refused}
use Rattle.tone.specs.Tone.{Tone, cells}
use Rattle.tone.specs.Writing.{tone_octets}
use Rattle.tone.specs.Reading.{read_tone}
use Rattle.list_rules.specs.Duration.{beats, units, microseconds}
use Rattle.list_rules.specs.Playing.{Listing, playing_list}
use Rattle.edit_change.specs.declared.Edit.TheVariants.{Insert, Delete}
use Rattle.edit.specs.Editing.{Edited, edit_message, buffer_after}
use Rattle.edit.specs.Promise.{edit_numbers}
use Rattle.bitmap.specs.Samples.{P11, P12}

-- P1: a temporary song with part A: tempo code 14, then A, quarter
abbrev pub message : List ℕ
message = 0x02 ∷ 0x4A ∷ 0x3A ∷ 0x80 ∷ 0x40 ∷ 0x00 ∷ 0x51 ∷ 0xC6 ∷ 0x90 ∷ 0x00 ∷ []

-- the tone that it is
abbrev pub tone : Tone
tone = record { song = 2; unicode = false; title = []; patterns = record { id = 0; loop = 0; body = 262158 ∷ 65864 ∷ [] } ∷ [] }

-- P2: P1 with scale 0 before the note
abbrev pub with_scale : List ℕ
with_scale = 0x02 ∷ 0x4A ∷ 0x3A ∷ 0x80 ∷ 0x40 ∷ 0x00 ∷ 0x71 ∷ 0xC8 ∷ 0x34 ∷ 0x80 ∷ 0x00 ∷ []

-- P3: P1 without its tempo
abbrev pub without_tempo : List ℕ
without_tempo = 0x02 ∷ 0x4A ∷ 0x3A ∷ 0x80 ∷ 0x40 ∷ 0x00 ∷ 0x26 ∷ 0x90 ∷ 0x00 ∷ []

-- the list of one entry: A, scale 1, natural, volume 7, for so long, from the first header and this position
abbrev pub one_note : ℕ → ℕ → Listing
one_note us i = record { entries = record { note = 10; scale = 1; style = 0; volume = 7; microseconds = us; header = 0; position = i } ∷ []; mark = 4294967295 }

-- the edit of P2, in a buffer of eleven octets and a list of three cells
abbrev pub inserted : Outcome Edited
inserted = edit_message (message ++ (0xEE ∷ [])) 10 (Insert 131072) 0 1 3

-- the edit of P3
abbrev pub deleted : Outcome Edited
deleted = edit_message message 10 Delete 0 0 3

-- the listing of an accepted edit
abbrev pub listing_of : Outcome Edited → Listing
listing_of (accepted d) = d.listing
listing_of (refused n p) = record { entries = []; mark = 0 }

-- all of them
pub record Samples : Type 0 where
  pub p1_reads : read_tone message ≡ accepted tone
  pub p1_writes : tone_octets tone ≡ message
  pub p1_table : cells tone.patterns ≡ 2 ∷ 262158 ∷ 65864 ∷ []
  pub p1_lists : playing_list tone ≡ one_note 480000 1
  pub p2_octets : buffer_after inserted 10 (message ++ (0xEE ∷ [])) ≡ with_scale
  pub p2_numbers : edit_numbers 10 inserted ≡ record { refusal = 0; place = 0; length = 11; entries = 1; mark = 4294967295; change = pos 1 }
  pub p2_lists : listing_of inserted ≡ record { entries = record { note = 10; scale = 0; style = 0; volume = 7; microseconds = 480000; header = 0; position = 2 } ∷ []; mark = 4294967295 }
  pub p3_octets : buffer_after deleted 10 message ≡ without_tempo ++ (0 ∷ [])
  pub p3_numbers : edit_numbers 10 deleted ≡ record { refusal = 0; place = 0; length = 9; entries = 1; mark = 4294967295; change = negsuc 0 }
  pub p3_lists : listing_of deleted ≡ one_note 952380 0
  pub p4 : read_tone (0x02 ∷ 0x4A ∷ 0x3A ∷ 0x80 ∷ 0x40 ∷ 0x00 ∷ 0x51 ∷ 0xC6 ∷ 0x90 ∷ []) ≡ refused 2 72
  pub p5 : read_tone (message ++ (0x00 ∷ [])) ≡ refused 10 80
  pub p6 : edit_message without_tempo 9 Delete 0 0 3 ≡ refused 13 0
  pub p7 : read_tone [] ≡ refused 2 0
  pub p8 : read_tone (0x02 ∷ 0x4A ∷ 0x3A ∷ 0x80 ∷ 0x40 ∷ 0x00 ∷ 0x51 ∷ 0xC6 ∷ 0x91 ∷ 0x00 ∷ []) ≡ refused 8 71
  pub p9 : microseconds 0 (units 0 2) (beats 0) ≡ 16800000
  pub p10 : microseconds 0 (units 5 3) (beats 31) ≡ 5555
  pub p11 : P11
  pub p12 : P12

-- Samples of the playing list: settings, passes, recalls, the return mark, and an entry's numbers.
use Rattle.std.specs.Prelude.{ℕ, ◌≡◌, false, List, [], ◌∷◌, ◌++◌, set, replicate}
use Rattle.bits.specs.Outcome.{accepted, refused}
use Rattle.tone.specs.Tone.{Pattern}
use Rattle.list_rules.specs.declared.Entry.{Entry}
use Rattle.list_rules.specs.Sounding.{at_start, numbers, entry_at}
use Rattle.list_rules.specs.Playing.{Listing, playing_list}
use Rattle.list_rules.specs.Listing.{list_tone, fits_numbers, fits_both}
use Rattle.list.specs.Promise.{list_numbers, cells_after, rows_after}
use Rattle.samples.specs.Samples.{message, one_note}

-- ---- the parts that lists are made of

-- a part, A to D as 0 to 3, with its loop value and its instructions; with none it is a recall
abbrev pub part : ℕ → ℕ → List ℕ → Pattern
part id loop body = record { id = id; loop = loop; body = body }

-- C as a quarter
abbrev pub c : ℕ
c = 65576

-- D as a quarter
abbrev pub d : ℕ
d = 65640

-- the list of some parts
abbrev pub list_of : List Pattern → Listing
list_of ps = playing_list (record { song = 2; unicode = false; title = []; patterns = ps })

-- the notes of entries
abbrev pub notes_of : List Entry → List ℕ
notes_of [] = []
notes_of (r ∷ rs) = r.note ∷ notes_of rs

-- the notes that sound
abbrev pub heard : List Pattern → List ℕ
heard ps = notes_of (list_of ps).entries

-- the return mark
abbrev pub mark_of : List Pattern → ℕ
mark_of ps = (list_of ps).mark

-- the list in cells
abbrev pub cells_of : List Pattern → List ℕ
cells_of ps = numbers (list_of ps).entries

-- a row before the call
abbrev pub no_entry : Entry
no_entry = record { note = 0; scale = 0; style = 0; volume = 0; microseconds = 0; header = 0; position = 0 }

-- settings and entries, passes and marks, recalls, and then the room
pub record Lists : Type 0 where
  -- scale code 1, natural style, tempo code 8, volume 7, nothing left over, and the first header's first instruction
  pub start : at_start ≡ record { settings = record { scale = 1; style = 0; tempo = 8; volume = 7 }; fraction = 0; header = 0; position = 0 }
  -- note × 1,024 + scale × 256 + style × 16 + volume, the microseconds, and the origin: C at the start, a pause, H with all settings at their last
  pub first : cells_of (part 0 0 (c ∷ []) ∷ []) ≡ 1287 ∷ 952380 ∷ 0 ∷ []
  pub pause : cells_of (part 0 0 (65544 ∷ []) ∷ []) ≡ 263 ∷ 952380 ∷ 0 ∷ []
  pub last : cells_of (part 0 0 (131075 ∷ 196610 ∷ 262175 ∷ 327695 ∷ 65943 ∷ []) ∷ []) ≡ 13103 ∷ 5555 ∷ 4 ∷ []
  -- and back
  pub fields : entry_at (0 ∷ 0 ∷ 0 ∷ 13103 ∷ 5555 ∷ 65277 ∷ []) 1 ≡ record { note = 12; scale = 3; style = 2; volume = 15; microseconds = 5555; header = 254; position = 253 }
  -- loop n sounds n + 1 times
  pub once : heard (part 0 0 (c ∷ []) ∷ []) ≡ 1 ∷ []
  pub twice : heard (part 0 1 (c ∷ []) ∷ []) ≡ 1 ∷ 1 ∷ []
  pub fifteen_times : heard (part 0 14 (c ∷ []) ∷ []) ≡ replicate 15 1
  -- with loop 15 two passes are listed and listing stops
  pub stops : heard (part 0 1 (c ∷ []) ∷ part 1 15 (c ∷ d ∷ []) ∷ part 2 0 (c ∷ []) ∷ []) ≡ 1 ∷ 1 ∷ 1 ∷ 3 ∷ 1 ∷ 3 ∷ []
  -- the mark is the position of the second pass's first entry
  pub returns : mark_of (part 0 1 (c ∷ []) ∷ part 1 15 (c ∷ d ∷ []) ∷ part 2 0 (c ∷ []) ∷ []) ≡ 4
  pub returns_alone : mark_of (part 0 15 (c ∷ []) ∷ []) ≡ 1
  -- there is none where a pass adds no entry, and with no loop 15
  pub silent : mark_of (part 0 0 (c ∷ []) ∷ part 1 15 (131072 ∷ []) ∷ []) ≡ 4294967295
  pub no_return : mark_of (part 0 14 (c ∷ []) ∷ []) ≡ 4294967295
  -- a silent loop 15 stops the listing too
  pub silent_stops : heard (part 0 15 (131072 ∷ []) ∷ part 1 0 (c ∷ []) ∷ []) ≡ []
  -- a recall sounds its part's body with its own loop value
  pub recall : heard (part 0 0 (c ∷ []) ∷ part 1 0 (d ∷ []) ∷ part 0 2 [] ∷ []) ≡ 1 ∷ 3 ∷ 1 ∷ 1 ∷ 1 ∷ []
  pub recall_returns : mark_of (part 0 1 (c ∷ []) ∷ part 0 15 [] ∷ []) ≡ 3
  -- a later definition replaces the earlier one, and no other part's
  pub redefined : heard (part 3 0 (c ∷ []) ∷ part 2 0 (65544 ∷ []) ∷ part 3 0 (d ∷ []) ∷ part 3 0 [] ∷ part 2 0 [] ∷ []) ≡ 1 ∷ 0 ∷ 3 ∷ 3 ∷ 0 ∷ []
  -- settings carry on through patterns and recalls: A is recalled with the volume that B set, and not the one that it was defined with
  pub carried : cells_of (part 0 0 (c ∷ []) ∷ part 1 0 (327689 ∷ []) ∷ part 0 0 [] ∷ []) ≡ 1287 ∷ 952380 ∷ 0 ∷ 1289 ∷ 952381 ∷ 512 ∷ []
  -- and through passes: the second pass begins with the volume that the first ended with
  pub carried_on : cells_of (part 0 1 (c ∷ 327689 ∷ []) ∷ []) ≡ 1287 ∷ 952380 ∷ 0 ∷ 1289 ∷ 952381 ∷ 0 ∷ []
  -- each instruction sets its own: scale 2, style 1, tempo 14, volume 0, between notes
  pub each : cells_of (part 0 0 (131074 ∷ c ∷ 196609 ∷ c ∷ 262158 ∷ c ∷ 327680 ∷ c ∷ []) ∷ [])
      ≡ 1543 ∷ 952380 ∷ 1 ∷ 1559 ∷ 952381 ∷ 3 ∷ 1559 ∷ 480000 ∷ 5 ∷ 1552 ∷ 480000 ∷ 7 ∷ []
  -- three cells an entry and one row: exact, and one too few
  pub room : list_tone message (fits_numbers 3) ≡ accepted (one_note 480000 1)
  pub no_room : list_tone message (fits_numbers 2) ≡ refused 11 0
  pub both : list_tone message (fits_both 3 1) ≡ accepted (one_note 480000 1)
  pub no_rows : list_tone message (fits_both 3 0) ≡ refused 11 0
  pub no_numbers : list_tone message (fits_both 2 1) ≡ refused 11 0
  -- the message's refusal with its place ahead of 11, and all other numbers 0
  pub message_first : list_numbers (list_tone (message ++ (0 ∷ [])) (fits_numbers 0)) ≡ record { refusal = 10; place = 80; entries = 0; mark = 0 }
  -- the numbers of P1, its cells, and its rows; what lies behind is left, also two cells, too few for an entry
  pub p1 : list_numbers (list_tone message (fits_numbers 3)) ≡ record { refusal = 0; place = 0; entries = 1; mark = 4294967295 }
  pub cells : cells_after (list_tone message (fits_numbers 5)) (replicate 5 77) ≡ 10503 ∷ 480000 ∷ 1 ∷ 77 ∷ 77 ∷ []
  pub rows : rows_after (list_tone message (fits_both 3 2)) (replicate 2 no_entry) ≡ record { note = 10; scale = 1; style = 0; volume = 7; microseconds = 480000; header = 0; position = 1 } ∷ no_entry ∷ []
  -- P1 with loop 15: two entries, and the mark is 1
  pub endless : list_numbers (list_tone (set (set message 4 0x41) 5 0xE0) (fits_numbers 6)) ≡ record { refusal = 0; place = 0; entries = 2; mark = 1 }

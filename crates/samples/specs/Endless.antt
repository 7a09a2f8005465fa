-- Samples of loop 15: two passes, the return mark on the second, their room, what the program prints, and edits.
use Rattle.std.specs.Prelude.{ℕ, ◌≡◌, List, [], ◌∷◌, ◌++◌, map, replicate, negsuc}
use Rattle.bits.specs.Outcome.{Outcome, refused}
use Rattle.list_rules.specs.Listing.{list_tone, fits_numbers, fits_both}
use Rattle.list.specs.Promise.{list_numbers, cells_after}
use Rattle.list_text.specs.Text.{answer_of}
use Rattle.edit_change.specs.declared.Edit.{Edit}
use Rattle.edit_change.specs.declared.Edit.TheVariants.{Replace, Delete}
use Rattle.edit.specs.Editing.{Edited, edit_message, buffer_after, list_after}
use Rattle.edit.specs.Promise.{edit_numbers}
use Rattle.samples.specs.List.{part, c, d, heard, mark_of, cells_of}

-- part A with loop 15: C as a quarter, and then volume 2
abbrev pub chime : List ℕ
chime = 0x02 ∷ 0x4A ∷ 0x3A ∷ 0x80 ∷ 0x41 ∷ 0xE0 ∷ 0x44 ∷ 0x51 ∷ 0x48 ∷ 0x00 ∷ []

-- an edit of it, with a list of so many cells
abbrev pub of_chime : Edit → ℕ → ℕ → Outcome Edited
of_chime ed i room = edit_message chime 10 ed 0 i room

-- the passes, the mark, the room, and then edits
pub record Endless : Type 0 where
  -- the first pass at volume 7, the second at 2; the mark is the second's
  pub numbers : list_numbers (list_tone chime (fits_numbers 6)) ≡ record { refusal = 0; place = 0; entries = 2; mark = 1 }
  pub cells : cells_after (list_tone chime (fits_numbers 7)) (replicate 7 77) ≡ 1287 ∷ 952380 ∷ 0 ∷ 1282 ∷ 952380 ∷ 0 ∷ 77 ∷ []
  -- the room counts both: one cell too few, one row too few
  pub no_room : list_tone chime (fits_numbers 5) ≡ refused 11 0
  pub no_rows : list_tone chime (fits_both 6 1) ≡ refused 11 0
  -- "entries 2 return 1", "1 1 0 7 952380 0 0" and "1 1 0 2 952380 0 0", each with a line feed
  pub text : answer_of chime (replicate 6 0)
      ≡ (0x65 ∷ 0x6E ∷ 0x74 ∷ 0x72 ∷ 0x69 ∷ 0x65 ∷ 0x73 ∷ 0x20 ∷ 0x32 ∷ 0x20 ∷ 0x72 ∷ 0x65 ∷ 0x74 ∷ 0x75 ∷ 0x72 ∷ 0x6E ∷ 0x20 ∷ 0x31 ∷ 0x0A ∷ [])
      ++ ((0x31 ∷ 0x20 ∷ 0x31 ∷ 0x20 ∷ 0x30 ∷ 0x20 ∷ 0x37 ∷ 0x20 ∷ 0x39 ∷ 0x35 ∷ 0x32 ∷ 0x33 ∷ 0x38 ∷ 0x30 ∷ 0x20 ∷ 0x30 ∷ 0x20 ∷ 0x30 ∷ 0x0A ∷ [])
      ++ (0x31 ∷ 0x20 ∷ 0x31 ∷ 0x20 ∷ 0x30 ∷ 0x20 ∷ 0x32 ∷ 0x20 ∷ 0x39 ∷ 0x35 ∷ 0x32 ∷ 0x33 ∷ 0x38 ∷ 0x30 ∷ 0x20 ∷ 0x30 ∷ 0x20 ∷ 0x30 ∷ 0x0A ∷ []))
  -- a part that ends with scale 2, with style 2, with tempo code 14
  pub ends : map (λ e. cells_of (part 0 15 (c ∷ e ∷ []) ∷ [])) (131074 ∷ 196610 ∷ 262158 ∷ [])
      ≡ (1287 ∷ 952380 ∷ 0 ∷ 1543 ∷ 952380 ∷ 0 ∷ []) ∷ (1287 ∷ 952380 ∷ 0 ∷ 1319 ∷ 952380 ∷ 0 ∷ []) ∷ (1287 ∷ 952380 ∷ 0 ∷ 1287 ∷ 480000 ∷ 0 ∷ []) ∷ []
  -- and one without a setting: both passes are alike
  pub plain : cells_of (part 0 15 (c ∷ []) ∷ []) ≡ 1287 ∷ 952380 ∷ 0 ∷ 1287 ∷ 952380 ∷ 0 ∷ []
  -- a setting ahead of the part holds in its first pass, and its own in the second
  pub behind : cells_of (part 1 0 (327695 ∷ d ∷ []) ∷ part 0 15 (c ∷ 327682 ∷ []) ∷ []) ≡ 3343 ∷ 952380 ∷ 1 ∷ 1295 ∷ 952380 ∷ 256 ∷ 1282 ∷ 952380 ∷ 256 ∷ []
  -- a recall with loop 15: two passes of the part that it recalls
  pub recall : heard (part 0 0 (c ∷ d ∷ []) ∷ part 1 0 (c ∷ []) ∷ part 0 15 [] ∷ []) ≡ 1 ∷ 3 ∷ 1 ∷ 1 ∷ 3 ∷ 1 ∷ 3 ∷ []
  pub recall_returns : mark_of (part 0 0 (c ∷ d ∷ []) ∷ part 1 0 (c ∷ []) ∷ part 0 15 [] ∷ []) ≡ 5
  -- the first loop 15 counts, and what is behind it does not
  pub first : heard (part 0 15 (c ∷ []) ∷ part 1 15 (d ∷ d ∷ []) ∷ []) ≡ 1 ∷ 1 ∷ []
  pub first_returns : mark_of (part 0 15 (c ∷ []) ∷ part 1 15 (d ∷ d ∷ []) ∷ []) ≡ 1
  -- silent passes behind a note: no mark, and the note alone
  pub silent : heard (part 0 0 (c ∷ []) ∷ part 1 15 (327682 ∷ []) ∷ []) ≡ 1 ∷ []
  pub silent_returns : mark_of (part 0 0 (c ∷ []) ∷ part 1 15 (327682 ∷ []) ∷ []) ≡ 4294967295
  -- a pause is an entry
  pub pause_returns : mark_of (part 0 15 (65544 ∷ []) ∷ []) ≡ 1
  -- an edit: volume 9 for 2, and the second pass sounds at it
  pub replaced : list_after (of_chime (Replace 327689) 1 6) (replicate 7 77) ≡ 1287 ∷ 952380 ∷ 0 ∷ 1289 ∷ 952380 ∷ 0 ∷ 77 ∷ []
  -- without the volume both passes are alike
  pub deleted : list_after (of_chime Delete 1 6) (replicate 6 77) ≡ 1287 ∷ 952380 ∷ 0 ∷ 1287 ∷ 952380 ∷ 0 ∷ []
  pub deleted_octets : buffer_after (of_chime Delete 1 6) 10 chime ≡ 0x02 ∷ 0x4A ∷ 0x3A ∷ 0x80 ∷ 0x41 ∷ 0xE0 ∷ 0x24 ∷ 0x50 ∷ 0x00 ∷ 0x00 ∷ []
  pub deleted_numbers : edit_numbers 10 (of_chime Delete 1 6) ≡ record { refusal = 0; place = 0; length = 9; entries = 2; mark = 1; change = negsuc 0 }
  -- without the note the passes are silent
  pub hushed : edit_numbers 10 (of_chime Delete 0 0) ≡ record { refusal = 0; place = 0; length = 9; entries = 0; mark = 4294967295; change = negsuc 0 }
  -- the list of an edit has both passes, or it is refused
  pub no_list : of_chime (Replace 327689) 1 5 ≡ refused 11 0

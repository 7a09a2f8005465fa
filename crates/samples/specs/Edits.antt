-- Samples of edits: each ground against one, and what is left in the buffer and in the list.
use Rattle.std.specs.Prelude.{ℕ, ◌≡◌, false, List, [], ◌∷◌, ◌++◌, map, set, replicate, pos}
use Rattle.bits.specs.Outcome.{Outcome, refused}
use Rattle.tone.specs.Tone.{Tone}
use Rattle.edit_change.specs.declared.Edit.{Edit}
use Rattle.edit_change.specs.declared.Edit.TheVariants.{Replace, Insert, Delete}
use Rattle.edit_change.specs.Change.{instruction_place}
use Rattle.edit.specs.Editing.{Edited, edit_tone, edit_message, buffer_after, list_after}
use Rattle.edit.specs.Promise.{edit_numbers}
use Rattle.bitmap.specs.Bitmap.{refusal_of}
use Rattle.samples.specs.Samples.{message, tone, without_tempo}
use Rattle.samples.specs.Message.{two_parts}

-- an edit of P1 in a buffer of 11 octets, with a list of three cells
abbrev pub of_p1 : Edit → ℕ → ℕ → Outcome Edited
of_p1 ed k i = edit_message (message ++ (0xEE ∷ [])) 10 ed k i 3

-- an edit of the two parts in a buffer of 16 octets, with a list of eleven cells
abbrev pub of_two : Edit → ℕ → ℕ → Outcome Edited
of_two ed k i = edit_message (two_parts ++ (0xEE ∷ [])) 15 ed k i 11

-- what it leaves in that buffer
abbrev pub octets_left : Outcome Edited → List ℕ
octets_left o = buffer_after o 15 (two_parts ++ (0xEE ∷ []))

-- what it leaves in that list
abbrev pub numbers_left : Outcome Edited → List ℕ
numbers_left o = list_after o (replicate 11 77)

-- a tone whose part A has so many instructions
abbrev pub part_of : ℕ → Tone
part_of n = record { song = 2; unicode = false; title = []; patterns = record { id = 0; loop = 0; body = replicate n 131072 } ∷ [] }

-- the grounds against an edit in their order, and what it leaves
pub record Edits : Type 0 where
  -- 1: a used length beyond the buffer
  pub used : edit_message message 11 Delete 0 0 3 ≡ refused 1 0
  -- the message's own refusal with its place, whatever the edit is
  pub message_first : edit_message (set message 1 0x0A) 10 (Insert 393216) 9 9 0 ≡ refused 3 8
  -- the octets behind the used length are no part of the message
  pub cut_short : edit_message message 9 Delete 0 0 3 ≡ refused 2 72
  -- 6: a header, kind 6, note 13, scale 4, style 3, tempo 32, volume 16; also where there is no such pattern
  pub new : map (λ e. of_p1 (Insert e) 0 0) (1 ∷ 393216 ∷ 65952 ∷ 131076 ∷ 196611 ∷ 262176 ∷ 327696 ∷ []) ≡ replicate 7 (refused 6 0)
  pub new_first : of_p1 (Replace 0) 9 9 ≡ refused 6 0
  -- 12: no such pattern
  pub no_pattern : of_p1 Delete 1 0 ≡ refused 12 0
  -- no such instruction: P1 has two
  pub no_replaced : of_p1 (Replace 131072) 0 2 ≡ refused 12 0
  pub no_deleted : of_p1 Delete 0 2 ≡ refused 12 0
  pub no_place : of_p1 (Insert 131072) 0 3 ≡ refused 12 0
  -- a recall
  pub recall : map (λ ed. of_two ed 2 0) (Replace 131072 ∷ Insert 131072 ∷ Delete ∷ []) ≡ replicate 3 (refused 12 0)
  -- 12 ahead of 13: the second instruction of a part that has one
  pub place_first : edit_message without_tempo 9 Delete 0 1 3 ≡ refused 12 0
  -- 13: a part's only instruction, here in the second pattern
  pub only : of_two Delete 1 0 ≡ refused 13 0
  -- 14: inserting into a part of 255; 254 are no fault, and neither is replacing
  pub full : map (λ n. refusal_of (edit_tone (Insert 131072) 0 n (part_of n))) (254 ∷ 255 ∷ []) ≡ 0 ∷ 14 ∷ []
  pub full_replaced : refusal_of (edit_tone (Replace 131073) 0 254 (part_of 255)) ≡ 0
  -- 11 for the buffer: P2 has 11 octets
  pub no_room : edit_message message 10 (Insert 131072) 0 1 3 ≡ refused 11 0
  -- 11 for the list: it has one entry, and so three cells
  pub no_list : edit_message (message ++ (0xEE ∷ [])) 10 (Insert 131072) 0 1 2 ≡ refused 11 0
  -- all other numbers 0
  pub no_numbers : edit_numbers 10 (of_p1 Delete 1 0) ≡ record { refusal = 12; place = 0; length = 0; entries = 0; mark = 0; change = pos 0 }
  -- where an instruction stands: the note of P1
  pub place : instruction_place tone 0 1 ≡ 59
  -- insert at the count appends
  pub appended : buffer_after (of_p1 (Insert 131072) 0 2) 10 (message ++ (0xEE ∷ [])) ≡ 0x02 ∷ 0x4A ∷ 0x3A ∷ 0x80 ∷ 0x40 ∷ 0x00 ∷ 0x71 ∷ 0xC6 ∷ 0x90 ∷ 0x80 ∷ 0x00 ∷ []
  -- replace: C for A, and the octet behind is left
  pub replaced : buffer_after (of_p1 (Replace 65576) 0 1) 10 (message ++ (0xEE ∷ [])) ≡ 0x02 ∷ 0x4A ∷ 0x3A ∷ 0x80 ∷ 0x40 ∷ 0x00 ∷ 0x51 ∷ 0xC4 ∷ 0x50 ∷ 0x00 ∷ 0xEE ∷ []
  pub replaced_numbers : edit_numbers 10 (of_p1 (Replace 65576) 0 1) ≡ record { refusal = 0; place = 0; length = 10; entries = 1; mark = 4294967295; change = pos 0 }
  -- from the new length up to the old one 0, and the rest is left
  pub cleared : buffer_after (of_p1 Delete 0 0) 10 (message ++ (0xEE ∷ [])) ≡ without_tempo ++ (0x00 ∷ 0xEE ∷ [])
  -- a refusal leaves both
  pub kept : buffer_after (of_p1 Delete 1 0) 10 message ++ list_after (of_p1 Delete 1 0) (77 ∷ 77 ∷ []) ≡ message ++ (77 ∷ 77 ∷ [])
  -- a pause for C in part A: its recall sounds the new body too; the cells behind are left
  pub first : octets_left (of_two (Replace 65544) 0 0) ≡ set two_parts 7 0x10 ++ (0xEE ∷ [])
  pub first_list : numbers_left (of_two (Replace 65544) 0 0) ≡ 263 ∷ 952380 ∷ 0 ∷ 3335 ∷ 952381 ∷ 256 ∷ 263 ∷ 952381 ∷ 512 ∷ 77 ∷ 77 ∷ []
  -- scale 3 behind D in part B: the recall of A sounds at it
  pub second : octets_left (of_two (Insert 131075) 1 1) ≡ 0x02 ∷ 0x4A ∷ 0x3A ∷ 0x80 ∷ 0xC0 ∷ 0x00 ∷ 0x24 ∷ 0x50 ∷ 0x10 ∷ 0x02 ∷ 0x26 ∷ 0x85 ∷ 0x80 ∷ 0x00 ∷ 0x00 ∷ 0x00 ∷ []
  pub second_list : numbers_left (of_two (Insert 131075) 1 1) ≡ 1287 ∷ 952380 ∷ 0 ∷ 3335 ∷ 952381 ∷ 256 ∷ 1799 ∷ 952381 ∷ 512 ∷ 77 ∷ 77 ∷ []
  pub second_numbers : edit_numbers 15 (of_two (Insert 131075) 1 1) ≡ record { refusal = 0; place = 0; length = 16; entries = 3; mark = 4294967295; change = pos 1 }

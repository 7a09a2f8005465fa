-- Samples of origins: the header that sounds, the instruction's position in the body played, what they lead to, and edits there.
use Rattle.std.specs.Prelude.{ℕ, ◌+◌, ◌≡◌, List, [], ◌∷◌, ◌++◌, map, get_or, replicate}
use Rattle.bits.specs.Outcome.{refused}
use Rattle.tone.specs.Tone.{Pattern, cells}
use Rattle.list_rules.specs.Sounding.{origin}
use Rattle.edit_change.specs.declared.Edit.TheVariants.{Replace, Insert, Delete}
use Rattle.edit.specs.Editing.{list_after}
use Rattle.samples.specs.Samples.{tone}
use Rattle.samples.specs.List.{part, c, d, list_of}
use Rattle.samples.specs.Edits.{of_p1, of_two}

-- the origins of the entries of some parts
abbrev pub origins_of : List Pattern → List ℕ
origins_of ps = map origin (list_of ps).entries

-- volume 2
abbrev pub soft : ℕ
soft = 327682

-- positions, headers, recalls, endless parts, the largest, and then the table and edits
pub record Origins : Type 0 where
  -- header × 256 + position
  pub number : origin (record { note = 12; scale = 3; style = 2; volume = 15; microseconds = 5555; header = 3; position = 5 }) ≡ 773
  -- counted from 0: the first instruction of the first header's body
  pub first : origins_of (part 0 0 (c ∷ []) ∷ []) ≡ 0 ∷ []
  -- settings between notes count, and so does a pause
  pub settings : origins_of (part 0 0 (262158 ∷ c ∷ soft ∷ 131074 ∷ d ∷ 65544 ∷ []) ∷ []) ≡ 1 ∷ 4 ∷ 5 ∷ []
  -- each pass begins with the body again
  pub passes : origins_of (part 0 1 (c ∷ soft ∷ d ∷ []) ∷ []) ≡ 0 ∷ 2 ∷ 0 ∷ 2 ∷ []
  -- a header without a note counts, and a part's second definition has a header of its own
  pub headers : origins_of (part 0 0 (c ∷ []) ∷ part 1 0 (soft ∷ []) ∷ part 0 0 (c ∷ d ∷ []) ∷ []) ≡ 0 ∷ 512 ∷ 513 ∷ []
  -- a recall: its own header's position, and the positions in the body that it recalls, in each pass
  pub recall : origins_of (part 0 0 (soft ∷ c ∷ d ∷ []) ∷ part 1 0 (c ∷ []) ∷ part 0 1 [] ∷ []) ≡ 1 ∷ 2 ∷ 256 ∷ 513 ∷ 514 ∷ 513 ∷ 514 ∷ []
  -- recalls of a part that is defined twice: of the first body, and then of the second
  pub redefined : origins_of (part 0 0 (c ∷ []) ∷ part 0 0 [] ∷ part 0 0 (soft ∷ d ∷ []) ∷ part 0 0 [] ∷ []) ≡ 0 ∷ 256 ∷ 513 ∷ 769 ∷ []
  -- loop 15: both passes have the same, of a recall too
  pub endless : origins_of (part 1 0 (c ∷ []) ∷ part 0 15 (262158 ∷ c ∷ d ∷ []) ∷ []) ≡ 0 ∷ 257 ∷ 258 ∷ 257 ∷ 258 ∷ []
  pub endless_recall : origins_of (part 0 0 (soft ∷ c ∷ []) ∷ part 0 15 [] ∷ []) ≡ 1 ∷ 257 ∷ 257 ∷ []
  -- the largest: the 255th instruction of the 255th header's body
  pub largest : origins_of (replicate 254 (part 1 0 (soft ∷ [])) ++ (part 0 0 (replicate 254 soft ++ (c ∷ [])) ∷ [])) ≡ 65278 ∷ []
  -- P1's entry has origin 1: the cell 1 + 1 behind the first header's is its note, A
  pub table : get_or (cells tone.patterns) (0 + (1 + 1)) 0 ≡ 65864
  -- an edit there, C for A: the entry is C's, with the same origin
  pub replaced : list_after (of_p1 (Replace c) 0 1) (replicate 3 77) ≡ 1287 ∷ 480000 ∷ 1 ∷ []
  -- with scale 0 before the note its origin is one more, and without the tempo one less
  pub inserted : list_after (of_p1 (Insert 131072) 0 1) (replicate 3 77) ≡ 10247 ∷ 480000 ∷ 2 ∷ []
  pub deleted : list_after (of_p1 Delete 0 0) (replicate 3 77) ≡ 10503 ∷ 952380 ∷ 0 ∷ []
  -- the third entry of the two parts comes of a recall, origin 512: an edit there is refused
  pub recalled : of_two (Replace 65544) 2 0 ≡ refused 12 0

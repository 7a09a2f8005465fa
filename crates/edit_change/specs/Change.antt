-- What an edit changes in a tone.
use Rattle.std.specs.Prelude.{ℕ, ◌+◌, ◌^◌, Bool, true, false, ◌&&◌, List, [], ◌∷◌, ◌++◌, length, take, drop, set, leb, ltb, eqb}
use Rattle.tone.specs.Table.{kind, payload, width, allowed, is_instruction}
use Rattle.tone.specs.Tone.{Pattern, Tone, front_of, cells, pattern_at}
use Rattle.tone.specs.Writing.{table_bits, front_bits}
use Rattle.edit_change.specs.declared.Edit.{Edit}
use Rattle.edit_change.specs.declared.Edit.TheVariants.{Replace, Insert, Delete}

-- the instruction that an edit puts: replace and insert carry one, delete none
abbrev pub carried : Edit → List ℕ
carried (Replace e) = e ∷ []
carried (Insert e) = e ∷ []
carried Delete = []

-- how many instructions it takes away
abbrev pub removed : Edit → ℕ
removed (Replace e) = 1
removed (Insert e) = 0
removed Delete = 1

-- a body after an edit at position i: what stood ahead, what is put, what stood behind
abbrev pub body_after : Edit → ℕ → List ℕ → List ℕ
body_after ed i b = take i b ++ (carried ed ++ drop (i + removed ed) b)

-- a pattern with another body
abbrev pub with_body : Pattern → List ℕ → Pattern
with_body p b = record { id = p.id; loop = p.loop; body = b }

-- the patterns after an edit of the one at position k
abbrev pub patterns_after : Edit → ℕ → ℕ → List Pattern → List Pattern
patterns_after ed k i ps = set ps k (with_body (pattern_at ps k) (body_after ed i (pattern_at ps k).body))

-- the changed tone
abbrev pub changed : Edit → ℕ → ℕ → Tone → Tone
changed ed k i t = record { song = t.song; unicode = t.unicode; title = t.title; patterns = patterns_after ed k i t.patterns }

-- ---- the grounds

-- an instruction of kind 1 to 5 whose code is in the table
abbrev pub is_new : ℕ → Bool
is_new e = is_instruction (kind e) && (ltb (payload e) (2 ^ width (kind e)) && allowed (kind e) (payload e))

-- what the edit carries is such an instruction
abbrev pub carries_new : Edit → Bool
carries_new (Replace e) = is_new e
carries_new (Insert e) = is_new e
carries_new Delete = true

-- position i is one of n instructions; insert at the count appends
abbrev pub in_body : Edit → ℕ → ℕ → Bool
in_body (Replace e) i n = ltb i n
in_body (Insert e) i n = leb i n
in_body Delete i n = ltb i n

-- there is such a pattern, it is no recall, and there is such an instruction
abbrev pub is_there : Edit → ℕ → ℕ → List Pattern → Bool
is_there ed k i ps = ltb k (length ps) && (leb 1 (length (pattern_at ps k).body) && in_body ed i (length (pattern_at ps k).body))

-- deleting a part's only instruction
abbrev pub empties : Edit → ℕ → Bool
empties (Replace e) n = false
empties (Insert e) n = false
empties Delete n = eqb n 1

-- inserting into a part of 255
abbrev pub overfills : Edit → ℕ → Bool
overfills (Replace e) n = false
overfills (Insert e) n = eqb n 255
overfills Delete n = false

-- ---- where an instruction stands

-- the place of the header at position k
abbrev pub header_place : Tone → ℕ → ℕ
header_place t k = length (front_bits (front_of t)) + length (table_bits (cells (take k t.patterns)))

-- the place of instruction i of pattern k: its header's place, 17, and the widths before it
abbrev pub instruction_place : Tone → ℕ → ℕ → ℕ
instruction_place t k i = header_place t k + 17 + length (table_bits (take i (pattern_at t.patterns k).body))

-- The instruction table of document 01, and the entries of a tone table.
use Rattle.std.specs.Prelude.{ℕ, ◌+◌, ◌*◌, ◌/◌, ◌%◌, ◌^◌, ◌≤◌, ◌<◌, ◌≡◌, Bool, true, ◌&&◌, [], ◌∷◌, get_or, leb, eqb}
use Rattle.bits.specs.Choice.{pick}

-- an entry is kind × 65,536 + payload
abbrev pub entry : ℕ → ℕ → ℕ
entry k p = k * 65536 + p

-- an entry's kind is its id in the message: 0 a header, 1 note, 2 scale, 3 style, 4 tempo, 5 volume
abbrev pub kind : ℕ → ℕ
kind e = e / 65536

-- an entry's payload is the bits after its id
abbrev pub payload : ℕ → ℕ
payload e = e % 65536

-- how many payload bits each kind has
unfoldable pub width : ℕ → ℕ
width k = get_or (14 ∷ 9 ∷ 2 ∷ 2 ∷ 5 ∷ 4 ∷ []) k 0

-- a note's value, 0 a pause, 1 C .. 12 H
abbrev pub note_of : ℕ → ℕ
note_of p = p / 32

-- a note's duration code, 0 full .. 5 one thirty-second
abbrev pub duration_of : ℕ → ℕ
duration_of p = p / 4 % 8

-- a note's duration specifier, 0 none, 1 dotted, 2 double dotted, 3 two thirds
abbrev pub specifier_of : ℕ → ℕ
specifier_of p = p % 4

-- note 0 to 12 with duration 0 to 5; style 0 to 2; every other code that fits its bits
unfoldable pub allowed : ℕ → ℕ → Bool
allowed k p =
    pick (eqb k 1) (leb (note_of p) 12 && leb (duration_of p) 5)
    (pick (eqb k 3) (leb p 2)
    true)

-- the ids of instructions
abbrev pub is_instruction : ℕ → Bool
is_instruction k = leb 1 k && leb k 5

-- an entry that the table of document 01 has
pub record InTable (e : ℕ) : Type 0 where
  pub known : kind e ≤ 5
  pub fits : payload e < 2 ^ width (kind e)
  pub code : allowed (kind e) (payload e) ≡ true

-- an instruction is such an entry that is no header
pub record Instruction (e : ℕ) : Type 0 where
  pub in_table : InTable e
  pub some : 1 ≤ kind e

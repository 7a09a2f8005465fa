-- Instructions on top of a number of 64 bits, told by packed numbers and not by a branch for each kind.
use Rattle.std.specs.Prelude.{ℕ, zero, suc, ◌+◌, ◌*◌, ◌/◌, ◌%◌, ◌^◌, Bool, ◌&&◌, List, [], ◌∷◌, get_or, leb, eqb}
use Rattle.bits.specs.Choice.{pick}

-- ---- the instruction on top

-- its kind: the three highest bits
abbrev pub kind_on : ℕ → ℕ
kind_on x = x / 2 ^ 61

-- by kind, how many bits it has with its id; 63 for a kind that no instruction has
abbrev pub kind_bits : List ℕ
kind_bits = 63 ∷ 12 ∷ 5 ∷ 5 ∷ 8 ∷ 7 ∷ 63 ∷ 63 ∷ []

unfoldable pub bits_on : ℕ → ℕ
bits_on x = get_or kind_bits (kind_on x) 0

-- 1 for a note or a pause
unfoldable pub note_on : ℕ → ℕ
note_on x = pick (eqb (kind_on x) 1) 1 0

-- whether ten bits begin an instruction of the table: a note 0 to 12 with a duration 0 to 5, a style 0 to 2, or another kind
abbrev pub begins : ℕ → Bool
begins z =
    pick (eqb (z / 128) 1) (leb (z / 8 % 16) 12 && leb (z % 8) 5)
    (pick (eqb (z / 128) 3) (leb (z / 32 % 4) 2)
    (leb 1 (z / 128) && leb (z / 128) 5))

-- 1 where what is on top is no instruction of the table
unfoldable pub fault_on : ℕ → ℕ
fault_on x = pick (begins (x / 2 ^ 54)) 0 1

-- by kind, a row of 64 marks: 1 where the six bits behind the id are no such instruction's
abbrev pub fault_rows : List ℕ
fault_rows = 0xFFFFFFFFFFFFFFFF ∷ 0xFFF8888888888888 ∷ 0 ∷ 0xFFFF000000000000 ∷ 0 ∷ 0 ∷ 0xFFFFFFFFFFFFFFFF ∷ 0xFFFFFFFFFFFFFFFF ∷ []

-- ---- those behind it

-- what is on top once it is taken away
unfoldable pub behind : ℕ → ℕ
behind x = x * 2 ^ bits_on x % 2 ^ 64

-- f of the first n, added up
abbrev pub over : (ℕ → ℕ) → ℕ → ℕ → ℕ
over f zero x = 0
over f (suc n) x = f x + over f n (behind x)

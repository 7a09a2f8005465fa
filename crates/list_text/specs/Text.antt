-- The text that the program prints, as octets.
use Rattle.std.specs.Prelude.{ℕ, zero, suc, ◌+◌, ◌/◌, ◌%◌, ◌≡◌, List, [], ◌∷◌, ◌++◌, length, take, drop, ltb, eqb}
use Rattle.bits.specs.Choice.{pick}
use Rattle.bits.specs.Outcome.{Outcome, accepted, refused}
use Rattle.list_rules.specs.declared.Entry.{Entry}
use Rattle.list_rules.specs.Sounding.{entry_cells, entry_at}
use Rattle.list_rules.specs.Playing.{Listing}
use Rattle.list_rules.specs.Listing.{list_tone, fits_numbers}
use Rattle.list.specs.Promise.{cells_after}

-- a text is put behind the first octets of a buffer: where it ends, and what the buffer holds up to there
pub record Added (out : List ℕ) (at : ℕ) (text out' : List ℕ) (end : ℕ) : Type 0 where
  pub ends : end ≡ at + length text
  pub long : length out' ≡ length out
  pub holds : take end out' ≡ take at out ++ text

-- ---- numbers

-- the last k digits of a number
unfoldable pub digits : ℕ → ℕ → List ℕ
digits zero n = []
digits (suc k) n = digits k (n / 10) ++ ((48 + n % 10) ∷ [])

-- the digits that a number below 2 ^ 32 takes
unfoldable pub places : ℕ → ℕ
places n =
    pick (ltb n 10) 1 (
    pick (ltb n 100) 2 (
    pick (ltb n 1000) 3 (
    pick (ltb n 10000) 4 (
    pick (ltb n 100000) 5 (
    pick (ltb n 1000000) 6 (
    pick (ltb n 10000000) 7 (
    pick (ltb n 100000000) 8 (
    pick (ltb n 1000000000) 9 (
    10)))))))))

-- a number in decimal, and a character behind it
unfoldable pub number : ℕ → ℕ → List ℕ
number n behind = digits (places n) n ++ (behind ∷ [])

-- ---- lines

-- an entry: note, scale, style, volume, microseconds, and its origin, the header's position and the instruction's
unfoldable pub line : Entry → List ℕ
line e =
    number e.note 32
    ++ (number e.scale 32
    ++ (number e.style 32
    ++ (number e.volume 32
    ++ (number e.microseconds 32
    ++ (number e.header 32
    ++ number e.position 10)))))

-- the first n entries of a list
unfoldable pub lines : ℕ → List ℕ → List ℕ
lines zero l = []
lines (suc n) l = line (entry_at l 0) ++ lines n (drop entry_cells l)

-- "none" for no return mark
unfoldable pub mark_text : ℕ → List ℕ
mark_text mark = pick (eqb mark 4294967295) (110 ∷ 111 ∷ 110 ∷ 101 ∷ 10 ∷ []) (number mark 10)

-- the first line of a list: "entries", their number, "return", the mark
unfoldable pub opening : ℕ → ℕ → List ℕ
opening n mark = (101 ∷ 110 ∷ 116 ∷ 114 ∷ 105 ∷ 101 ∷ 115 ∷ 32 ∷ []) ++ (number n 32 ++ ((114 ∷ 101 ∷ 116 ∷ 117 ∷ 114 ∷ 110 ∷ 32 ∷ []) ++ mark_text mark))

-- the line of a refusal: "refused", its number, "at", its place
unfoldable pub refusal : ℕ → ℕ → List ℕ
refusal n p = (114 ∷ 101 ∷ 102 ∷ 117 ∷ 115 ∷ 101 ∷ 100 ∷ 32 ∷ []) ++ (number n 32 ++ ((97 ∷ 116 ∷ 32 ∷ []) ++ number p 10))

-- the whole text of an outcome and the list that came with it
abbrev pub text_of : Outcome Listing → List ℕ → List ℕ
text_of (accepted g) list = opening (length g.entries) g.mark ++ lines (length g.entries) list
text_of (refused n p) list = refusal n p

-- the text that a message gives, with so many numbers' room for its list
abbrev pub answer_of : List ℕ → List ℕ → List ℕ
answer_of m list =
    let x = list_tone m (fits_numbers (length list)) in
    text_of x (cells_after x list)

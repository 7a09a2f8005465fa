-- Refusals as the code answers them, and their numbers.
use Rattle.std.specs.Prelude.{ℕ, List, [], ◌∷◌, get_or, Result, Ok, Err}
use Rattle.bits.specs.Outcome.{Outcome, accepted, refused}
use Rattle.bits.specs.declared.refusal.Ground.{Ground}
use Rattle.bits.specs.declared.refusal.Ground.TheVariants.{TooLong, CutShort, Command, SongType, NoPattern, Code, NoRecall, Filler, EndOctet, AfterEnd, NoRoom, NotThere, OnlyOne, FullPart, BitmapHeader, ImageLength, Title, TableShape, Ahead, Character, PackSize, PackRows}
use Rattle.bits.specs.declared.refusal.Refusal.{Refusal}
use Rattle.bits.specs.Places.{place}

-- the number that document 01 gives a ground
abbrev pub number_of : Ground → ℕ
number_of TooLong = 1
number_of CutShort = 2
number_of Command = 3
number_of SongType = 4
number_of NoPattern = 5
number_of Code = 6
number_of NoRecall = 7
number_of Filler = 8
number_of EndOctet = 9
number_of AfterEnd = 10
number_of NoRoom = 11
number_of NotThere = 12
number_of OnlyOne = 13
number_of FullPart = 14
number_of BitmapHeader = 15
number_of ImageLength = 16
number_of Title = 17
number_of TableShape = 18
number_of Ahead = 20
number_of Character = 21
number_of PackSize = 26
number_of PackRows = 27

-- the grounds in the order of their numbers, from 0 to 27; a number that none has is taken for the first
abbrev pub grounds : List Ground
grounds =
    TooLong ∷ TooLong ∷ CutShort ∷ Command ∷ SongType ∷ NoPattern ∷ Code ∷
    NoRecall ∷ Filler ∷ EndOctet ∷ AfterEnd ∷ NoRoom ∷ NotThere ∷ OnlyOne ∷
    FullPart ∷ BitmapHeader ∷ ImageLength ∷ Title ∷ TableShape ∷ TooLong ∷ Ahead ∷
    Character ∷ TooLong ∷ TooLong ∷ TooLong ∷ TooLong ∷ PackSize ∷ PackRows ∷
    []

-- the ground that has a number
abbrev pub ground_of : ℕ → Ground
ground_of n = get_or grounds n TooLong

-- a refusal on a ground at a place
abbrev pub on : Ground → ℕ → Refusal
on g p = record { why = g; place = place p }

-- a refusal by its number and its place
abbrev pub refusal : ℕ → ℕ → Refusal
refusal n p = on (ground_of n) p

-- what the code answers to an outcome: what f makes of what is accepted, or the refusal
abbrev pub answered : {A B : Type 0} → (A → B) → Outcome A → Result B Refusal
answered f (accepted a) = Ok (f a)
answered f (refused n p) = Err (refusal n p)

-- Grounds and their numbers.
use Rattle.std.specs.Prelude.{ℕ, ◌≡◌, Bool, true, false, ⊤, refl}
use Rattle.bits.specs.Choice.{pick}
use Rattle.bits.specs.Outcome.{Outcome, accepted, refused, and_then, demand}
use Rattle.bits.specs.Refusals.{number_of, ground_of}
use Rattle.bits.specs.declared.refusal.Ground.{Ground}
use Rattle.bits.specs.declared.refusal.Ground.TheVariants.{TooLong, CutShort, Command, SongType, NoPattern, Code, NoRecall, Filler, EndOctet, AfterEnd, NoRoom, NotThere, OnlyOne, FullPart, BitmapHeader, ImageLength, Title, TableShape, Ahead, Character, PackSize, PackRows}

-- a ground is the one that has its number
pub grounded : (g : Ground) → ground_of (number_of g) ≡ g
grounded TooLong = refl
grounded CutShort = refl
grounded Command = refl
grounded SongType = refl
grounded NoPattern = refl
grounded Code = refl
grounded NoRecall = refl
grounded Filler = refl
grounded EndOctet = refl
grounded AfterEnd = refl
grounded NoRoom = refl
grounded NotThere = refl
grounded OnlyOne = refl
grounded FullPart = refl
grounded BitmapHeader = refl
grounded ImageLength = refl
grounded Title = refl
grounded TableShape = refl
grounded Ahead = refl
grounded Character = refl
grounded PackSize = refl
grounded PackRows = refl

-- a number of document 01: that of the ground which has it
abbrev pub Given : ℕ → Type 0
Given n = number_of (ground_of n) ≡ n

-- an outcome whose refusal, where it is one, has such a number
abbrev pub GivenBy : {A : Type 0} → Outcome A → Type 0
GivenBy (accepted a) = ⊤
GivenBy (refused n p) = Given n

-- a rule and what follows it
pub given_then : {A B : Type 0} (x : Outcome A) (f : A → Outcome B) → GivenBy x → ((a : A) → GivenBy (f a)) → GivenBy (and_then x f)
given_then (accepted a) f g h = h a
given_then (refused n p) f g h = g

-- either side of a test
pub given_pick : {A : Type 0} (t : Bool) (x y : Outcome A) → GivenBy x → GivenBy y → GivenBy (pick t x y)
given_pick true x y g h = g
given_pick false x y g h = h

-- a rule that must hold
pub given_demand : {A : Type 0} (t : Bool) (n : ℕ) (x : Outcome A) → Given n → GivenBy x → GivenBy (demand t n x)
given_demand true n x g h = h
given_demand false n x g h = g

-- Octets and their bits, most significant bit first.
use Rattle.std.specs.Prelude.{ℕ, zero, suc, ◌+◌, ◌-◌, ◌*◌, ◌/◌, ◌%◌, ◌^◌, ◌<◌, Bool, true, false, List, [], ◌∷◌, ◌++◌, length, take, drop, eqb}

-- a bit as a number
abbrev pub bit : Bool → ℕ
bit false = 0
bit true = 1

-- the number that bits spell
abbrev pub num : List Bool → ℕ
num [] = 0
num (b ∷ l) = bit b * 2 ^ length l + num l

-- the w bits that spell v, for v below 2 ^ w
unfoldable pub bits_n : ℕ → ℕ → List Bool
bits_n zero v = []
bits_n (suc w) v = eqb (v / 2 ^ w) 1 ∷ bits_n w (v % 2 ^ w)

-- the bits of octets
abbrev pub bits_of : List ℕ → List Bool
bits_of [] = []
bits_of (x ∷ m) = bits_n 8 x ++ bits_of m

-- k octets, from their bits
abbrev pub octets : ℕ → List Bool → List ℕ
octets zero l = []
octets (suc k) l = num (take 8 l) ∷ octets k (drop 8 l)

-- each is an octet
abbrev pub Octets : List ℕ → Type 0
Octets [] = Unit {0}
Octets (x ∷ m) = (x < 256) × Octets m

-- the number that the w bits at a place spell
unfoldable pub field : List Bool → ℕ → ℕ → ℕ
field l at w = num (take w (drop at l))

-- ---- a bit place and an octet count: two kinds of number, and the ways from one to the other

-- the place where so many octets end
abbrev pub place_after : ℕ → ℕ
place_after octets = 8 * octets

-- the whole octets ahead of a place
abbrev pub octets_before : ℕ → ℕ
octets_before place = place / 8

-- the octets that reach a place: as many as begin ahead of it
abbrev pub octets_to : ℕ → ℕ
octets_to place = octets_before (place + 7)

-- the bits from a place up to an octet's boundary: none to seven
abbrev pub filler_to : ℕ → ℕ
filler_to place = place_after (octets_to place) - place

-- What lies inside something larger: numbers of two octets, stretches back to back, and a message in its place.
use Rattle.std.specs.Prelude.{ℕ, ◌+◌, ◌*◌, ◌/◌, ◌%◌, List, [], ◌∷◌, ◌++◌, map, length, get_or, take, drop}
use Rattle.bits.specs.Bits.{place_after}
use Rattle.bits.specs.Outcome.{Outcome, accepted, refused}

-- ---- numbers of two octets, high octet first

-- the number whose two octets stand at octet `at`
abbrev pub number : List ℕ → ℕ → ℕ
number m at = get_or m at 0 * 256 + get_or m (at + 1) 0

-- the two octets of a number below 65,536
abbrev pub pair : ℕ → List ℕ
pair n = n / 256 ∷ n % 256 ∷ []

-- ---- stretches back to back

-- stretches joined, one behind the other
abbrev pub join : {A : Type 0} → List (List A) → List A
join [] = []
join (s ∷ ss) = s ++ join ss

-- their lengths
abbrev pub lengths : {A : Type 0} → List (List A) → List ℕ
lengths ss = map length ss

-- what lengths add up to, as a whole number
abbrev pub sum : List ℕ → ℕ
sum [] = 0
sum (n ∷ ns) = n + sum ns

-- stretches of given lengths, cut off one behind the other
abbrev pub cut : {A : Type 0} → List ℕ → List A → List (List A)
cut [] l = []
cut (n ∷ ns) l = take n l ∷ cut ns (drop n l)

-- ---- a message in its place

-- what is made of a message that starts behind so many octets: a refusal's place is moved by the start in bits
abbrev pub moved_by : {A : Type 0} → ℕ → Outcome A → Outcome A
moved_by start (accepted a) = accepted a
moved_by start (refused n p) = refused n (place_after start + p)

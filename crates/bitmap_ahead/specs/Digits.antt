-- Digits and dates as octets (3.1.1 of 000).
use Rattle.std.specs.Prelude.{ℕ, ◌≤◌, ◌≡◌, Bool, true, ◌&&◌, List, [], ◌∷◌, ◌++◌, length, get_or, take, drop, leb, eqb}
use Rattle.bits.specs.Choice.{pick}

-- ---- plain conditions

-- a digit is an octet 30 to 39 hexadecimal
abbrev pub Digit : ℕ → Type 0
Digit x = (0x30 ≤ x) × (x ≤ 0x39)

-- each is a digit
abbrev pub AllDigits : List ℕ → Type 0
AllDigits [] = Unit {0}
AllDigits (x ∷ l) = Digit x × AllDigits l

-- so many digits, and nothing else
pub record Digits (n : ℕ) (l : List ℕ) : Type 0 where
  pub count : length l ≡ n
  pub each : AllDigits l

-- a common date: eight digits; then nothing, or T and six digits, or that and Z
pub data CommonDate : List ℕ → Type 0 where
  day : {d : List ℕ} → Digits 8 d → CommonDate d
  time : {d t : List ℕ} → Digits 8 d → Digits 6 t → CommonDate (d ++ 0x54 ∷ t)
  universal : {d t : List ℕ} → Digits 8 d → Digits 6 t → CommonDate (d ++ 0x54 ∷ t ++ 0x5A ∷ [])

-- ---- the same as tests

-- the test of a digit
unfoldable pub digit : ℕ → Bool
digit x = leb 0x30 x && leb x 0x39

-- the test of each
unfoldable pub all_digits : List ℕ → Bool
all_digits [] = true
all_digits (x ∷ l) = digit x && all_digits l

-- the test of so many digits
unfoldable pub digits_taken : ℕ → List ℕ → Bool
digits_taken n l = eqb (length l) n && all_digits l

-- how many octets the date has that stands first, told by the octets where T and Z may stand; one that is not there is neither
unfoldable pub date_octets : List ℕ → ℕ
date_octets d = pick (eqb (get_or d 8 0) 0x54) (pick (eqb (get_or d 15 0) 0x5A) 16 15) 8

-- the test of a common date: as many octets as T and Z say, and the eight and the six others are digits
unfoldable pub date_taken : List ℕ → Bool
date_taken d = eqb (length d) (date_octets d) && all_digits (take 8 d) && all_digits (take 6 (drop 9 d))

-- The label for the screen: the title without its trailing spaces, or the caller's stand-in name.
use Rattle.std.specs.Prelude.{ℕ, zero, suc, ◌+◌, ◌*◌, ◌/◌, ◌%◌, ◌^◌, ◌≡◌, Bool, true, ◌&&◌, ◌||◌, List, [], ◌∷◌, ◌++◌, length, take, drop, eqb}
use Rattle.bits.specs.Choice.{pick}
use Rattle.tone.specs.Tone.{per_character}

-- ---- over the width: w octets a character

-- the number that octets spell, high octet first
abbrev pub number : List ℕ → ℕ
number [] = 0
number (x ∷ o) = x * 256 ^ length o + number o

-- the character that starts at an octet
abbrev pub character : ℕ → List ℕ → ℕ → ℕ
character w title at = number (take w (drop at title))

-- how many of the first n characters are left without trailing spaces; a space is the character 32
unfoldable pub trimmed : ℕ → List ℕ → ℕ → ℕ
trimmed w title zero = 0
trimmed w title (suc n) = pick (eqb (character w title (w * n)) 32) (trimmed w title n) (suc n)

-- the octets that are left of a title
unfoldable pub left_octets : ℕ → List ℕ → ℕ
left_octets w title = w * trimmed w title (length title / w)

-- ---- the label

-- a space: character 32, or the 16-bit 32 under UNICODE
abbrev pub space : Bool → List ℕ
space unicode = pick unicode (0 ∷ 32 ∷ []) (32 ∷ [])

-- so many spaces
abbrev pub spaces : Bool → ℕ → List ℕ
spaces unicode zero = []
spaces unicode (suc n) = space unicode ++ spaces unicode n

-- the title without its trailing spaces
abbrev pub trimmed_title : Bool → List ℕ → List ℕ
trimmed_title unicode title = take (left_octets (per_character unicode) title) title

-- the octets are odd under UNICODE
unfoldable pub odd : Bool → List ℕ → Bool
odd unicode title = unicode && eqb (length title % 2) 1

-- the stand-in supplies the label where nothing is left, or the octets are odd under UNICODE
unfoldable pub stands_in : Bool → List ℕ → Bool
stands_in unicode title = odd unicode title || eqb (left_octets (per_character unicode) title) 0

-- the title without its trailing spaces, or the stand-in name
unfoldable pub label_of : Bool → List ℕ → List ℕ → List ℕ
label_of unicode title standIn = pick (stands_in unicode title) standIn (trimmed_title unicode title)

-- where a title supplies no label: its octets are odd under UNICODE, or it is nothing but spaces
pub data NoTitle (unicode : Bool) (title : List ℕ) : Type 0 where
  odd_octets : odd unicode title ≡ true → NoTitle unicode title
  nothing_left : (n : ℕ) → title ≡ spaces unicode n → NoTitle unicode title

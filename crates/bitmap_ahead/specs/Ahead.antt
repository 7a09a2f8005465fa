-- What stands ahead of a bitmap of each kind: plain (3.8.1 of 000), CLI icon (3.8.2), operator logo (3.8.3).
use Rattle.std.specs.Prelude.{ℕ, ◌+◌, ◌≡◌, Bool, true, ◌&&◌, List, [], ◌∷◌, ◌++◌, length, get_or, take, drop, eqb}
use Rattle.bitmap_ahead.specs.declared.Kind.{Kind}
use Rattle.bitmap_ahead.specs.declared.Kind.TheVariants.{Plain, Icon, Logo}
use Rattle.bitmap_ahead.specs.Digits.{Digits, CommonDate, digits_taken, date_octets, date_taken}

-- what is said ahead of a bitmap, as octets: the network's two codes, and the date up to which a logo holds
pub record Ahead : Type 0 where
  pub mcc : List ℕ
  pub mnc : List ℕ
  pub date : List ℕ

-- these codes and this date are said
abbrev pub said : List ℕ → List ℕ → List ℕ → Ahead
said mcc mnc date = record { mcc = mcc; mnc = mnc; date = date }

-- nothing is said
abbrev pub nothing : Ahead
nothing = said [] [] []

-- well formed: in a logo a country code of three digits, a network code of two and a common date, in the other kinds nothing
abbrev pub WellFormed : Kind → Ahead → Type 0
WellFormed Plain a = a ≡ nothing
WellFormed Icon a = a ≡ nothing
WellFormed Logo a = Digits 3 a.mcc × Digits 2 a.mnc × CommonDate a.date

-- its octets: none ahead of a plain bitmap; an icon's version '0'; a logo's version '0', codes, date and line feed
abbrev pub ahead_octets : Kind → Ahead → List ℕ
ahead_octets Plain a = []
ahead_octets Icon a = 0x30 ∷ []
ahead_octets Logo a = 0x30 ∷ a.mcc ++ a.mnc ++ a.date ++ 0x0A ∷ []

-- the test of nothing
unfoldable pub silent : Ahead → Bool
silent a = eqb (length a.mcc) 0 && eqb (length a.mnc) 0 && eqb (length a.date) 0

-- the test of what is said ahead
abbrev pub taken : Kind → Ahead → Bool
taken Plain a = silent a
taken Icon a = silent a
taken Logo a = digits_taken 3 a.mcc && digits_taken 2 a.mnc && date_taken a.date

-- ---- in a message

-- where the bitmap begins: at once, behind the version, behind a logo's line feed
abbrev pub start_of : Kind → List ℕ → ℕ
start_of Plain m = 0
start_of Icon m = 1
start_of Logo m = 6 + date_octets (drop 6 m) + 1

-- what is said there: a logo's codes from octet 1 and from octet 4 on, its date from octet 6 on
abbrev pub ahead_in : Kind → List ℕ → Ahead
ahead_in Plain m = nothing
ahead_in Icon m = nothing
ahead_in Logo m = said (take 3 (drop 1 m)) (take 2 (drop 4 m)) (take (date_octets (drop 6 m)) (drop 6 m))

-- the fixed octets stand there: the version '0', and a logo's line feed, which is the last octet ahead of its bitmap
abbrev pub fixed_stand : Kind → List ℕ → Bool
fixed_stand Plain m = true
fixed_stand Icon m = eqb (get_or m 0 0) 0x30
fixed_stand Logo m = eqb (get_or m 0 0) 0x30 && eqb (get_or m (6 + date_octets (drop 6 m)) 0) 0x0A

-- every octet ahead of the bitmap is one that the section has there
unfoldable pub stands : Kind → List ℕ → Bool
stands kind m = fixed_stand kind m && taken kind (ahead_in kind m)

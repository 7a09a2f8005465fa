-- What the code answers of a tone that it tells.
use Rattle.std.specs.Prelude.{ℕ, zero, suc, ◌+◌, ◌-◌, ◌%◌, ◌≤◌, ◌≡◌, Bool, List, length, drop, Option, Some, None}
use Rattle.bits.specs.Bits.{bits_of, place_after, octets_before}
use Rattle.bits.specs.Places.{octet_count}
use Rattle.bits.specs.declared.OctetCount.{OctetCount}
use Rattle.bits.specs.Window.{Sight}
use Rattle.tone.specs.Tone.{Pattern, Tone, Front, none_known}
use Rattle.tone.specs.Reading.{Reader, Got, got, bad, command, front as frontDue, body_due, patterns_due, whole_tone}
use Rattle.tone_sound.specs.declared.Told.{Told}
use Rattle.tone_sound.specs.declared.Start.{Start}
use Rattle.tone_sound.specs.Turning.{turn, clear, Mark, width_in, along, AllClear}

-- a search that tells: of what it finds P holds, and where Q holds, it finds something
pub record Finds {A : Type 0} (r : Option A) (P : A → Type 0) (Q : Type 0) : Type 0 where
  pub so : (v : A) → r ≡ Some v → P v
  pub back : Q → (v : A) × (r ≡ Some v)

-- n instructions on top of x were told: their bits, and no mark is met where none was before and each is one of the table, and only there
pub record ToldOf (n x met : ℕ) (r : Told) : Type 0 where
  pub widths : r.widths % 256 ≡ along width_in n (turn 6 x)
  pub marks : r.marks ≡ clear → (met ≡ clear) × AllClear n (turn 6 x)
  pub unmarked : met ≡ clear → AllClear n (turn 6 x) → r.marks ≡ clear
  pub mark : Mark r.marks

-- n instructions stand from one place up to another
pub record Past (m : List ℕ) (at n p : ℕ) : Type 0 where
  pub body : List ℕ
  pub reads : body_due n (bits_of m) at ≡ got body p
  pub inside : p ≤ place_after (length m)

-- n instructions stand at a place, and the end octet's bits are left behind them
pub record Stand (m : List ℕ) (at n : ℕ) : Type 0 where
  pub end : ℕ
  pub past : Past m at n end
  pub room : end + 8 ≤ place_after (length m)

-- of n instructions all but `left` do
pub record Gone (m : List ℕ) (at n p left : ℕ) : Type 0 where
  pub fewer : left ≤ n
  pub past : Past m at (n - left) p

-- n patterns stand from one place up to another
pub record PatternsPast (m : List ℕ) (at n p : ℕ) : Type 0 where
  pub patterns : List Pattern
  pub reads : patterns_due n none_known (bits_of m) at ≡ got patterns p
  pub inside : p ≤ place_after (length m)

-- n patterns stand at a place, and the end octet's bits are left behind them
pub record PatternsStand (m : List ℕ) (at n : ℕ) : Type 0 where
  pub end : ℕ
  pub past : PatternsPast m at n end
  pub room : end + 8 ≤ place_after (length m)

-- the command stands wherever x was seen: with UNICODE or without, so many bits
pub record CommandOn (x : ℕ) (unicode : Bool) (n : ℕ) : Type 0 where
  pub short : n ≤ 31
  pub reads : (m : List ℕ) (at : ℕ) → Sight 57 (drop at (bits_of m)) x → at + 57 ≤ place_after (length m) → command (bits_of m) at ≡ got unicode (at + n)

-- a command was read where x was seen
pub record CommandSeen (x : ℕ) : Type 0 where
  pub octets : List ℕ
  pub at : ℕ
  pub sees : Sight 57 (drop at (bits_of octets)) x
  pub unicode : Bool
  pub end : ℕ
  pub reads : command (bits_of octets) at ≡ got unicode end

-- what is due of a front stands from one place up to another, and announces n patterns
pub record FrontAt (due : Reader Front) (m : List ℕ) (at p n : ℕ) : Type 0 where
  pub front : Front
  pub reads : due (bits_of m) at ≡ got front p
  pub count : front.count ≡ n
  pub some : 1 ≤ n
  pub inside : p ≤ place_after (length m)

-- what is due of a front stands at a place, and the bits of a header and of the end octet are left behind it
pub record FrontStands (due : Reader Front) (m : List ℕ) (at : ℕ) : Type 0 where
  pub front : Front
  pub end : ℕ
  pub reads : due (bits_of m) at ≡ got front end
  pub room : end + 25 ≤ place_after (length m)

-- patterns start behind what is due of a front, where it stands, and only there
abbrev pub Starts : Reader Front → List ℕ → ℕ → Option Start → Type 0
Starts due m at r = Finds r (λ s. FrontAt due m at s.at.0 s.count) (FrontStands due m at)

-- a tone's front and patterns stand from an octet up to a place
pub record SongPast (m : List ℕ) (start p : ℕ) : Type 0 where
  pub front : Front
  pub behind : ℕ
  pub opens : frontDue (bits_of m) (place_after start) ≡ got front behind
  pub patterns : List Pattern
  pub reads : patterns_due front.count none_known (bits_of m) behind ≡ got patterns p
  pub inside : p ≤ place_after (length m)

-- a tone starts at an octet
pub record ToneFrom (m : List ℕ) (start : ℕ) : Type 0 where
  pub tone : Tone
  pub end : ℕ
  pub reads : whole_tone (bits_of m) (place_after start) ≡ got tone end

-- behind how many octets it ends, where it was read
abbrev pub octets_behind : {A : Type 0} → Got A → Option OctetCount
octets_behind (got a p) = Some (octet_count (octets_before p))
octets_behind (bad n p e) = None

-- a number of octets, which is none where it is 0
abbrev pub octets_or_none : ℕ → Option OctetCount
octets_or_none zero = None
octets_or_none (suc n) = Some (octet_count (suc n))

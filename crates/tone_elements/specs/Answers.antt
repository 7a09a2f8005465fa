-- What the code answers of an element that was due.
use Rattle.std.specs.Prelude.{ℕ, ◌+◌, ◌*◌, ◌/◌, ◌%◌, ◌^◌, ◌≤◌, ◌<◌, Bool, true, ◌≡◌, List, [], ◌∷◌, ◌++◌, length, drop, eqb, Result, Ok, Err}
use Rattle.bits.specs.Choice.{pick}
use Rattle.bits.specs.Bits.{bits_of, field, place_after}
use Rattle.bits.specs.Places.{place, octet_count}
use Rattle.bits.specs.Refusals.{refusal}
use Rattle.bits.specs.declared.refusal.Refusal.{Refusal}
use Rattle.bits.specs.declared.OctetCount.{OctetCount}
use Rattle.tone_elements.specs.declared.Seen.{Seen}
use Rattle.tone_elements.specs.declared.Fault.{Fault}
use Rattle.tone_elements.specs.declared.Opening.{Opening}
use Rattle.tone.specs.Table.{kind, InTable}
use Rattle.tone.specs.Tone.{Front, character_bits, allowed_character}
use Rattle.tone.specs.Writing.{entry_bits}
use Rattle.tone.specs.Reading.{Got, got, bad}

-- a place within a message, whose bits a place can count
pub record Within (m : List ℕ) (at : ℕ) : Type 0 where
  pub inside : at ≤ place_after (length m)
  pub counted : length m < 2 ^ 60

-- all four parts are known: then a header may recall any
abbrev pub all_known : List Bool
all_known = true ∷ true ∷ true ∷ true ∷ []

-- what was read, as the value that f makes of it, or the refusal
abbrev pub seen_as : {A B : Type 0} → (A → B) → Got A → Result (Seen B) Refusal
seen_as f (got a p) = Ok (record { value = f a; next = place p })
seen_as f (bad n p e) = Err (refusal n p)

-- what was read as it is, or the refusal
abbrev pub seen_of : {A : Type 0} → Got A → Result (Seen A) Refusal
seen_of g = seen_as (λ v. v) g

-- what was read as it is, or the refusal by its number as it is
abbrev pub seen_or_fault : Got ℕ → Result (Seen ℕ) Fault
seen_or_fault (got v p) = Ok (record { value = v; next = place p })
seen_or_fault (bad n p e) = Err (record { number = n; place = place p })

-- 1 for a note or pause, 0 for any other instruction
abbrev pub note_in : ℕ → ℕ
note_in e = pick (eqb (kind e) 1) 1 0

-- how many notes and pauses a body has
abbrev pub notes : List ℕ → ℕ
notes [] = 0
notes (e ∷ b) = note_in e + notes b

-- how many octets a title's characters are, or the refusal
abbrev pub characters_of : Got (List ℕ) → Result (Seen OctetCount) Refusal
characters_of g = seen_as (λ t. octet_count (length t)) g

-- a test that is sure where it passes
pub record Sure (r : Bool) (P : Type 0) : Type 0 where
  pub so : r ≡ true → P

-- a test that passes wherever something holds
pub record Complete (r : Bool) (P : Type 0) : Type 0 where
  pub passes : P → r ≡ true

-- the characters of w bits that two numbers of 64 bits hold are allowed
pub record BothAllowed (w x y : ℕ) : Type 0 where
  pub first : (k : ℕ) → w * k + w ≤ 64 → allowed_character (x / 2 ^ (w * k) % 2 ^ w) ≡ true
  pub second : (k : ℕ) → w * k + w ≤ 64 → allowed_character (y / 2 ^ (w * k) % 2 ^ w) ≡ true

-- the n characters at a place are there and allowed
pub record AllowedAt (m : List ℕ) (at : ℕ) (unicode : Bool) (n : ℕ) : Type 0 where
  pub there : at + n * character_bits unicode ≤ place_after (length m)
  pub each : (i : ℕ) → i < n → allowed_character (field (bits_of m) (at + i * character_bits unicode) (character_bits unicode)) ≡ true

-- the front as the code answers it
abbrev pub opening : Front → Opening
opening f = record { song = f.song; octets = octet_count (length f.title); count = f.count; unicode = f.unicode }

-- the same, or the refusal
abbrev pub opening_of : Got Front → Result (Seen Opening) Refusal
opening_of g = seen_as opening g

-- ---- what stands at a place of a message that was judged

-- the entry e stands at a place, and the bits r behind it
pub record EntryAt (m : List ℕ) (at e : ℕ) (r : List Bool) : Type 0 where
  pub in_table : InTable e
  pub here : drop at (bits_of m) ≡ entry_bits e ++ r

-- some entry does
pub record SomeEntry (m : List ℕ) (at : ℕ) : Type 0 where
  pub entry : ℕ
  pub behind : List Bool
  pub stands : EntryAt m at entry behind

-- the entry e was taken up, and the place behind it
pub record Passed (at e cell next : ℕ) : Type 0 where
  pub taken : cell ≡ e
  pub behind : next ≡ at + length (entry_bits e)

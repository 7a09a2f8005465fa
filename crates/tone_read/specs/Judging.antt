-- What stands where in a message that was judged.
use Rattle.std.specs.Prelude.{ℕ, ◌≡◌, Bool, List, [], ◌∷◌, ◌++◌, drop}
use Rattle.bits.specs.Bits.{bits_of, Octets}
use Rattle.bits.specs.Outcome.{Outcome, accepted, refused}
use Rattle.tone.specs.Table.{InTable}
use Rattle.tone.specs.Tone.{Tone, cells}
use Rattle.tone.specs.Writing.{table_bits}
use Rattle.tone.specs.Reading.{read_tone}

-- the table of a tone that is accepted
abbrev pub table_in : Outcome Tone → List ℕ
table_in (accepted t) = cells t.patterns
table_in (refused n p) = []

-- its title
abbrev pub title_in : Outcome Tone → List ℕ
title_in (accepted t) = t.title
title_in (refused n p) = []

-- the table of a message
abbrev pub table_of : List ℕ → List ℕ
table_of m = table_in (read_tone m)

-- the title of a message
abbrev pub title_of : List ℕ → List ℕ
title_of m = title_in (read_tone m)

-- each is an entry of the table
abbrev pub Entries : List ℕ → Type 0
Entries [] = Unit {0}
Entries (e ∷ t) = InTable e × Entries t

-- the entries t stand at a place, one after the other
pub record TableAt (m : List ℕ) (at : ℕ) (t : List ℕ) : Type 0 where
  pub each : Entries t
  pub behind : List Bool
  pub here : drop at (bits_of m) ≡ table_bits t ++ behind

-- the octets o stand at a place, one after the other
pub record OctetsAt (m : List ℕ) (at : ℕ) (o : List ℕ) : Type 0 where
  pub each : Octets o
  pub behind : List Bool
  pub here : drop at (bits_of m) ≡ bits_of o ++ behind

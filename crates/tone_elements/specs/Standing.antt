-- What stands at a place of a message.
use Rattle.std.specs.Prelude.{ℕ, ◌+◌, ◌≤◌, ◌≡◌, List, []}
use Rattle.bits.specs.Bits.{bits_of}
use Rattle.tone.specs.Tone.{specifier}
use Rattle.tone.specs.Reading.{Got, got, bad, body_due}
use Rattle.tone_elements.specs.Answers.{Within, notes}

-- what was read, or d
abbrev pub value_or : {A : Type 0} → A → Got A → A
value_or d (got a p) = a
value_or d (bad n p e) = d

-- the place behind it
abbrev pub behind_or : {A : Type 0} → Got A → ℕ
behind_or (got a p) = p
behind_or (bad n p e) = p

-- the n instructions at a place
abbrev pub body_in : List ℕ → ℕ → ℕ → List ℕ
body_in m at n = value_or [] (body_due n (bits_of m) at)

-- the place behind them
abbrev pub behind_in : List ℕ → ℕ → ℕ → ℕ
behind_in m at n = behind_or (body_due n (bits_of m) at)

-- n instructions stand at a place: the body b, and the place q behind it
pub record BodyAt (m : List ℕ) (at n : ℕ) (b : List ℕ) (q : ℕ) : Type 0 where
  pub within : Within m at
  pub short : n ≤ 255
  pub reads : body_due n (bits_of m) at ≡ got b q

-- a header stands at h, and behind its 17 bits the instructions that it announces, with so many notes
pub record PartAt (m : List ℕ) (h cell own : ℕ) : Type 0 where
  pub stands : BodyAt m (h + 17) (specifier cell) (body_in m (h + 17) (specifier cell)) (behind_in m (h + 17) (specifier cell))
  pub noted : own ≡ notes (body_in m (h + 17) (specifier cell))

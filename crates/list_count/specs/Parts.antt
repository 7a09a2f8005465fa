-- The parts as the code remembers them.
use Rattle.std.specs.Prelude.{ℕ, eqb}
use Rattle.bits.specs.Choice.{pick}
use Rattle.tone.specs.Tone.{specifier}

-- the part that a header sounds: that of its id where it is a recall, else its own, which takes that one's place
abbrev pub sounding_part : {P : Type 0} → P → ℕ → P → P
sounding_part part h own = pick (eqb (specifier h) 0) part own

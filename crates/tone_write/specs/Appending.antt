-- Bits written behind those that a sink holds.
use Rattle.std.specs.Prelude.{ℕ, ◌+◌, Bool, List, [], length, eqb}
use Rattle.bits.specs.Choice.{pick}
use Rattle.bits.specs.Bits.{place_after}
use Rattle.bits.specs.Sink.{written, Put}
use Rattle.bits.specs.declared.Sink.{Sink}
use Rattle.tone.specs.Tone.{Front}

-- the place that a sink has reached
abbrev pub reached : Sink → ℕ
reached s = place_after s.octets.0 + s.n

-- the bits `more` stand behind those of a sink, and the octets past them are as they were
abbrev pub Appended : Sink → List Bool → List ℕ → List ℕ → Sink → Type 0
Appended s more kept buf r =
    Put (written kept s.octets.0 s.n s.acc) more (reached s + length more) kept buf r.octets.0 r.n r.acc

-- the bits `more` stand at the start, and the octets past them are as they were
abbrev pub Begun : List Bool → List ℕ → List ℕ → Sink → Type 0
Begun more kept buf r = Put [] more (length more) kept buf r.octets.0 r.n r.acc

-- a front of these parts
abbrev pub front_with : ℕ → Bool → List ℕ → ℕ → Front
front_with song unicode title count = record { song = song; unicode = unicode; title = title; count = count }

-- how many bits stand ahead of the patterns, with so many octets of title: the command and the song type, the title and its length, the pattern count
abbrev pub front_length : ℕ → Bool → ℕ → ℕ
front_length song unicode octets = pick unicode 34 26 + (pick (eqb song 1) (4 + place_after octets) 0 + 8)

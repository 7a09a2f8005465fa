-- The bits of a message put anew: what is written of them, and the message that is built.
use Rattle.std.specs.Prelude.{ℕ, ◌+◌, ◌-◌, ◌≡◌, Bool, List, ◌++◌, length, take, drop}
use Rattle.bits.specs.Bits.{bits_n, bits_of, Octets, place_after, octets_to}
use Rattle.bits.specs.Sink.{written, InHand}
use Rattle.tone.specs.Writing.{end_bits}

-- bits that were written from a buffer's start on
pub record Begun (bits : List Bool) (buf : List ℕ) (o n acc : ℕ) : Type 0 where
  pub spelt : written buf o n acc ≡ bits
  pub place : place_after o + n ≡ length bits
  pub hand : InHand n acc

-- ---- the bits of a message with one header and what stands between two places put anew

-- the bits ahead of the header, and the header
abbrev pub headed : List Bool → ℕ → ℕ → List Bool
headed l head cell = take head l ++ bits_n 17 cell

-- then those up to the first place
abbrev pub reached : List Bool → ℕ → ℕ → ℕ → List Bool
reached l head cell at = headed l head cell ++ take (at - (head + 17)) (drop (head + 17) l)

-- then w bits that spell v
abbrev pub pieced : List Bool → ℕ → ℕ → ℕ → ℕ → ℕ → List Bool
pieced l head cell at w v = reached l head cell at ++ bits_n w v

-- then those from the second place up to the end
abbrev pub joined : List Bool → ℕ → ℕ → ℕ → ℕ → ℕ → ℕ → ℕ → List Bool
joined l head cell at w v behind end = pieced l head cell at w v ++ take (end - behind) (drop behind l)

-- a message was built of bits: filler and the end octet follow them
pub record Built (bits : List Bool) (buf : List ℕ) (r : ℕ) : Type 0 where
  pub each : Octets (take r buf)
  pub spelt : bits_of (take r buf) ≡ bits ++ end_bits (length bits)
  pub size : r ≡ octets_to (length bits) + 1

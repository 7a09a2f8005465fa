-- Bits that are written one after the other: whole octets in a buffer, and fewer than 32 bits in hand.
use Rattle.std.specs.Prelude.{ℕ, ◌+◌, ◌^◌, ◌<◌, ◌≡◌, Bool, false, List, ◌++◌, take, drop, replicate}
use Rattle.bits.specs.Bits.{bits_n, bits_of, place_after, octets_to, filler_to}

-- the bits of the octets written, and the n bits in hand, which spell acc
unfoldable pub written : List ℕ → ℕ → ℕ → ℕ → List Bool
written buf at n acc = bits_of (take at buf) ++ bits_n n acc

-- fewer than 32 bits are in hand, and the number says no more than they hold
pub record InHand (n acc : ℕ) : Type 0 where
  pub short : n < 32
  pub small : acc < 2 ^ n

-- what storing a word leaves: its 32 bits behind the octets ahead, and the octets past them as they were
pub record Stored (word : ℕ) (kept buf : List ℕ) (at : ℕ) : Type 0 where
  pub bits : bits_of (take (at + 4) buf) ≡ bits_of (take at kept) ++ bits_n 32 word
  pub rest : drop (at + 4) buf ≡ drop (at + 4) kept

-- what putting bits leaves: those that there were and then more, up to the place given, and the octets past that place as they were
pub record Put (old more : List Bool) (end : ℕ) (kept buf : List ℕ) (at n acc : ℕ) : Type 0 where
  pub bits : written buf at n acc ≡ old ++ more
  pub place : place_after at + n ≡ end
  pub hand : InHand n acc
  pub rest : drop (octets_to end) buf ≡ drop (octets_to end) kept

-- what sealing leaves: the bits, zeros to the octet's end and an octet 0, and the octets past them as they were
pub record Sealed (old : List Bool) (end : ℕ) (kept buf : List ℕ) (r : ℕ) : Type 0 where
  pub bits : bits_of (take r buf) ≡ old ++ replicate (filler_to end + 8) false
  pub size : r ≡ octets_to end + 1
  pub rest : drop r buf ≡ drop r kept

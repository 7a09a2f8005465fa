-- Places and counts of octets.
use Prim.Native.Nat.{ℕ, ◌+◌, ◌<◌}
use native.Mathlib.Omega.{arith}
use mathlib.Core.Path.{◌≡◌}
use Rattle.bits.specs.Bits.{place_after, octets_to, filler_to}

-- the filler ends at an octet's boundary
pub filled : (p : ℕ) → p + filler_to p ≡ place_after (octets_to p)
filled p = omega arith

pub filler_short : (p : ℕ) → filler_to p < 8
filler_short p = omega arith

-- a place where an octet begins needs no filler
pub octets_there : (n : ℕ) → octets_to (place_after n) ≡ n
octets_there n = omega arith

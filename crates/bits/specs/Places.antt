-- Numbers as bit places and as octet counts.
use Rattle.std.specs.Prelude.{ℕ}
use Rattle.bits.specs.declared.BitPlace.{BitPlace}
use Rattle.bits.specs.declared.OctetCount.{OctetCount}

-- a number as a bit place
abbrev pub place : ℕ → BitPlace
place p = record { 0 = p }

-- a number as an octet count
abbrev pub octet_count : ℕ → OctetCount
octet_count n = record { 0 = n }

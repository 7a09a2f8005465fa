-- `tone_write::put_octets` meets its contract. Each turn writes one octet.
use Rattle.bits.specs.Bits.{bits_of}
use Rattle.tone_write.proofs.Pieces.{Run}
use Rattle.tone_write.proofs.put_octets.Given as goal

abbrev pub invariant-loop-octet : goal.invariant-loop-octet
invariant-loop-octet l = Run bits_of l.octets l.initial.s l.initial.out l.out l.s l.octet-index

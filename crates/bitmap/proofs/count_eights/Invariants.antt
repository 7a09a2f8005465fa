-- `bitmap::count_eights` meets its contract. Each turn counts eight octets more.
use Rattle.bitmap.proofs.Counting.{Eights}
use Rattle.bitmap.proofs.count_eights.Given as goal

abbrev pub invariant-loop-k : goal.invariant-loop-k
invariant-loop-k l = Eights l.s l.n l.k

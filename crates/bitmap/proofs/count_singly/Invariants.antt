-- `bitmap::count_singly` meets its contract. Each turn counts one octet more.
use Rattle.bitmap.proofs.Counting.{Octetwise}
use Rattle.bitmap.proofs.count_singly.Given as goal

abbrev pub invariant-loop-x : goal.invariant-loop-x
invariant-loop-x l = Octetwise l.s l.n l.x-index

-- `bitmap_ahead::all_digits` meets its contract. Each turn counts one octet more.
use Rattle.bitmap_ahead.proofs.Counting.{Counted}
use Rattle.bitmap_ahead.proofs.all_digits.Given as goal

abbrev pub invariant-loop-x : goal.invariant-loop-x
invariant-loop-x l = Counted l.s l.n l.x-index

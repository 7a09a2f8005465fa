-- `list_text::put_digits` meets its contract. The digits are put from the last; those left fall.
use Rattle.list_text.proofs.Texts.{Spelling}
use Rattle.list_text.proofs.put_digits.Given as goal

abbrev pub invariant-loop-i : goal.invariant-loop-i
invariant-loop-i l = Spelling l.initial.out l.first l.k l.n l.out l.i l.rest

abbrev pub decreases-loop-i : goal.decreases-loop-i
decreases-loop-i l = l.i

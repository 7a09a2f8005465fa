-- `bits::Sink::put` meets its contract. The bits stay in hand, or a word of them is handed over.
use borrow.Author.Rules.{rules}
use Rattle.bits.proofs.Putting.{puts}
use Rattle.bits.proofs.Sink.put.Goals as goal

pub invariant_of-result : goal.invariant_of-result
invariant_of-result c = search (puts, rules)

pub returns-then-n-lt32 : goal.returns-then-n-lt32
returns-then-n-lt32 c = search (puts, rules)

pub overflow_cast-acc-3 : goal.overflow_cast-acc-3
overflow_cast-acc-3 c = search (puts, rules)

pub returns : goal.returns
returns c = search (puts, rules)

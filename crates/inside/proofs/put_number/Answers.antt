-- `inside::put_number` meets its contract.
use borrow.Author.Rules.{rules}
use Rattle.inside.proofs.Moving.{pairs}
use Rattle.inside.proofs.put_number.Goals as goal

pub bounds-out-i-2 : goal.bounds-out-i-2
bounds-out-i-2 c = search (pairs, rules)

pub returns : goal.returns
returns c = search (pairs, rules)

-- `bitmap_ahead::put` meets its contract.
use borrow.Author.Rules.{rules}
use Rattle.bitmap_ahead.proofs.Putting.{puts}
use Rattle.bitmap_ahead.proofs.put.Goals as goal

pub bounds-out-0 : goal.bounds-out-0
bounds-out-0 c = search (puts, rules)

pub put_logo-requires : goal.put_logo-requires
put_logo-requires c = search (puts, rules)

pub returns-in-Icon : goal.returns-in-Icon
returns-in-Icon c = search (puts, rules)

pub returns-in-Logo : goal.returns-in-Logo
returns-in-Logo c = search (puts, rules)

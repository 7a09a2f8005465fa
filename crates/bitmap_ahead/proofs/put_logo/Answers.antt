-- `bitmap_ahead::put_logo` meets its contract.
use borrow.Author.Rules.{rules}
use Rattle.bitmap_ahead.proofs.Putting.{logos}
use Rattle.bitmap_ahead.proofs.put_logo.Goals as goal

pub shape_of-out : goal.shape_of-out
shape_of-out c = search (logos, rules)

pub returns : goal.returns
returns c = search (logos, rules)

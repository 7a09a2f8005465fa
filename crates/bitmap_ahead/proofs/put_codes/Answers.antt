-- `bitmap_ahead::put_codes` meets its contract.
use borrow.Author.Rules.{rules}
use Rattle.bitmap_ahead.proofs.Putting.{codes}
use Rattle.bitmap_ahead.proofs.put_codes.Goals as goal

pub put_at-requires : goal.put_at-requires
put_at-requires c = search (codes, rules)

pub put_at-requires-2 : goal.put_at-requires-2
put_at-requires-2 c = search (codes, rules)

pub shape_of-out : goal.shape_of-out
shape_of-out c = search (codes, rules)

pub returns : goal.returns
returns c = search (codes, rules)

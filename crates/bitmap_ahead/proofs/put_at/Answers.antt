-- `bitmap_ahead::put_at` meets its contract.
use borrow.Author.Rules.{rules}
use Rattle.bitmap_ahead.proofs.Putting.{pasted}
use Rattle.bitmap_ahead.proofs.put_at.Goals as goal

pub returns : goal.returns
returns c = search (pasted, rules)

-- `bitmap_ahead::start` meets its contract.
use borrow.Author.Rules.{rules}
use Rattle.bitmap_ahead.proofs.Standing.{starts}
use Rattle.bitmap_ahead.proofs.start.Goals as goal

pub returns-in-Logo : goal.returns-in-Logo
returns-in-Logo c = search (starts, rules)

-- `bitmap_ahead::date_octets` meets its contract.
use borrow.Author.Rules.{rules}
use Rattle.bitmap_ahead.proofs.Dates.{told}
use Rattle.bitmap_ahead.proofs.date_octets.Goals as goal

pub returns-then-s-le8 : goal.returns-then-s-le8
returns-then-s-le8 c = search (told, rules)

pub returns-then-s-le15 : goal.returns-then-s-le15
returns-then-s-le15 c = search (told, rules)

pub returns : goal.returns
returns c = search (told, rules)

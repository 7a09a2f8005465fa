-- `bitmap_ahead::one_for_digit` meets its contract.
use borrow.Author.Rules.{rules}
use Rattle.bits.proofs.Choice.{tests}
use Rattle.bitmap_ahead.specs.Digits.{digit}
use Rattle.bitmap_ahead.proofs.one_for_digit.Goals as goal

pub returns-then-x-le57 : goal.returns-then-x-le57
unfolding digit
returns-then-x-le57 c = search (tests, rules)

pub returns-else-x-ge48 : goal.returns-else-x-ge48
unfolding digit
returns-else-x-ge48 c = search (tests, rules)

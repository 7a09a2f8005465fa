-- `bitmap_ahead::date_taken` meets its contract.
use borrow.Author.Rules.{rules}
use Rattle.bitmap_ahead.proofs.Dates.{dating}
use Rattle.bitmap_ahead.proofs.date_taken.Goals as goal

pub slice_bounds-all_digits-end : goal.slice_bounds-all_digits-end
slice_bounds-all_digits-end c = search (dating, rules)

pub slice_bounds-all_digits-end-else-n-eq8 : goal.slice_bounds-all_digits-end-else-n-eq8
slice_bounds-all_digits-end-else-n-eq8 c = search (dating, rules)

pub returns-then-n-eq8 : goal.returns-then-n-eq8
returns-then-n-eq8 c = search (dating, rules)

pub returns-else-n-eq8 : goal.returns-else-n-eq8
returns-else-n-eq8 c = search (dating, rules)

pub returns-else-all_digits : goal.returns-else-all_digits
returns-else-all_digits c = search (dating, rules)

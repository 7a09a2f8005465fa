-- `bitmap_ahead::logo_stands` meets its contract.
use borrow.Author.Rules.{rules}
use Rattle.bitmap_ahead.proofs.Standing.{lines}
use Rattle.bitmap_ahead.proofs.logo_stands.Goals as goal

pub slice_bounds-all_digits-end : goal.slice_bounds-all_digits-end
slice_bounds-all_digits-end c = search (lines, rules)

pub slice_bounds-all_digits-end-else-start-eq15 : goal.slice_bounds-all_digits-end-else-start-eq15
slice_bounds-all_digits-end-else-start-eq15 c = search (lines, rules)

pub returns-then-start-eq15 : goal.returns-then-start-eq15
returns-then-start-eq15 c = search (lines, rules)

pub returns-else-start-eq15 : goal.returns-else-start-eq15
returns-else-start-eq15 c = search (lines, rules)

pub returns-else-all_digits : goal.returns-else-all_digits
returns-else-all_digits c = search (lines, rules)

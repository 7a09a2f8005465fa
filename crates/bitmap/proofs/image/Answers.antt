-- `bitmap::image` meets its contract.
use borrow.Author.Rules.{rules}
use Rattle.bitmap.proofs.Exits.{images}
use Rattle.bitmap.proofs.image.Goals as goal

pub slice_bounds-result-count : goal.slice_bounds-result-count
slice_bounds-result-count c = search (images, rules)

pub slice_bounds-result-start : goal.slice_bounds-result-start
slice_bounds-result-start c = search (images, rules)

pub returns-in-Ok : goal.returns-in-Ok
returns-in-Ok c = search (images, rules)

pub returns-in-Err : goal.returns-in-Err
returns-in-Err c = search (images, rules)

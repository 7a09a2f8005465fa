-- `bitmap::fill` meets its contract.
use borrow.Author.Rules.{rules}
use native.Mathlib.Omega.{arith}
use lib.ListN.{length-set}
use Rattle.bitmap.proofs.Filling.{filling}
use Rattle.bitmap.proofs.fill.Goals as goal

pub bounds-out-1 : goal.bounds-out-1
bounds-out-1 c = simp length-set (omega arith)

pub bounds-out-2 : goal.bounds-out-2
bounds-out-2 c = simp length-set (omega arith)

pub bounds-out-3 : goal.bounds-out-3
bounds-out-3 c = simp length-set (omega arith)

pub slice_bounds-copy-count : goal.slice_bounds-copy-count
slice_bounds-copy-count c = simp length-set (omega arith)

pub copy-requires : goal.copy-requires
copy-requires c = search (filling, rules)

pub shape_of-out : goal.shape_of-out
shape_of-out c = search (filling, rules)

pub returns : goal.returns
returns c = search (filling, rules)

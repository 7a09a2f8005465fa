-- `bits::store` meets its contract.
use borrow.Author.Rules.{rules}
use native.Mathlib.Omega.{arith}
use lib.ListN.{length-set}
use Rattle.bits.proofs.Putting.{stored}
use Rattle.bits.proofs.store.Goals as goal

pub bounds-buf-i-2 : goal.bounds-buf-i-2
bounds-buf-i-2 c = simp length-set (omega arith)

pub bounds-buf-i-3 : goal.bounds-buf-i-3
bounds-buf-i-3 c = simp length-set (omega arith)

pub bounds-buf-i-4 : goal.bounds-buf-i-4
bounds-buf-i-4 c = simp length-set (omega arith)

pub returns : goal.returns
returns c = search (stored, rules)

-- `pack::continues` meets its contract.
use borrow.Author.Rules.{rules}
use native.Mathlib.Omega.{arith}
use Rattle.pack.proofs.Turning.{counted_turn, continuing_not, continuings}
use Rattle.pack.proofs.continues.Goals as goal

pub returns-then-number_at-at : goal.returns-then-number_at-at
returns-then-number_at-at c = continuing_not c.args.pack.now _ _ c.loop-i.invariant (search rules) {a = c.number_at.result} (search rules) (λ e. omega (arith, e, c.if-number_at-at.true))

pub loop-i-preserved : goal.loop-i-preserved
loop-i-preserved c = counted_turn _ _ _ c.loop-i.invariant (search rules) {a = c.number_at.result} (search rules) (search rules) (search rules)

pub returns : goal.returns
returns c = search (continuings, rules)

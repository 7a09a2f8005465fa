-- `bits::octet` meets its contract.
use borrow.Author.Rules.{rules}
use native.Mathlib.Omega.{arith}
use mathlib.Core.Path.{sym}
use lib.ListN.{get_or-eq_default}
use Rattle.bits.proofs.octet.Goals as goal

pub overflow_cast-result : goal.overflow_cast-result
overflow_cast-result c = omega (arith, c.type_inv.s c.args.at.0)

pub returns-then-i-s : goal.returns-then-i-s
returns-then-i-s c = (search rules, omega (arith, c.type_inv.s c.args.at.0))

pub returns-else-i-s : goal.returns-else-i-s
returns-else-i-s c = (sym (get_or-eq_default c.args.s.now 0 c.if-i-s.false), omega arith)

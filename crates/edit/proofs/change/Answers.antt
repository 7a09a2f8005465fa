-- `edit::change` meets its contract.
use Rattle.edit.proofs.Changes.{change_fits, change_is}
use native.Mathlib.Omega.{arith}
use Rattle.edit.proofs.change.Goals as goal

pub overflow_sub-result : goal.overflow_sub-result
overflow_sub-result c = change_fits c.args.new.0 c.args.old.0 (omega arith) (omega arith)

pub returns : goal.returns
returns c = change_is c.args.new.0 c.args.old.0 (omega arith) (omega arith)

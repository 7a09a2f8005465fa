-- `salvage::salvage` meets its contract.
use borrow.Author.Rules.{rules}
use native.Mathlib.Omega.{arith}
use Rattle.salvage.proofs.Ends.{outs}
use Rattle.salvage.proofs.salvage.Goals as goal

pub with_cells-requires-2 : goal.with_cells-requires-2
with_cells-requires-2 c = (omega arith, search (outs, rules), search (outs, rules))

-- `salvage::counting` meets its contract.
use borrow.Author.Rules.{rules}
use Rattle.salvage.proofs.Ends.{all_counts}
use Rattle.salvage.proofs.counting.Goals as goal

pub returns-then-pack-le65535 : goal.returns-then-pack-le65535
returns-then-pack-le65535 c = search (all_counts, rules)

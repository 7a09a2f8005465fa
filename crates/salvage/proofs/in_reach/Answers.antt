-- `salvage::in_reach` meets its contract.
use borrow.Author.Rules.{rules}
use Rattle.salvage.proofs.Reaching.{reaching}
use Rattle.salvage.proofs.in_reach.Goals as goal

pub returns-then-c-i-le4096 : goal.returns-then-c-i-le4096
returns-then-c-i-le4096 c = search (reaching, rules)

pub returns : goal.returns
returns c = search (reaching, rules)

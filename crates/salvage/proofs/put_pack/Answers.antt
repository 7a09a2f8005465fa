-- `salvage::put_pack` meets its contract.
use borrow.Author.Rules.{rules}
use Rattle.salvage.proofs.Putting.{pack_put}
use Rattle.salvage.proofs.put_pack.Goals as goal

pub returns : goal.returns
returns c = search (pack_put, rules)

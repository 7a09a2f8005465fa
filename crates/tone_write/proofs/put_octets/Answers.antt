-- `tone_write::put_octets` meets its contract. Each turn writes one octet.
use borrow.Author.Rules.{rules}
use Rattle.tone_write.proofs.Pieces.{rows}
use Rattle.tone_write.proofs.put_octets.Goals as goal

pub put-s-requires : goal.put-s-requires
put-s-requires c = search (rows, rules)

pub loop-octet-preserved : goal.loop-octet-preserved
loop-octet-preserved c = search (rows, rules)

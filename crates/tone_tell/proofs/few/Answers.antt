-- `tone_tell::few` meets its contract. Those to be told are fewer with each turn.
use borrow.Author.Rules.{rules}
use Rattle.tone_tell.proofs.Counting.{counting}
use Rattle.tone_tell.proofs.few.Goals as goal

pub loop-preserved : goal.loop-preserved
loop-preserved c = search (counting, rules)

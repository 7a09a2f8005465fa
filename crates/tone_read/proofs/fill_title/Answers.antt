-- `tone_read::fill_title` meets its contract.
use borrow.Author.Rules.{rules}
use Rattle.tone_read.proofs.Filling.{titles}
use Rattle.tone_read.proofs.fill_title.Goals as goal

pub loop-i-preserved : goal.loop-i-preserved
loop-i-preserved c = search (titles, rules)

-- `label::left` meets its contract. Each turn leaves out one space.
use borrow.Author.Rules.{rules}
use Rattle.label.proofs.Trimming.{trims}
use Rattle.label.proofs.left.Goals as goal

pub returns-else-character-eq32 : goal.returns-else-character-eq32
returns-else-character-eq32 c = search (trims, rules)

pub returns-after-loop-end : goal.returns-after-loop-end
returns-after-loop-end c = search (trims, rules)

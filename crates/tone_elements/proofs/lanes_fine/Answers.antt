-- `tone_elements::lanes_fine` meets its contract.
use borrow.Author.Rules.{rules}
use Rattle.tone_elements.proofs.Titles.{holding}
use Rattle.tone_elements.proofs.lanes_fine.Goals as goal

pub overflow_add-result : goal.overflow_add-result
overflow_add-result c = search (holding, rules)

pub overflow_add-result-2 : goal.overflow_add-result-2
overflow_add-result-2 c = search (holding, rules)

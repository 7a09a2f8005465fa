-- `tone_elements::entry_of` meets its contract.
use borrow.Author.Rules.{rules}
use Rattle.tone_elements.proofs.Elements.{entry_fits}
use Rattle.tone_elements.proofs.entry_of.Goals as goal

pub overflow_add-result : goal.overflow_add-result
overflow_add-result c = search (entry_fits, rules)

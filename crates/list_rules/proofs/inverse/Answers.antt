-- `list_rules::inverse` meets its contract.
use borrow.Author.Rules.{rules}
use Rattle.list_rules.proofs.Durations.{inverse_fits}
use Rattle.list_rules.proofs.inverse.Goals as goal

pub overflow_add-result : goal.overflow_add-result
overflow_add-result c = search (inverse_fits, rules)

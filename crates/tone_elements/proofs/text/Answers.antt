-- `tone_elements::text` meets its contract.
use borrow.Author.Rules.{rules}
use Rattle.tone_elements.proofs.Titles.{texts}
use Rattle.tone_elements.proofs.text.Goals as goal

pub overflow_mul-result : goal.overflow_mul-result
overflow_mul-result c = search (texts, rules)

pub returns-then-all_allowed : goal.returns-then-all_allowed
returns-then-all_allowed c = search (texts, rules)

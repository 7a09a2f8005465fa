-- `tone_judge::left_at` meets its contract.
use borrow.Author.Rules.{rules}
use Rattle.bits.proofs.Choice.{tests}
use Rattle.tone_judge.proofs.left_at.Goals as goal

pub overflow_cast-result : goal.overflow_cast-result
overflow_cast-result c = search (tests, rules)

pub overflow_sub-result : goal.overflow_sub-result
overflow_sub-result c = search (tests, rules)

pub returns-then-k-n : goal.returns-then-k-n
returns-then-k-n c = search (tests, rules)

pub returns-else-k-n : goal.returns-else-k-n
returns-else-k-n c = search (tests, rules)

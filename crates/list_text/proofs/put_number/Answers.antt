-- `list_text::put_number` meets its contract.
use borrow.Author.Rules.{rules}
use Rattle.list_text.proofs.Texts.{number_put}
use Rattle.list_text.proofs.put_number.Goals as goal

pub returns-clause-added : goal.returns-clause-added
returns-clause-added c = search (number_put, rules)

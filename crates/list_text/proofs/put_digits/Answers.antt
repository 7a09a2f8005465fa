-- `list_text::put_digits` meets its contract. The digits are put from the last; those left fall.
use borrow.Author.Rules.{rules}
use Rattle.list_text.proofs.Texts.{spelling}
use Rattle.list_text.proofs.put_digits.Goals as goal

pub loop-i-preserved : goal.loop-i-preserved
loop-i-preserved c = search (spelling, rules)

pub returns : goal.returns
returns c = search (spelling, rules)

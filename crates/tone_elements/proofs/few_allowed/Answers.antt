-- `tone_elements::few_allowed` meets its contract.
use borrow.Author.Rules.{rules}
use Rattle.tone_elements.proofs.Titles.{spans}
use Rattle.tone_elements.proofs.few_allowed.Goals as goal

pub returns : goal.returns
returns c = search (spans, rules)

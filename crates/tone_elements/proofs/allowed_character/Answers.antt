-- `tone_elements::allowed_character` meets its contract.
use borrow.Author.Rules.{rules}
use Rattle.tone_elements.proofs.Titles.{characters}
use Rattle.tone_elements.proofs.allowed_character.Goals as goal

pub returns-then-c-le31 : goal.returns-then-c-le31
returns-then-c-le31 c = search (characters, rules)

pub returns-then-c-ge127 : goal.returns-then-c-ge127
returns-then-c-ge127 c = search (characters, rules)

pub returns : goal.returns
returns c = search (characters, rules)

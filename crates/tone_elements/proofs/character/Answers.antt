-- `tone_elements::character` meets its contract.
use borrow.Author.Rules.{rules}
use Rattle.tone_elements.proofs.Titles.{characters}
use Rattle.tone_elements.proofs.character.Goals as goal

pub returns-in_err-seen : goal.returns-in_err-seen
returns-in_err-seen c = search (characters, rules)

pub returns-then-allowed_character : goal.returns-then-allowed_character
returns-then-allowed_character c = search (characters, rules)

pub returns : goal.returns
returns c = search (characters, rules)

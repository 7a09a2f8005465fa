-- `tone_elements::sound_part` meets its contract.
use borrow.Author.Rules.{rules}
use Rattle.tone_elements.proofs.Openings.{commands}
use Rattle.tone_elements.proofs.sound_part.Goals as goal

pub returns-in_err-part : goal.returns-in_err-part
returns-in_err-part c = search (commands, rules)

pub returns : goal.returns
returns c = search (commands, rules)

-- `tone_sound::turned` meets its contract.
use borrow.Author.Rules.{rules}
use Rattle.tone_sound.proofs.Turns.{turn_fits, turn_said}
use Rattle.tone_sound.proofs.turned.Goals as goal

pub overflow_add-result : goal.overflow_add-result
overflow_add-result c = search (turn_fits, rules)

pub returns : goal.returns
returns c = search (turn_said, rules)

-- `tone_sound::wide` meets its contract.
use borrow.Author.Rules.{rules}
use Rattle.tone_sound.proofs.Marking.{wide_said, width_least, wide_most}
use Rattle.tone_sound.proofs.wide.Goals as goal

pub returns : goal.returns
returns c = search (wide_said, width_least, wide_most, rules)

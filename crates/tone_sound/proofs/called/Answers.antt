-- `tone_sound::called` meets its contract.
use borrow.Author.Rules.{rules}
use Rattle.tone_sound.proofs.Fronting.{fronting}
use Rattle.tone_sound.proofs.called.Goals as goal

pub returns-then-x-eq75037 : goal.returns-then-x-eq75037
returns-then-x-eq75037 c = search (fronting, rules)

pub returns-then-x-ne27599389 : goal.returns-then-x-ne27599389
returns-then-x-ne27599389 c = search (fronting, rules)

pub returns : goal.returns
returns c = search (fronting, rules)

-- `tone_sound::typed` meets its contract.
use borrow.Author.Rules.{rules}
use Rattle.tone_sound.proofs.Fronting.{fronting}
use Rattle.tone_sound.proofs.typed.Goals as goal

pub returns-then-song-eq2 : goal.returns-then-song-eq2
returns-then-song-eq2 c = search (fronting, rules)

pub returns-then-song-ne1 : goal.returns-then-song-ne1
returns-then-song-ne1 c = search (fronting, rules)

pub returns-then-not-all_allowed : goal.returns-then-not-all_allowed
returns-then-not-all_allowed c = search (fronting, rules)

pub returns-then-place_after-behind : goal.returns-then-place_after-behind
returns-then-place_after-behind c = search (fronting, rules)

pub returns : goal.returns
returns c = search (fronting, rules)

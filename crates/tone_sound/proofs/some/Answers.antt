-- `tone_sound::some` meets its contract.
use borrow.Author.Rules.{rules}
use Rattle.tone_sound.proofs.Bodies.{surely, some_cut, some_marked, some_told}
use Rattle.tone_sound.proofs.some.Goals as goal

pub returns-then-place_after-at : goal.returns-then-place_after-at
returns-then-place_after-at c = search (some_cut, rules)

pub returns-then-told-ne48 : goal.returns-then-told-ne48
returns-then-told-ne48 c = search (some_marked, rules)

pub returns : goal.returns
returns c = search (surely, some_told, rules)

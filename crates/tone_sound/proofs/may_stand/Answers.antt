-- `tone_sound::may_stand` meets its contract.
use borrow.Author.Rules.{rules}
use Rattle.tone_sound.proofs.Rows.{recall_known, definition_stands}
use Rattle.tone_sound.proofs.may_stand.Goals as goal

pub returns-then-cell-eq0 : goal.returns-then-cell-eq0
returns-then-cell-eq0 c = search (recall_known, rules)

pub returns : goal.returns
returns c = search (definition_stands, rules)

-- `tone_elements::open` meets its contract.
use borrow.Author.Rules.{rules}
use Rattle.tone_elements.proofs.Openings.{fronts}
use Rattle.tone_elements.proofs.open.Goals as goal

pub returns-in_err-command : goal.returns-in_err-command
returns-in_err-command c = search (fronts, rules)

pub any-requires-clause-within : goal.any-requires-clause-within
any-requires-clause-within c = search (fronts, rules)

pub returns-in_err-song : goal.returns-in_err-song
returns-in_err-song c = search (fronts, rules)

pub returns-then-song-eq0 : goal.returns-then-song-eq0
returns-then-song-eq0 c = search (fronts, rules)

pub returns-then-song-gt2 : goal.returns-then-song-gt2
returns-then-song-gt2 c = search (fronts, rules)

pub titled-requires : goal.titled-requires
titled-requires c = search (fronts, rules)

pub returns : goal.returns
returns c = search (fronts, rules)

-- `tone_judge::pattern` meets its contract.
use borrow.Author.Rules.{rules}
use Rattle.tone_judge.proofs.Tallies.{singles}
use Rattle.tone_judge.proofs.pattern.Goals as goal

pub body-requires-clause-within : goal.body-requires-clause-within
body-requires-clause-within c = search (singles, rules)

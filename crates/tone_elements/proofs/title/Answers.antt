-- `tone_elements::title` meets its contract.
use borrow.Author.Rules.{rules}
use Rattle.tone_elements.proofs.Openings.{titles}
use Rattle.tone_elements.proofs.title.Goals as goal

pub returns-then-song-ne1 : goal.returns-then-song-ne1
returns-then-song-ne1 c = search (titles, rules)

pub returns-in_err-length : goal.returns-in_err-length
returns-in_err-length c = search (titles, rules)

pub text-requires-clause-within : goal.text-requires-clause-within
text-requires-clause-within c = search (titles, rules)

pub text-requires-clause-n_bound : goal.text-requires-clause-n_bound
text-requires-clause-n_bound c = search (titles, rules)

pub returns : goal.returns
returns c = search (titles, rules)

-- `tone_judge::own_part` meets its contract.
use borrow.Author.Rules.{rules}
use Rattle.tone_judge.proofs.Cuts.{owns}
use Rattle.tone_judge.proofs.own_part.Goals as goal

pub cut_part-requires : goal.cut_part-requires
cut_part-requires c = search (owns, rules)

pub returns-then-named : goal.returns-then-named
returns-then-named c = search (owns, rules)

pub returns : goal.returns
returns c = search (owns, rules)

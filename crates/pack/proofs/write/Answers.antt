-- `pack::write` meets its contract.
use borrow.Author.Rules.{rules}
use Rattle.std.proofs.lemmas.Result.{err_from_is_err_and}
use Rattle.pack.proofs.Filling.{writings}
use Rattle.pack.proofs.write.Goals as goal

pub returns-then-octets-gt65531 : goal.returns-then-octets-gt65531
returns-then-octets-gt65531 c = search (writings, rules)

pub returns-then-needed-gt65535 : goal.returns-then-needed-gt65535
returns-then-needed-gt65535 c = search (writings, rules)

pub returns-then-sum_of-octets : goal.returns-then-sum_of-octets
returns-then-sum_of-octets c = search (writings, rules)

pub returns-in_err-judge_lengths : goal.returns-in_err-judge_lengths
returns-in_err-judge_lengths c = let p = err_from_is_err_and c.from_residual.result c.from_residual.ensures.1 in rw (p.1, p.2) (search (writings, c.in_err-judge_lengths.was, rules))

pub returns-then-out-needed : goal.returns-then-out-needed
returns-then-out-needed c = search (writings, c.in_ok-judge_lengths.was, rules)

pub returns : goal.returns
returns c = search (writings, c.in_ok-judge_lengths.was, rules)

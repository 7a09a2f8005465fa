-- `pack::judge_in_turn` meets its contract.
use borrow.Author.Rules.{rules}
use Rattle.std.proofs.lemmas.Result.{err_from_is_err_and}
use Rattle.pack.proofs.Turning.{lengths_turn, along_lengths}
use Rattle.pack.proofs.judge_in_turn.Goals as goal

pub overflow_add-end : goal.overflow_add-end
overflow_add-end g c = search (along_lengths, rules)

pub judge_inside-requires : goal.judge_inside-requires
judge_inside-requires g c = search (along_lengths, rules)

pub returns-in_err-judge_inside : goal.returns-in_err-judge_inside
returns-in_err-judge_inside g c = let p = err_from_is_err_and c.from_residual.result c.from_residual.ensures.1 in rw (p.1, p.2) (search (along_lengths, c.in_err-judge_inside.was, rules))

pub loop-i-preserved : goal.loop-i-preserved
loop-i-preserved g c = lengths_turn _ _ c.loop-i.invariant (search rules) c.nth.ensures c.judge_inside.ensures c.in_ok-judge_inside.was

pub returns : goal.returns
returns g c = search (along_lengths, rules)

-- `bitmap_kinds::judge` meets its contract.
use borrow.Author.Rules.{rules}
use Rattle.std.proofs.lemmas.Result.{err_from_is_err_and}
use Rattle.bitmap_kinds.proofs.Exits.{judges, judge_ahead}
use Rattle.bitmap_kinds.proofs.judge.Goals as goal

pub returns-in_err-at : goal.returns-in_err-at
returns-in_err-at c = let p = err_from_is_err_and c.from_residual.result c.from_residual.ensures.1 in rw (p.1, p.2) (judge_ahead c.args.kind c.args.msg.now c.behind.ensures c.in_err-at.was)

pub slice_bounds-judge-count : goal.slice_bounds-judge-count
slice_bounds-judge-count c = search (judges, c.in_ok-at.was, rules)

pub slice_bounds-judge-start : goal.slice_bounds-judge-start
slice_bounds-judge-start c = search (judges, c.in_ok-at.was, rules)

pub returns : goal.returns
returns c = search (judges, c.in_ok-at.was, rules)

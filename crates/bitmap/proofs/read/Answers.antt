-- `bitmap::read` meets its contract.
use borrow.Author.Rules.{rules}
use Rattle.std.proofs.lemmas.Result.{err_from_is_err_and}
use Rattle.bitmap.proofs.Exits.{reads, read_refused}
use Rattle.bitmap.proofs.read.Goals as goal

pub returns-in_err-judge : goal.returns-in_err-judge
returns-in_err-judge c = let p = err_from_is_err_and c.from_residual.result c.from_residual.ensures.1 in rw (p.1, p.2) (read_refused c.args.msg.now c.judge.ensures c.in_err-judge.was)

pub bounds-msg-1 : goal.bounds-msg-1
bounds-msg-1 c = search (reads, c.in_ok-judge.was, rules)

pub bounds-msg-2 : goal.bounds-msg-2
bounds-msg-2 c = search (reads, c.in_ok-judge.was, rules)

pub slice_bounds-count-count : goal.slice_bounds-count-count
slice_bounds-count-count c = search (reads, c.in_ok-judge.was, rules)

pub slice_bounds-count-start : goal.slice_bounds-count-start
slice_bounds-count-start c = search (reads, c.in_ok-judge.was, rules)

pub count-requires : goal.count-requires
count-requires c = search (reads, c.in_ok-judge.was, rules)

pub returns : goal.returns
returns c = search (reads, c.in_ok-judge.was, rules)

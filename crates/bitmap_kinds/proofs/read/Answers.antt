-- `bitmap_kinds::read` meets its contract.
use borrow.Author.Rules.{rules}
use Rattle.std.proofs.lemmas.Result.{err_from_is_err_and}
use Rattle.bitmap_kinds.proofs.Exits.{start_header, read_ahead, read_refused, reads}
use Rattle.bitmap_kinds.proofs.read.Goals as goal

pub returns-in_err-start : goal.returns-in_err-start
returns-in_err-start c = let p = err_from_is_err_and c.from_residual.result c.from_residual.ensures.1 in rw (p.1, p.2) (read_ahead c.args.kind c.args.msg.now c.behind.ensures c.in_err-start.was)

pub slice_bounds-read-count : goal.slice_bounds-read-count
slice_bounds-read-count c = search (reads, c.in_ok-start.was, rules)

pub slice_bounds-read-start : goal.slice_bounds-read-start
slice_bounds-read-start c = search (reads, c.in_ok-start.was, rules)

pub returns-in_err-seen : goal.returns-in_err-seen
returns-in_err-seen c = let p = err_from_is_err_and c.from_residual-in_err-seen.result c.from_residual-in_err-seen.ensures.1 in rw (p.1, p.2) (read_refused c.args.kind c.args.msg.now c.behind.ensures c.in_ok-start.was c.read.ensures c.in_err-seen.was)

pub fields_at-requires : goal.fields_at-requires
fields_at-requires c = start_header c.args.kind c.args.msg.now c.behind.ensures c.in_ok-start.was

pub returns : goal.returns
returns c = search (reads, c.in_ok-start.was, c.in_ok-seen.was, rules)

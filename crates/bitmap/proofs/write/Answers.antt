-- `bitmap::write` meets its contract.
use borrow.Author.Rules.{rules}
use Rattle.std.proofs.lemmas.Result.{err_from_is_err_and}
use Rattle.bitmap.proofs.Exits.{writes, write_refused}
use Rattle.bitmap.proofs.write.Goals as goal

pub returns-in_err-fault : goal.returns-in_err-fault
returns-in_err-fault c = let p = err_from_is_err_and c.from_residual.result c.from_residual.ensures.1 in rw (p.1, p.2) (write_refused c.args.width c.args.height c.args.image.now c.fault.ensures c.args.out.now c.in_err-fault.was)

pub returns-then-out-image : goal.returns-then-out-image
returns-then-out-image c = search (writes, c.in_ok-fault.was, rules)

pub overflow_cast-width : goal.overflow_cast-width
overflow_cast-width c = search (writes, c.in_ok-fault.was, rules)

pub overflow_cast-height : goal.overflow_cast-height
overflow_cast-height c = search (writes, c.in_ok-fault.was, rules)

pub returns : goal.returns
returns c = search (writes, c.in_ok-fault.was, rules)

-- `bitmap_kinds::write` meets its contract.
use borrow.Author.Rules.{rules}
use mathlib.Core.Path.{ap}
use mathlib.Core.Bool.{not}
use Rattle.std.proofs.lemmas.Result.{err_from_is_err_and}
use Rattle.bitmap.proofs.Exits.{write_width, write_height}
use Rattle.bitmap_kinds.proofs.Writes.{write_fault, writes}
use Rattle.bitmap_ahead.specs.Ahead.{said}
use Rattle.bitmap_kinds.proofs.write.Goals as goal

pub returns-then-not-taken : goal.returns-then-not-taken
returns-then-not-taken c = search (writes, rules)

pub returns-in_err-fault : goal.returns-in_err-fault
returns-in_err-fault c = let p = err_from_is_err_and c.from_residual.result c.from_residual.ensures.1 in rw (p.1, p.2) (write_fault c.args.kind (said c.args.mcc.now c.args.mnc.now c.args.date.now) c.args.width c.args.height c.args.image.now c.args.out.now c.taken.ensures (ap not c.if-not-taken.false) c.fault.ensures c.in_err-fault.was)

pub returns-then-out-octets : goal.returns-then-out-octets
returns-then-out-octets c = search (writes, c.in_ok-fault.was, rules)

pub overflow_cast-width : goal.overflow_cast-width
overflow_cast-width c = search (write_width, c.in_ok-fault.was)

pub overflow_cast-height : goal.overflow_cast-height
overflow_cast-height c = search (write_height, c.in_ok-fault.was)

pub returns : goal.returns
returns c = search (writes, c.in_ok-fault.was, rules)

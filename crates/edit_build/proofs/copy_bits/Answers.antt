-- `edit_build::copy_bits` meets its contract.
use borrow.Author.Rules.{rules}
use Rattle.edit_build.proofs.Copies.{bits, bits_step}
use Rattle.edit_build.proofs.copy_bits.Goals as goal

pub loop-left-init : goal.loop-left-init
loop-left-init c = search (bits, rules)

pub look-requires : goal.look-requires
look-requires c = search (bits, rules)

pub put-s-requires : goal.put-s-requires
put-s-requires c = search (bits, rules)

pub overflow_add-place : goal.overflow_add-place
overflow_add-place c = search (bits, rules)

pub loop-left-smaller : goal.loop-left-smaller
loop-left-smaller c = search (bits, rules)

pub loop-left-preserved : goal.loop-left-preserved
loop-left-preserved c =
    bits_step c.loop-left.invariant c.loop-left-test.true c.look.ensures c.put-s.auto.buf c.put-s.ensures

pub shape_of-out-then-left-eq0 : goal.shape_of-out-then-left-eq0
shape_of-out-then-left-eq0 c = search (bits, rules)

pub returns-then-left-eq0 : goal.returns-then-left-eq0
returns-then-left-eq0 c = search (bits, rules)

pub look-x-requires : goal.look-x-requires
look-x-requires c = search (bits, rules)

pub overflow_cast-left : goal.overflow_cast-left
overflow_cast-left c = search (bits, rules)

pub overflow_cast-left-2 : goal.overflow_cast-left-2
overflow_cast-left-2 c = search (bits, rules)

pub part-requires : goal.part-requires
part-requires c = search (bits, rules)

pub put-requires : goal.put-requires
put-requires c = search (bits, rules)

pub shape_of-out : goal.shape_of-out
shape_of-out c = search (bits, rules)

pub returns : goal.returns
returns c = search (bits, rules)

-- `edit::carry_out` meets its contract.
use native.Mathlib.Omega.{arith}
use lib.ListN.{take}
use borrow.Author.Rules.{rules}
use Rattle.edit.proofs.Finishing.{carry_at, carry_end, carry_long, carry_room, carry_done}
use Rattle.edit.proofs.carry_out.Goals as goal

pub overflow_add-end : goal.overflow_add-end
overflow_add-end c =
    record { fits = omega (arith, carry_at c.args.buf.now c.args.used.0 c.requires) }

pub overflow_add-end-2 : goal.overflow_add-end-2
overflow_add-end-2 c =
    record { fits = omega (arith, carry_end c.args.buf.now c.args.used.0 c.requires) }

pub octets_to-length-requires : goal.octets_to-length-requires
octets_to-length-requires c =
    omega (arith, carry_end c.args.buf.now c.args.used.0 c.requires)

pub returns-then-length-gt4096 : goal.returns-then-length-gt4096
returns-then-length-gt4096 c =
    let a = c.args in
    carry_long (take a.used.0 a.buf.now) a.layout a.buf.now a.list.now a.used.0 c.octets_to-length.ensures c.into.ensures c.if-length-gt4096.true

pub returns-then-buf-length : goal.returns-then-buf-length
returns-then-buf-length c =
    let a = c.args in
    carry_room (take a.used.0 a.buf.now) a.layout a.buf.now a.list.now a.used.0 c.octets_to-length.ensures c.if-length-gt4096.false c.into-then-buf-length.ensures c.if-buf-length.true

pub build_apart-requires-2 : goal.build_apart-requires-2
build_apart-requires-2 c =
    let o = c.octets_to-length.ensures in
    let l = c.if-length-gt4096.false in
    record {
      used_in_bounds = c.requires;
      room = (omega (arith, o, l), omega (arith, o, c.if-buf-length.false), omega (arith, o, l));
    }

pub returns-then-length-le512 : goal.returns-then-length-le512
returns-then-length-le512 c = search (carry_done, rules)

pub returns : goal.returns
returns c = search (carry_done, rules)

-- `edit::build_apart` meets its contract.
use native.Mathlib.Omega.{arith}
use mathlib.Core.Path.{refl, sym}
use lib.ListN.{take}
use Rattle.edit.proofs.Finishing.{apart_size, apart_written, apart_done, carry_short}
use Rattle.edit.proofs.build_apart.Goals as goal

pub slice_bounds-build-end-2 : goal.slice_bounds-build-end-2
slice_bounds-build-end-2 c =
    sym (carry_short c.args.buf.now c.args.used.0 c.requires.used_in_bounds)

pub build-n-requires : goal.build-n-requires
build-n-requires c =
    let y = c.requires.used_in_bounds.2.laid in
    let n = carry_short c.args.buf.now c.args.used.0 c.requires.used_in_bounds in
    record {
      header_bound = (y.ahead, y.inside, omega (arith, n, c.requires.used_in_bounds.1), y.header);
      width_bound = (y.width, y.value, y.order, y.ends);
      behind_in_bounds = c.requires.room.2;
    }

pub finish-requires : goal.finish-requires
finish-requires c =
    let a = c.args in
    let z = apart_size (take a.used.0 a.buf.now) a.layout a.buf.now a.list.now a.used.0 refl c.requires.room.0 c.build-n.ensures c.requires.used_in_bounds.2 in
    record {
      used_in_bounds = (c.requires.used_in_bounds.0, c.requires.used_in_bounds.1, (omega (arith, z, c.requires.room.0), omega (arith, z, c.requires.room.1), omega (arith, z, c.requires.room.2, c.build-n.auto.out)));
      written = apart_written (take a.used.0 a.buf.now) a.layout a.buf.now a.list.now a.used.0 refl c.requires.room.0 c.build-n.ensures c.requires.used_in_bounds.2;
    }

pub returns : goal.returns
returns c =
    let a = c.args in
    apart_done (take a.used.0 a.buf.now) a.layout a.buf.now a.list.now a.used.0 refl c.requires.room.0 c.build-n.ensures refl c.finish.ensures

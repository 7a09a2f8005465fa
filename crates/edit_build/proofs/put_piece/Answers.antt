-- `edit_build::put_piece` meets its contract.
use native.Mathlib.Omega.{arith}
use Rattle.edit_build.proofs.Builds.{begun_put, length_reached}
use Rattle.edit_build.proofs.put_piece.Goals as goal

pub put-requires : goal.put-requires
put-requires c =
    let b = c.put_ahead-s.ensures in
    let p = c.requires in
    let a = c.args in
    (omega arith, p.width_bound.1, omega (arith, b.place, length_reached a.msg.now a.head.0 a.cell a.at.0 p.head_bound.0 p.head_bound.1, c.put_ahead-s.auto.out))

pub returns : goal.returns
returns c =
    let a = c.args in
    begun_put a.msg.now _ c.put_ahead-s.ensures _ _ c.put.ensures

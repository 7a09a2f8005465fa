-- `edit_build::put_header` meets its contract.
use native.Mathlib.Omega.{arith}
use Rattle.edit_build.proofs.Builds.{begun_put, length_front}
use Rattle.edit_build.proofs.put_header.Goals as goal

pub put-requires : goal.put-requires
put-requires c =
    let b = c.copy_front-s.ensures in
    let p = c.requires in
    let a = c.args in
    (omega arith, p.2, omega (arith, b.place, length_front a.msg.now a.head.0 a.cell 0 p.0, c.copy_front-s.auto.out))

pub returns : goal.returns
returns c =
    let a = c.args in
    begun_put a.msg.now _ c.copy_front-s.ensures 17 a.cell c.put.ensures

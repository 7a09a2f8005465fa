-- `edit_build::put_ahead` meets its contract.
use native.Mathlib.Omega.{arith}
use Rattle.edit_build.proofs.Builds.{begun_copy, length_headed}
use Prim.Native.Nat.{◌+◌, ◌-◌}
use Rattle.edit_build.proofs.put_ahead.Goals as goal

pub copy_bits-requires : goal.copy_bits-requires
copy_bits-requires c =
    let b = c.put_header-s.ensures in
    let p = c.requires in
    let a = c.args in
    (omega arith, p.2, omega (arith, b.place, length_headed a.msg.now a.head.0 a.cell 0 (omega arith), c.put_header-s.auto.out))

pub returns : goal.returns
returns c =
    let a = c.args in
    begun_copy a.msg.now _ c.put_header-s.ensures (a.head.0 + 17) (a.at.0 - (a.head.0 + 17)) (omega arith) c.copy_bits.ensures

-- `edit_build::build` meets its contract.
use native.Mathlib.Omega.{arith}
use Prim.Native.Nat.{◌-◌}
use Rattle.edit_build.proofs.Builds.{begun_copy, begun_seal, length_pieced, length_joined}
use Rattle.edit_build.proofs.build.Goals as goal

pub copy_bits-t-requires : goal.copy_bits-t-requires
copy_bits-t-requires c =
    let b = c.put_piece-s.ensures in
    let p = c.requires in
    let a = c.args in
    (omega arith, p.header_bound.2, omega (arith, b.place, length_pieced a.msg.now a.header.0 a.cell a.spot.at.0 p.header_bound.0 p.header_bound.1 a.piece.width a.piece.value, c.put_piece-s.auto.out))

pub seal-requires : goal.seal-requires
seal-requires c =
    let p = c.requires in
    let a = c.args in
    let b = begun_copy a.msg.now _ c.put_piece-s.ensures a.spot.behind.0 (a.spot.end.0 - a.spot.behind.0) (omega arith) c.copy_bits-t.ensures in
    let n = length_joined a.msg.now a.header.0 a.cell a.spot.at.0 p.header_bound.0 p.header_bound.1 a.piece.width a.piece.value a.spot.behind.0 a.spot.end.0 p.width_bound.2 p.width_bound.3 in
    omega (arith, b.place, n, c.put_piece-s.auto.out, c.copy_bits-t.auto.out)

pub returns : goal.returns
returns c =
    let a = c.args in
    let p = c.requires in
    begun_seal a.msg.now _ (begun_copy a.msg.now _ c.put_piece-s.ensures a.spot.behind.0 (a.spot.end.0 - a.spot.behind.0) (omega (arith, p.width_bound)) c.copy_bits-t.ensures) c.type_inv.out c.seal.ensures

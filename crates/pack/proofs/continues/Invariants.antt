-- `pack::continues` meets its contract.
use Prim.Native.Nat.{◌+◌, ◌-◌, ◌*◌}
use Rattle.pack.proofs.Turning.{Continuing}
use Rattle.pack.proofs.continues.Given as goal

abbrev pub invariant-loop-i : goal.invariant-loop-i
invariant-loop-i l = Continuing l.pack l.rows.0 l.n l.at (l.rows.0 + 4 * l.i) (l.n - l.i)

-- `bits::part` meets its contract.
use native.Mathlib.Omega.{arith}
use Prim.Native.Nat.{◌+◌, ◌-◌, ◌/◌, ◌^◌}
use lib.Pow.{pow_pos}
use Rattle.bits.proofs.Numbers.{shl_one, mask}
use Rattle.bits.proofs.part.Goals as goal

pub overflow_sub-result-2 : goal.overflow_sub-result-2
overflow_sub-result-2 c = let w = c.args.w in rw (shl_one 32 w (omega arith)) (pow_pos w)

pub returns : goal.returns
returns c = let a = c.args in mask 32 (a.x / 2 ^ (24 - (a.o + a.w))) a.w (omega arith)

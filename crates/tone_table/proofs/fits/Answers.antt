-- `tone_table::fits` meets its contract.
use Rattle.bits.proofs.Numbers.{shl_one}
use native.Mathlib.Omega.{arith}
use mathlib.Core.Path.{refl}
use Rattle.tone_table.proofs.fits.Goals as goal

pub returns : goal.returns
returns c = rw (shl_one 32 c.args.w (omega arith)) refl

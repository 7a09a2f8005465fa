-- `bitmap::octets_of` meets its contract.
use native.Mathlib.Omega.{arith}
use mathlib.Core.Path.{refl}
use Rattle.bitmap.specs.Image.{image_octets}
use Rattle.bitmap.proofs.Sizing.{octets_most}
use Rattle.bitmap.proofs.octets_of.Goals as goal

-- `bitmap::octets_of` meets its contract.
pub overflow_mul-result : goal.overflow_mul-result
overflow_mul-result c = omega (arith, octets_most c.args.width c.args.height c.requires.0 c.requires.1)

pub overflow_cast-result : goal.overflow_cast-result
overflow_cast-result c = omega (arith, octets_most c.args.width c.args.height c.requires.0 c.requires.1)

pub returns : goal.returns
unfolding image_octets
returns c = refl

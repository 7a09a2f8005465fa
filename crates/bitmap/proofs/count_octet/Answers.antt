-- `bitmap::count_octet` meets its contract.
use mathlib.Core.Path.{refl}
use lib.Count.{ones-le}
use Rattle.bitmap.proofs.count_octet.Goals as goal

-- `bitmap::count_octet` meets its contract.
pub returns : goal.returns
returns c = (refl, ones-le 8 c.args.x c.ranges.x.fits)

-- `bitmap_kinds::image_alone` meets its contract.
use Rattle.bitmap_kinds.proofs.Stretches.{fields_same}
use mathlib.Core.Path.{refl}
use Rattle.bitmap_kinds.proofs.image_alone.Goals as goal

pub returns : goal.returns
returns c = fields_same c.part.ensures c.part-2.ensures c.part-3.ensures refl

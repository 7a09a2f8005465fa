-- How large the largest bitmap of each kind is.
use Prim.Native.Nat.{◌+◌, ◌≤◌}
use native.Mathlib.Omega.{arith}
use mathlib.Core.Path.{◌≡◌}
use lib.ListN.{length, length-append}
use Rattle.bitmap.specs.Image.{Sizes, image_octets}
use Rattle.bitmap.specs.Bitmap.{writing as bitmapOctets}
use Rattle.bitmap.proofs.Largest.{spelt_most as bitmap-most}
use Rattle.bitmap_ahead.specs.declared.Kind.{Kind}
use Rattle.bitmap_ahead.specs.declared.Kind.TheVariants.{Plain, Icon, Logo}
use Rattle.bitmap_ahead.specs.Ahead.{Ahead, WellFormed as WellFormedAhead, ahead_octets}
use Rattle.bitmap_ahead.proofs.Dates.{date_short}
use Rattle.bitmap_kinds.specs.Kinds.{Graphic, WellFormed, writing}
pub use Rattle.bitmap_kinds.proofs.MostOctets.{most_octets}

-- the part ahead leaves room for the largest bitmap
ahead_most : (kind : Kind) (a : Ahead) → WellFormedAhead kind a → length (ahead_octets kind a) + 7909 ≤ most_octets kind
ahead_most Plain a f = omega arith
ahead_most Icon a f = omega arith
ahead_most Logo a f = simp length-append (omega (arith, f.0.count, f.1.count, date_short f.2))

-- with sizes that are taken and an image as long as they ask, a writing has at most so many
pub spelt_most : (kind : Kind) (g : Graphic) → WellFormedAhead kind g.ahead → Sizes g.bitmap.width g.bitmap.height
    → length g.bitmap.image ≡ image_octets g.bitmap.width g.bitmap.height → length (writing kind g) ≤ most_octets kind
spelt_most kind g f s x =
    omega (arith, length-append (ahead_octets kind g.ahead) (bitmapOctets g.bitmap), ahead_most kind g.ahead f, bitmap-most g.bitmap s x)

-- so the writing of what is well formed as a kind has
pub octets_most : (kind : Kind) (g : Graphic) → WellFormed kind g → length (writing kind g) ≤ most_octets kind
octets_most kind g f = spelt_most kind g f.ahead f.bitmap.sizes f.bitmap.exact

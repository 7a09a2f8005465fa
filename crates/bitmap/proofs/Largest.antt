-- How large the largest bitmap is.
use Prim.Native.Nat.{ℕ, ◌*◌, ◌/◌, ◌≤◌}
use native.Mathlib.Omega.{arith}
use native.Mathlib.Nat.{mul-le-mul}
use mathlib.Core.Path.{◌≡◌}
use lib.ListN.{length}
use Rattle.bitmap.specs.Image.{Sizes, image_octets}
use Rattle.bitmap.specs.Bitmap.{Bitmap, WellFormed, writing}

-- an image has at most 255 rows of 31 octets
image_most : (width height : ℕ) → Sizes width height → image_octets width height ≤ 31 * 255
unfolding image_octets
image_most width height s = let w : width / 8 ≤ 31 = omega (arith, s.most) in mul-le-mul w s.high

-- with sizes that are taken and an image as long as they ask, a writing has at most 7,909 octets, four of them ahead of the image
pub spelt_most : (b : Bitmap) → Sizes b.width b.height → length b.image ≡ image_octets b.width b.height → length (writing b) ≤ 7909
spelt_most b s x = omega (arith, image_most b.width b.height s)

-- so the writing of a well-formed bitmap has
pub octets_most : (b : Bitmap) → WellFormed b → length (writing b) ≤ 7909
octets_most b f = spelt_most b f.sizes f.exact

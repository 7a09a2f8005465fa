-- The image of a bitmap, whatever stands in front of it: its sizes, its octets, its pixels.
use Rattle.std.specs.Prelude.{ℕ, zero, suc, ◌+◌, ◌-◌, ◌*◌, ◌/◌, ◌%◌, ◌^◌, ◌≤◌, ◌≡◌, Bool, ◌&&◌, List, [], ◌∷◌, get_or, leb, eqb}
use Rattle.std.specs.Int.Count.{ones}

-- the sizes that are taken: a width of 8 to 248 that is a multiple of 8, a height of 1 to 255
pub record Sizes (width height : ℕ) : Type 0 where
  pub least : 8 ≤ width
  pub most : width ≤ 248
  pub whole : width % 8 ≡ 0
  pub low : 1 ≤ height
  pub high : height ≤ 255

-- the test of the sizes
unfoldable pub sizes_taken : ℕ → ℕ → Bool
sizes_taken width height = leb 8 width && leb width 248 && eqb (width % 8) 0 && leb 1 height && leb height 255

-- the octets of an image of these sizes
unfoldable pub image_octets : ℕ → ℕ → ℕ
image_octets width height = width / 8 * height

-- ---- pixels: rows from the top, eight pixels an octet, leftmost first, 1 black

-- the pixel at column x of row y
unfoldable pub pixel : ℕ → List ℕ → ℕ → ℕ → ℕ
pixel width image x y = get_or image (width / 8 * y + x / 8) 0 / 2 ^ (7 - x % 8) % 2

-- f of each number below n, summed
unfoldable pub sum : ℕ → (ℕ → ℕ) → ℕ
sum zero f = 0
sum (suc n) f = sum n f + f n

-- the number of black pixels: each column of each row
unfoldable pub black_pixels : ℕ → ℕ → List ℕ → ℕ
black_pixels width height image = sum height (λ y. sum width (λ x. pixel width image x y))

-- ---- the same octet by octet, which the code goes by

-- the ones of each octet, summed
unfoldable pub ones_of : List ℕ → ℕ
ones_of [] = 0
ones_of (x ∷ image) = ones x + ones_of image

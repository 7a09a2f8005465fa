-- A plain OTA bitmap: four octets of header, then the image, which is the rest of the message.
use Rattle.std.specs.Prelude.{ℕ, ◌≡◌, ◌&&◌, List, ◌∷◌, length, get_or, drop, ltb, leb, eqb}
use Rattle.bits.specs.Choice.{pick}
use Rattle.bits.specs.Outcome.{Outcome, accepted, refused}
use Rattle.bits.specs.Bits.{Octets}
use Rattle.bitmap.specs.Image.{Sizes, sizes_taken, image_octets}

-- a bitmap: its sizes and the octets of its image
pub record Bitmap : Type 0 where
  pub width : ℕ
  pub height : ℕ
  pub image : List ℕ

-- well formed: sizes that are taken, an image of octets, as many as the sizes ask
pub record WellFormed (b : Bitmap) : Type 0 where
  pub sizes : Sizes b.width b.height
  pub octets : Octets b.image
  pub exact : length b.image ≡ image_octets b.width b.height

-- its writing: info octet 00, width, height, depth 01, then the image
abbrev pub writing : Bitmap → List ℕ
writing b = 0 ∷ b.width ∷ b.height ∷ 1 ∷ b.image

-- sizes and image octets as they are handed over: 15 for the sizes, then 16 for the number of octets
unfoldable pub judged : ℕ → ℕ → List ℕ → Outcome Bitmap
judged width height image =
    pick (sizes_taken width height)
    (pick (eqb (length image) (image_octets width height)) (accepted (record { width = width; height = height; image = image })) (refused 16 0))
    (refused 15 0)

-- reading: 2 for fewer than four octets, 15 for the header, 16 for the image
unfoldable pub reading : List ℕ → Outcome Bitmap
reading m =
    pick (ltb (length m) 4)
    (refused 2 0)
    (pick (eqb (get_or m 0 0) 0 && eqb (get_or m 3 0) 1) (judged (get_or m 1 0) (get_or m 2 0) (drop 4 m)) (refused 15 0))

-- what is to be written needs room: 11
abbrev pub into_room : ℕ → Outcome Bitmap → Outcome (List ℕ)
into_room room (accepted b) = pick (leb (length (writing b)) room) (accepted (writing b)) (refused 11 0)
into_room room (refused n p) = refused n p

-- writing sizes and image octets into so much room: 15, 16, 11
unfoldable pub writing_into : ℕ → ℕ → ℕ → List ℕ → Outcome (List ℕ)
writing_into room width height image = into_room room (judged width height image)

-- the number of a refusal, 0 where there is none
abbrev pub refusal_of : {A : Type 0} → Outcome A → ℕ
refusal_of (accepted x) = 0
refusal_of (refused n p) = n

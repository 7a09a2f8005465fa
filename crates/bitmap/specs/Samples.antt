-- The sample messages of bitmaps, as claims about the rules.
use Rattle.std.specs.Prelude.{ℕ, ◌≡◌, List, [], ◌∷◌, ◌++◌, map, take, replicate, set}
use Rattle.bits.specs.Outcome.{Outcome, accepted, refused}
use Rattle.bitmap.specs.Image.{pixel, black_pixels}
use Rattle.bitmap.specs.Bitmap.{Bitmap, reading, writing_into}
use Rattle.written.specs.Written.{write_numbers, octets_after}
use Rattle.bitmap.specs.Promises.{read_numbers, image_of, image_start}

-- P11: the bitmap 00 08 02 01 FF 01 has 9 black pixels
abbrev pub P11 : Type 0
P11 = read_numbers (reading (0x00 ∷ 0x08 ∷ 0x02 ∷ 0x01 ∷ 0xFF ∷ 0x01 ∷ [])) ≡ record { refusal = 0; place = 0; width = 8; height = 2; black = 9 }

-- P12: the same, one octet short, is refused with 16
abbrev pub P12 : Type 0
P12 = read_numbers (reading (0x00 ∷ 0x08 ∷ 0x02 ∷ 0x01 ∷ 0xFF ∷ [])) ≡ record { refusal = 16; place = 0; width = 0; height = 0; black = 0 }

-- ---- samples beside them

-- the message of P11
abbrev pub message : List ℕ
message = 0x00 ∷ 0x08 ∷ 0x02 ∷ 0x01 ∷ 0xFF ∷ 0x01 ∷ []

-- it with each of some octets at a position
abbrev pub each_at : ℕ → List ℕ → List (Outcome Bitmap)
each_at i octets = map (λ x. reading (set message i x)) octets

-- a bitmap of these sizes with so many octets of image, all black
abbrev pub black : ℕ → ℕ → ℕ → List ℕ
black width height octets = 0x00 ∷ width ∷ height ∷ 0x01 ∷ replicate octets 0xFF

-- the image of P11 written with these sizes, into so much room
abbrev pub written : ℕ → ℕ → ℕ → Outcome (List ℕ)
written room width height = writing_into room width height (0xFF ∷ 0x01 ∷ [])

-- the grounds against reading in their order, pixels, the image, and writing
pub record BitmapSamples : Type 0 where
  -- 2: fewer than four octets, whatever they are
  pub cut : map (λ n. reading (take n (0x01 ∷ 0x09 ∷ 0x00 ∷ 0x02 ∷ []))) (0 ∷ 1 ∷ 2 ∷ 3 ∷ []) ≡ replicate 4 (refused 2 0)
  -- 15: info octet 01, 80 and FF
  pub info : each_at 0 (0x01 ∷ 0x80 ∷ 0xFF ∷ []) ≡ replicate 3 (refused 15 0)
  -- a width of 0, 1, 7, 9, 12, 249, 255
  pub widths : each_at 1 (0 ∷ 1 ∷ 7 ∷ 9 ∷ 12 ∷ 249 ∷ 255 ∷ []) ≡ replicate 7 (refused 15 0)
  -- a height of 0, with no image too
  pub no_height : each_at 2 (0 ∷ []) ++ (reading (0x00 ∷ 0x08 ∷ 0x00 ∷ 0x01 ∷ []) ∷ []) ≡ replicate 2 (refused 15 0)
  -- depth 00, 02 and 81
  pub depths : each_at 3 (0x00 ∷ 0x02 ∷ 0x81 ∷ []) ≡ replicate 3 (refused 15 0)
  -- 15 ahead of 16: a width of 9 and no image
  pub header_first : reading (0x00 ∷ 0x09 ∷ 0x02 ∷ 0x01 ∷ []) ≡ refused 15 0
  -- 16: one octet more; other sizes than the image has
  pub long : reading (message ++ (0x00 ∷ [])) ≡ refused 16 0
  pub other_sizes : each_at 1 (16 ∷ []) ++ each_at 2 (1 ∷ 3 ∷ []) ≡ replicate 3 (refused 16 0)
  -- the widest, 248, has 31 octets a row
  pub widest : map (λ n. read_numbers (reading (black 248 1 n))) (30 ∷ 31 ∷ 32 ∷ [])
      ≡ record { refusal = 16; place = 0; width = 0; height = 0; black = 0 } ∷ record { refusal = 0; place = 0; width = 248; height = 1; black = 248 } ∷ record { refusal = 16; place = 0; width = 0; height = 0; black = 0 } ∷ []
  -- the highest has 255 rows
  pub highest : reading (black 8 255 255) ≡ accepted (record { width = 8; height = 255; image = replicate 255 0xFF })
  -- rows from the top, the leftmost pixel first, 1 black: 16 by 2 pixels of which two opposite corners are black
  pub corners : map (λ x. pixel 16 (0x80 ∷ 0x00 ∷ 0x00 ∷ 0x01 ∷ []) x 0) (0 ∷ 1 ∷ 7 ∷ 8 ∷ 15 ∷ []) ++ map (λ x. pixel 16 (0x80 ∷ 0x00 ∷ 0x00 ∷ 0x01 ∷ []) x 1) (0 ∷ 7 ∷ 8 ∷ 14 ∷ 15 ∷ [])
      ≡ 1 ∷ 0 ∷ 0 ∷ 0 ∷ 0 ∷ 0 ∷ 0 ∷ 0 ∷ 0 ∷ 1 ∷ []
  -- each bit of an octet is a pixel
  pub bits : map (λ octet. black_pixels 8 1 (octet ∷ [])) (0x00 ∷ 0x01 ∷ 0x80 ∷ 0x55 ∷ 0x7F ∷ 0xFF ∷ []) ≡ 0 ∷ 1 ∷ 1 ∷ 4 ∷ 7 ∷ 8 ∷ []
  -- the image is what follows the header; on a refusal nothing
  pub image : image_of (reading message) message ≡ 0xFF ∷ 0x01 ∷ []
  pub start : image_start (reading message) ≡ 4
  pub no_image : image_of (reading (message ++ (0x00 ∷ []))) (message ++ (0x00 ∷ [])) ≡ []
  pub no_start : image_start (reading (message ++ (0x00 ∷ []))) ≡ 0
  -- P11 is written in six octets, and those behind are left; five are too few: 11
  pub writes : written 6 8 2 ≡ accepted message
  pub leaves : octets_after (written 8 8 2) (replicate 8 0xEE) ≡ message ++ (0xEE ∷ 0xEE ∷ [])
  pub no_room : written 5 8 2 ≡ refused 11 0
  pub kept : octets_after (written 5 8 2) (replicate 5 0xEE) ≡ replicate 5 0xEE
  -- 15: a width of 0, 9, 249, 256, and a height of 0, 256; ahead of 16 and 11
  pub written_widths : map (λ w. written 0 w 2) (0 ∷ 9 ∷ 249 ∷ 256 ∷ []) ≡ replicate 4 (refused 15 0)
  pub written_heights : map (written 0 8) (0 ∷ 256 ∷ []) ≡ replicate 2 (refused 15 0)
  -- 16: an octet too few, and one too many; ahead of 11
  pub written_images : map (λ n. writing_into 0 8 2 (replicate n 0xFF)) (1 ∷ 3 ∷ []) ≡ replicate 2 (refused 16 0)
  -- the widest and the highest
  pub writes_widest : writing_into 35 248 1 (replicate 31 0xFF) ≡ accepted (black 248 1 31)
  pub writes_highest : writing_into 259 8 255 (replicate 255 0xFF) ≡ accepted (black 8 255 255)
  -- the numbers: how many octets, and on a refusal none
  pub numbers : write_numbers (written 6 8 2) ≡ record { refusal = 0; place = 0; octets = 6 }
  pub no_numbers : write_numbers (written 5 8 2) ≡ record { refusal = 11; place = 0; octets = 0 }

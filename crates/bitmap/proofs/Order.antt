-- The order of the grounds: each is given where it is met and none ahead of it is, whatever else is wrong.
use Prim.Native.Nat.{ℕ, ◌≤◌, ◌<◌}
use native.Mathlib.Omega.{arith}
use mathlib.Core.Path.{◌≡◌, refl}
use mathlib.Core.List.{List}
use lib.ListN.{length, get_or, drop}
use borrow.Author.Tests.{lt-leb}
use Rattle.bits.specs.Outcome.{Outcome, accepted, refused}
use Rattle.bitmap.specs.Image.{Sizes, image_octets}
use Rattle.bitmap.specs.Bitmap.{Bitmap, writing, judged, reading, writing_into}
use Rattle.bitmap.proofs.Rules.{bitmap, Header, JudgedCase, ReadingCase, judged_is, reading_is}

-- ---- reading: 2, 15, 16

-- 2, whatever the octets are that are there
pub short_first : (m : List ℕ) → length m < 4 → reading m ≡ refused 2 0
short_first m l = go (reading_is m)
  where
    go : {o : Outcome Bitmap} → ReadingCase m o → o ≡ refused 2 0
    go (ReadingCase.short h) = refl
    go (ReadingCase.outside h n) = let z : ⊥ = omega arith in absurd z
    go (ReadingCase.other_length h k n) = let z : ⊥ = omega arith in absurd z
    go (ReadingCase.right h k e) = let z : ⊥ = omega arith in absurd z

-- 15, however long the image is
pub header_second : (m : List ℕ) → 4 ≤ length m → (Header m → ⊥) → reading m ≡ refused 15 0
header_second m l x = go (reading_is m)
  where
    go : {o : Outcome Bitmap} → ReadingCase m o → o ≡ refused 15 0
    go (ReadingCase.short h) = let z : ⊥ = omega arith in absurd z
    go (ReadingCase.outside h n) = refl
    go (ReadingCase.other_length h k n) = absurd (x k)
    go (ReadingCase.right h k e) = absurd (x k)

-- 16
pub image_third : (m : List ℕ) → 4 ≤ length m → Header m → (length (drop 4 m) ≡ image_octets (get_or m 1 0) (get_or m 2 0) → ⊥) → reading m ≡ refused 16 0
image_third m l x y = go (reading_is m)
  where
    go : {o : Outcome Bitmap} → ReadingCase m o → o ≡ refused 16 0
    go (ReadingCase.short h) = let z : ⊥ = omega arith in absurd z
    go (ReadingCase.outside h n) = absurd (n x)
    go (ReadingCase.other_length h k n) = refl
    go (ReadingCase.right h k e) = absurd (y e)

-- ---- what is to be written: 15, 16

-- 15, however long the image is
pub sizes_first_lem : (width height : ℕ) (image : List ℕ) → (Sizes width height → ⊥) → judged width height image ≡ refused 15 0
sizes_first_lem width height image x = go (judged_is width height image)
  where
    go : {o : Outcome Bitmap} → JudgedCase width height image o → o ≡ refused 15 0
    go (JudgedCase.outside n) = refl
    go (JudgedCase.other_length s n) = absurd (x s)
    go (JudgedCase.right s e) = absurd (x s)

-- 16
pub octets_second : (width height : ℕ) (image : List ℕ) → Sizes width height → (length image ≡ image_octets width height → ⊥) → judged width height image ≡ refused 16 0
octets_second width height image x y = go (judged_is width height image)
  where
    go : {o : Outcome Bitmap} → JudgedCase width height image o → o ≡ refused 16 0
    go (JudgedCase.outside n) = absurd (n x)
    go (JudgedCase.other_length s n) = refl
    go (JudgedCase.right s e) = absurd (y e)

-- else it is accepted
pub judged_last : (width height : ℕ) (image : List ℕ) → Sizes width height → length image ≡ image_octets width height → judged width height image ≡ accepted (bitmap width height image)
judged_last width height image x y = go (judged_is width height image)
  where
    go : {o : Outcome Bitmap} → JudgedCase width height image o → o ≡ accepted (bitmap width height image)
    go (JudgedCase.outside n) = absurd (n x)
    go (JudgedCase.other_length s n) = absurd (n y)
    go (JudgedCase.right s e) = refl

-- ---- writing: 15, 16, 11

module _ (room width height : ℕ) (image : List ℕ) where
  -- 15, whatever image and room are
  pub write_sizes_first : (Sizes width height → ⊥) → writing_into room width height image ≡ refused 15 0
  unfolding writing_into
  write_sizes_first n = rw (sizes_first_lem width height image n) refl

  module _ (s : Sizes width height) where
    -- 16, whatever the room is
    pub write_image_second : (length image ≡ image_octets width height → ⊥) → writing_into room width height image ≡ refused 16 0
    unfolding writing_into
    write_image_second n = rw (octets_second width height image s n) refl

    -- 11
    pub write_room_last : length image ≡ image_octets width height → room < length (writing (bitmap width height image)) → writing_into room width height image ≡ refused 11 0
    unfolding writing_into
    write_room_last x l = rw (judged_last width height image s x, lt-leb (length (writing (bitmap width height image))) room l) refl

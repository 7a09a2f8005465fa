-- The order of the grounds: each is given where it is met and none ahead of it is, whatever else is wrong.
use Prim.Native.Nat.{ℕ, ◌+◌, ◌≤◌, ◌<◌}
use native.Mathlib.Omega.{arith}
use mathlib.Core.Path.{◌≡◌, refl, ap, ◌∙◌}
use mathlib.Core.Bool.{Bool, true, false}
use mathlib.Core.List.{List, ◌++◌}
use lib.ListN.{length, get_or, drop, length-append}
use lib.Seq.{drop-append_seam}
use borrow.Author.Tests.{lt-leb, le-leb}
use Rattle.bits.specs.Outcome.{accepted, refused}
use Rattle.bitmap.specs.Image.{Sizes, image_octets}
use Rattle.bitmap.specs.Bitmap.{reading as bitmapReading}
use Rattle.bitmap.proofs.Rules.{bitmap, Header}
use Rattle.bitmap.proofs.Order.{header_second, image_third as bitmap-image-third, sizes_first_lem, octets_second, judged_last}
use Rattle.bitmap_ahead.specs.declared.Kind.{Kind}
use Rattle.bitmap_ahead.specs.Ahead.{Ahead, WellFormed, ahead_octets, taken, start_of, ahead_in, stands}
use Rattle.bitmap_ahead.proofs.Rules.{taken_formed, formed_taken, written_found, found_formed, found_written}
use Rattle.bitmap_kinds.specs.Kinds.{writing, with_ahead, reading, judged, writing_into}
use Rattle.bitmap_kinds.proofs.Rules.{graphic, reading_short, reading_wrong, reading_behind}

-- ---- reading: 2, 20, 15, 16

-- 2: part ahead and header are not all there, whatever the octets are that are
pub short_first : (kind : Kind) (m : List ℕ) → length m < start_of kind m + 4 → reading kind m ≡ refused 2 0
short_first kind m l = reading_short kind m l

-- 20: they are, and the message begins with nothing well formed, whatever the bitmap is
pub ahead_second : (kind : Kind) (m : List ℕ) → start_of kind m + 4 ≤ length m → ((a : Ahead) (rest : List ℕ) → WellFormed kind a → ahead_octets kind a ++ rest ≡ m → ⊥)
    → reading kind m ≡ refused 20 0
ahead_second kind m l n = go (stands kind m) refl
  where
    go : (t : Bool) → stands kind m ≡ t → reading kind m ≡ refused 20 0
    go true e = absurd (n (ahead_in kind m) (drop (start_of kind m) m) (found_formed kind m e) (found_written kind m (omega arith) e))
    go false e = reading_wrong kind m l e

module _ (kind : Kind) (a : Ahead) (rest : List ℕ) (f : WellFormed kind a) (h : 4 ≤ length rest) where
  -- behind something well formed, what follows is read as a plain bitmap
  pub behind_ahead : reading kind (ahead_octets kind a ++ rest) ≡ with_ahead (ahead_in kind (ahead_octets kind a ++ rest)) (bitmapReading rest)
  behind_ahead =
      let w = written_found kind a rest f in
      let d : drop (start_of kind (ahead_octets kind a ++ rest)) (ahead_octets kind a ++ rest) ≡ rest =
      ap (λ (n : ℕ). drop n (ahead_octets kind a ++ rest)) w.start ∙ drop-append_seam (ahead_octets kind a) rest in
      reading_behind kind (ahead_octets kind a ++ rest) (simp length-append (omega (arith, w.start))) w.stand
      ∙ ap (λ (x : List ℕ). with_ahead (ahead_in kind (ahead_octets kind a ++ rest)) (bitmapReading x)) d

  -- 15: its header is outside the rules, however long the image is
  pub header_third : (Header rest → ⊥) → reading kind (ahead_octets kind a ++ rest) ≡ refused 15 0
  header_third n = behind_ahead ∙ ap (with_ahead (ahead_in kind (ahead_octets kind a ++ rest))) (header_second rest h n)

  -- 16: the image is of another length
  pub image_fourth : Header rest → (length (drop 4 rest) ≡ image_octets (get_or rest 1 0) (get_or rest 2 0) → ⊥) → reading kind (ahead_octets kind a ++ rest) ≡ refused 16 0
  image_fourth x n = behind_ahead ∙ ap (with_ahead (ahead_in kind (ahead_octets kind a ++ rest))) (bitmap-image-third rest h x n)

-- ---- writing: 20, 15, 16, 11

-- what is not well formed does not pass the test
not_taken : (kind : Kind) (a : Ahead) → (WellFormed kind a → ⊥) → taken kind a ≡ false
not_taken kind a n = go (taken kind a) refl
  where
    go : (t : Bool) → taken kind a ≡ t → taken kind a ≡ false
    go true e = absurd (n (taken_formed kind a e))
    go false e = e

module _ (room : ℕ) (kind : Kind) (a : Ahead) (width height : ℕ) (image : List ℕ) where
  -- 20: what is said ahead is not well formed, whatever sizes, image and room are
  pub ahead_first_lem : (WellFormed kind a → ⊥) → writing_into room kind a width height image ≡ refused 20 0
  unfolding judged writing_into
  ahead_first_lem n = rw (not_taken kind a n) refl

  module _ (f : WellFormed kind a) where
    -- 15: it is, and the sizes are outside the rules, whatever image and room are
    pub sizes_second : (Sizes width height → ⊥) → writing_into room kind a width height image ≡ refused 15 0
    unfolding judged writing_into
    sizes_second n = rw (formed_taken kind a f, sizes_first_lem width height image n) refl

    -- 16: the image is of another length, whatever the room is
    pub image_third : Sizes width height → (length image ≡ image_octets width height → ⊥) → writing_into room kind a width height image ≡ refused 16 0
    unfolding judged writing_into
    image_third s n = rw (formed_taken kind a f, octets_second width height image s n) refl

    module _ (s : Sizes width height) (x : length image ≡ image_octets width height) where
      -- 11: there is too little room
      pub room_fourth : room < length (writing kind (graphic a (bitmap width height image))) → writing_into room kind a width height image ≡ refused 11 0
      unfolding judged writing_into
      room_fourth l =
          rw (formed_taken kind a f, judged_last width height image s x, lt-leb (length (writing kind (graphic a (bitmap width height image)))) room l) refl

      -- else it is written
      pub written_last : length (writing kind (graphic a (bitmap width height image))) ≤ room
          → writing_into room kind a width height image ≡ accepted (writing kind (graphic a (bitmap width height image)))
      unfolding judged writing_into
      written_last l =
          rw (formed_taken kind a f, judged_last width height image s x, le-leb (length (writing kind (graphic a (bitmap width height image)))) room l) refl

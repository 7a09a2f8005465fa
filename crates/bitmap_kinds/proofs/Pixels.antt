-- The pixels of a bitmap of a kind are those of its image, by the laws of the plain bitmap.
use Prim.Native.Nat.{ℕ, ◌+◌, ◌*◌, ◌<◌}
use mathlib.Core.Path.{◌≡◌, sym, ap, ◌∙◌}
use mathlib.Core.List.{List}
use denote.Ref.{Bor}
use Rattle.bits.specs.Bits.{bits_of, field, Octets}
use Rattle.bitmap.specs.Image.{pixel, ones_of}
use Rattle.bitmap.specs.Bitmap.{Bitmap, WellFormed}
use Rattle.bitmap.proofs.Pixels.{black_are_ones, pixel_is_bit}
use Rattle.bitmap_ahead.specs.declared.Kind.{Kind}
use Rattle.bitmap_kinds.specs.declared.Field.TheVariants.{Image}
use Rattle.bitmap_kinds.specs.declared.Fields.{Fields}
use Rattle.std.specs.Prelude.{Ok}
use Rattle.bitmap_kinds.specs.Promises.{told, ReadPromise, FieldPromise}
use Rattle.bitmap_kinds.proofs.Rules.{read_well_formed}
use Rattle.bitmap_kinds.proofs.Calls.{read_found, field_of_read}

-- the law of a plain bitmap's pixels, at sizes and an image that are its own
pixel_at : {w h : ℕ} {i : List ℕ} (b : Bitmap) → WellFormed b → w ≡ b.width → h ≡ b.height → i ≡ b.image → (x y : ℕ) → x < w → y < h
    → pixel w i x y ≡ field (bits_of i) (w * y + x) 1
pixel_at b f ew eh ei x y hx hy =
    rw (ew, ei)
    (pixel_is_bit b.width b.height b.image f.sizes.whole f.octets f.exact x y (rw ew at hx) (rw eh at hy))

module _ (kind : Kind) (m i : Bor (List ℕ)) (w h k : ℕ) (f : Fields) (o : Octets m.now) (p : ReadPromise kind m.now (Ok (told f w h k))) (q : FieldPromise kind Image m i) where
  -- the black pixels that `read` answers are the ones of the image's octets: nothing ahead of the image counts
  pub black_of_image : k ≡ ones_of i.now
  black_of_image =
      let x = read_found kind m.now w h k f p in
      let b = (read_well_formed kind m.now x.what o x.reads).bitmap in
      x.numbers.black
      ∙ black_are_ones x.what.bitmap.width x.what.bitmap.height x.what.bitmap.image b.sizes.whole b.octets b.exact
      ∙ ap ones_of (sym (field_of_read kind Image m i x.what x.reads q))

  -- the pixel at column x of row y is the bit of the image at width times y and x
  pub pixel_of_image : (x y : ℕ) → x < w → y < h → pixel w i.now x y ≡ field (bits_of i.now) (w * y + x) 1
  pixel_of_image x y hx hy =
      let z = read_found kind m.now w h k f p in
      let b = (read_well_formed kind m.now z.what o z.reads).bitmap in
      pixel_at z.what.bitmap b z.numbers.width z.numbers.height (field_of_read kind Image m i z.what z.reads q) x y hx hy

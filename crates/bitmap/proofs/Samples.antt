-- The sample messages of bitmaps hold of the rules.
use mathlib.Core.Path.{refl}
use Rattle.bitmap.specs.Image.{sizes_taken, image_octets, pixel, sum, black_pixels}
use Rattle.bitmap.specs.Bitmap.{judged, reading, writing_into}
use Rattle.bitmap.specs.Samples.{P11, P12, BitmapSamples}

-- 00 08 02 01 FF 01: 9 black pixels
pub p11 : P11
unfolding sizes_taken image_octets pixel sum black_pixels judged reading
p11 = refl

-- one octet short: 16
pub p12 : P12
unfolding sizes_taken image_octets judged reading
p12 = refl

-- the others
pub bitmap_samples : BitmapSamples
unfolding sizes_taken image_octets pixel sum black_pixels judged reading writing_into
bitmap_samples = record {
  cut = refl;
  info = refl;
  widths = refl;
  no_height = refl;
  depths = refl;
  header_first = refl;
  long = refl;
  other_sizes = refl;
  widest = refl;
  highest = refl;
  corners = refl;
  bits = refl;
  image = refl;
  start = refl;
  no_image = refl;
  no_start = refl;
  writes = refl;
  leaves = refl;
  no_room = refl;
  kept = refl;
  written_widths = refl;
  written_heights = refl;
  written_images = refl;
  writes_widest = refl;
  writes_highest = refl;
  numbers = refl;
  no_numbers = refl;
}

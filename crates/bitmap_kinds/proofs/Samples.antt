-- The sample messages of icons and logos hold of the rules.
use mathlib.Core.Path.{refl}
use Rattle.bitmap.specs.Image.{sizes_taken, image_octets, pixel, sum, black_pixels}
use Rattle.bitmap.specs.Bitmap.{judged as bitmapJudged, reading as bitmapReading}
use Rattle.bitmap_ahead.specs.Digits.{digit, all_digits, digits_taken, date_octets, date_taken}
use Rattle.bitmap_ahead.specs.Ahead.{silent, stands}
use Rattle.bitmap_kinds.specs.Kinds.{reading, judged, writing_into}
use Rattle.bitmap_kinds.specs.Samples.{KindSamples}

pub kind_samples : KindSamples
unfolding sizes_taken image_octets pixel sum black_pixels bitmapJudged bitmapReading digit all_digits digits_taken date_octets date_taken silent stands reading judged writing_into
kind_samples = record {
  icon = refl;
  logo = refl;
  timed = refl;
  universal = refl;
  lowest = refl;
  highest = refl;
  icon_cut = refl;
  logo_cut = refl;
  timed_cut = refl;
  icon_version = refl;
  logo_version = refl;
  below = refl;
  above = refl;
  letter = refl;
  five_digits = refl;
  returned = refl;
  three_digits = refl;
  half_octets = refl;
  half_octets_long = refl;
  bare = refl;
  bare_plain = refl;
  cut_first = refl;
  ahead_first = refl;
  sizes_first = refl;
  image_last = refl;
  written = refl;
  written_timed = refl;
  no_room = refl;
  values = refl;
  long_code = refl;
  short_date = refl;
  icon_written = refl;
  icon_no_room = refl;
  icon_code = refl;
  plain_date = refl;
}

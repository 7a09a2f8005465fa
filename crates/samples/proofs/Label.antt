-- Samples of the label: each is computed.
use mathlib.Core.Path.{refl}
use Rattle.label.specs.Label.{trimmed, left_octets, odd, stands_in, label_of}
use Rattle.samples.specs.Label.{Labels}

pub labels : Labels
unfolding trimmed left_octets odd stands_in label_of
labels = record {
  trimmed = refl;
  wide_trimmed = refl;
  no_break = refl;
  below = refl;
  above = refl;
  null = refl;
  high_octet = refl;
  low_octet = refl;
  any_octets = refl;
  wide_any_octets = refl;
  empty = refl;
  spaces = refl;
  wide_empty = refl;
  wide_spaces = refl;
  odd = refl;
  odd_plain = refl;
  from_title = refl;
  from_stand_in = refl;
}

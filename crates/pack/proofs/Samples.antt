-- The samples hold: each is computed.
use mathlib.Core.Path.{refl}
use Rattle.bits.specs.Bits.{field, bits_n}
use Rattle.tone.specs.Table as table
use Rattle.tone.specs.Tone as tone
use Rattle.tone.specs.Reading as reading
use Rattle.pack.specs.Pack.{pack_of, pack_octets, continues, read_in_turn, read_pack, nth_row, write_pack}
use Rattle.pack.specs.Samples.{PackSamples}

pub pack_samples : PackSamples
unfolding field bits_n table.width table.allowed tone.allowed_character reading.element reading.filled reading.whether_unicode reading.sound_part reading.parts reading.command reading.character reading.text reading.title reading.counted reading.titled reading.typed reading.front reading.header_due reading.instruction_due reading.body_due reading.patterns_due reading.ending reading.rest reading.whole_tone reading.read_tone pack_of pack_octets continues read_in_turn read_pack nth_row write_pack
pack_samples = record {
  most = refl;
  empty = refl;
  empty_reads = refl;
  empty_has_none = refl;
  nothing = refl;
  three = refl;
  one = refl;
  two = refl;
  first = refl;
  second = refl;
  second_octets = refl;
  no_third = refl;
  largest = refl;
  rows_of = refl;
  one_more = refl;
  count_off = refl;
  start_off = refl;
  low_first = refl;
  no_rows = refl;
  not_at_zero = refl;
  gap = refl;
  overlap = refl;
  ends_short = refl;
  ends_long = refl;
  bad_first = refl;
  bad_second = refl;
  long_second = refl;
  both_bad = refl;
  bad_ahead_of_none = refl;
  empty_message = refl;
  writes = refl;
  writes_none = refl;
  no_room = refl;
  no_room_for_none = refl;
  too_few = refl;
  too_many = refl;
  no_wrap = refl;
  bad_ahead_of_room = refl;
}

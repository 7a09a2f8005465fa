-- Samples of the playing list: each is computed.
use mathlib.Core.Path.{refl}
use Rattle.bits.specs.Bits.{field, bits_n}
use Rattle.tone.specs.Table as table
use Rattle.tone.specs.Tone as tone
use Rattle.tone.specs.Reading as reading
use Rattle.list_rules.specs.Duration.{beats, units, microseconds, left_over}
use Rattle.list_rules.specs.Sounding.{applied, fraction_after, sounded, unpacked}
use Rattle.list_rules.specs.Playing.{step, pattern_played, playing_list}
use Rattle.list_rules.specs.Listing.{list_tone}
use Rattle.list_count.specs.Bodies.{passes_of, body_of, remember}
use Rattle.samples.specs.List.{Lists}

pub lists : Lists
unfolding field bits_n table.width table.allowed tone.allowed_character reading.element reading.filled reading.whether_unicode reading.sound_part reading.parts reading.command reading.character reading.text reading.title reading.counted reading.titled reading.typed reading.front reading.header_due reading.instruction_due reading.body_due reading.patterns_due reading.ending reading.rest reading.whole_tone reading.read_tone beats units microseconds left_over applied fraction_after sounded unpacked step passes_of body_of remember pattern_played playing_list list_tone
lists = record {
  start = refl;
  first = refl;
  pause = refl;
  last = refl;
  fields = refl;
  once = refl;
  twice = refl;
  fifteen_times = refl;
  stops = refl;
  returns = refl;
  returns_alone = refl;
  silent = refl;
  no_return = refl;
  silent_stops = refl;
  recall = refl;
  recall_returns = refl;
  redefined = refl;
  carried = refl;
  carried_on = refl;
  each = refl;
  room = refl;
  no_room = refl;
  both = refl;
  no_rows = refl;
  no_numbers = refl;
  message_first = refl;
  p1 = refl;
  cells = refl;
  rows = refl;
  endless = refl;
}

-- Samples of edits: each is computed.
use mathlib.Core.Path.{refl}
use Rattle.bits.specs.Bits.{field, bits_n}
use Rattle.tone.specs.Table as table
use Rattle.tone.specs.Tone as tone
use Rattle.tone.specs.Writing as writing
use Rattle.tone.specs.Reading as reading
use Rattle.list_rules.specs.Duration.{beats, units, microseconds, left_over}
use Rattle.list_rules.specs.Sounding.{applied, fraction_after, sounded}
use Rattle.list_rules.specs.Playing.{step, pattern_played, playing_list}
use Rattle.list_count.specs.Bodies.{passes_of, body_of, remember}
use Rattle.edit.specs.Editing.{edit_message}
use Rattle.samples.specs.Edits.{Edits}

pub edits : Edits
unfolding field bits_n table.width table.allowed tone.allowed_character writing.command_bits writing.title_bits writing.entry_bits writing.front_bits writing.song_bits writing.tone_bits writing.tone_octets reading.element reading.filled reading.whether_unicode reading.sound_part reading.parts reading.command reading.character reading.text reading.title reading.counted reading.titled reading.typed reading.front reading.header_due reading.instruction_due reading.body_due reading.patterns_due reading.ending reading.rest reading.whole_tone reading.read_tone beats units microseconds left_over applied fraction_after sounded step passes_of body_of remember pattern_played playing_list edit_message
edits = record {
  used = refl;
  message_first = refl;
  cut_short = refl;
  new = refl;
  new_first = refl;
  no_pattern = refl;
  no_replaced = refl;
  no_deleted = refl;
  no_place = refl;
  recall = refl;
  place_first = refl;
  only = refl;
  full = refl;
  full_replaced = refl;
  no_room = refl;
  no_list = refl;
  no_numbers = refl;
  place = refl;
  appended = refl;
  replaced = refl;
  replaced_numbers = refl;
  cleared = refl;
  kept = refl;
  first = refl;
  first_list = refl;
  second = refl;
  second_list = refl;
  second_numbers = refl;
}

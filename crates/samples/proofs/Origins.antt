-- Samples of origins: each is computed.
use mathlib.Core.Path.{refl}
use Rattle.bits.specs.Bits.{field, bits_n}
use Rattle.tone.specs.Table as table
use Rattle.tone.specs.Tone as tone
use Rattle.tone.specs.Writing as writing
use Rattle.tone.specs.Reading as reading
use Rattle.list_rules.specs.Duration.{beats, units, microseconds, left_over}
use Rattle.list_rules.specs.Sounding.{applied, fraction_after, sounded}
use Rattle.list_rules.specs.Playing.{step, pattern_played, playing_list}
use Rattle.list_count.specs.Bodies.{passes_of, body_of, remember}
use Rattle.edit.specs.Editing.{edit_message}
use Rattle.samples.specs.Origins.{Origins}

pub origins : Origins
unfolding field bits_n table.width table.allowed tone.allowed_character writing.command_bits writing.title_bits writing.entry_bits writing.front_bits writing.song_bits writing.tone_bits writing.tone_octets reading.element reading.filled reading.whether_unicode reading.sound_part reading.parts reading.command reading.character reading.text reading.title reading.counted reading.titled reading.typed reading.front reading.header_due reading.instruction_due reading.body_due reading.patterns_due reading.ending reading.rest reading.whole_tone reading.read_tone beats units microseconds left_over applied fraction_after sounded step passes_of body_of remember pattern_played playing_list edit_message
origins = record {
  number = refl;
  first = refl;
  settings = refl;
  passes = refl;
  headers = refl;
  recall = refl;
  redefined = refl;
  endless = refl;
  endless_recall = refl;
  largest = refl;
  table = refl;
  replaced = refl;
  inserted = refl;
  deleted = refl;
  recalled = refl;
}

-- Samples of the tone table: each is computed.
use mathlib.Core.Path.{refl}
use Rattle.bits.specs.Bits.{field, bits_n}
use Rattle.tone.specs.Table as table
use Rattle.tone.specs.Tone as tone
use Rattle.tone.specs.Writing as writing
use Rattle.tone.specs.Reading as reading
use Rattle.tone_table.specs.Judging.{entry_fine, entry_judged, entries_judged, end_judged, judge_table}
use Rattle.tone_write.specs.Judging.{sized, write_tone}
use Rattle.samples.specs.Table.{Readings, Writings}

pub readings : Readings
unfolding field bits_n table.width table.allowed tone.allowed_character reading.element reading.filled reading.whether_unicode reading.sound_part reading.parts reading.command reading.character reading.text reading.title reading.counted reading.titled reading.typed reading.front reading.header_due reading.instruction_due reading.body_due reading.patterns_due reading.ending reading.rest reading.whole_tone reading.read_tone
readings = record {
  p1 = refl;
  characters = refl;
  wide_characters = refl;
  fifteen_characters = refl;
  no_cells = refl;
  no_title = refl;
  no_wide_title = refl;
  message_first = refl;
  table = refl;
  headers = refl;
  title = refl;
  kept = refl;
}

pub writings : Writings
unfolding bits_n table.width table.allowed tone.allowed_character writing.command_bits writing.title_bits writing.entry_bits writing.front_bits writing.song_bits writing.tone_bits writing.tone_octets entry_fine entry_judged entries_judged end_judged judge_table sized write_tone
writings = record {
  songs = refl;
  titles = refl;
  wide_titles = refl;
  temporary_title = refl;
  kind_six = refl;
  payloads = refl;
  last_payloads = refl;
  notes = refl;
  instruction_first = refl;
  header_in_body = refl;
  cut_body = refl;
  recall = refl;
  recalls = refl;
  no_pattern = refl;
  patterns = refl;
  room = refl;
  p1 = refl;
  title_written = refl;
  kinds_written = refl;
  parts_written = refl;
  numbers = refl;
  no_numbers = refl;
}

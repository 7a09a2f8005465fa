-- Samples of the characters in a title: each is computed.
use mathlib.Core.Path.{refl}
use Rattle.bits.specs.Bits.{field, bits_n}
use Rattle.tone.specs.Table as table
use Rattle.tone.specs.Tone as tone
use Rattle.tone.specs.Writing as writing
use Rattle.tone.specs.Reading as reading
use Rattle.tone_table.specs.Judging.{entry_fine, entry_judged, entries_judged, end_judged, judge_table}
use Rattle.tone_write.specs.Judging.{sized, write_tone}
use Rattle.list_rules.specs.Listing.{list_tone}
use Rattle.edit.specs.Editing.{edit_message}
use Rattle.samples.specs.Titles.{Titles}

pub titles : Titles
unfolding field bits_n table.width table.allowed tone.allowed_character writing.command_bits writing.title_bits writing.entry_bits writing.front_bits writing.song_bits writing.tone_bits writing.tone_octets reading.element reading.filled reading.whether_unicode reading.sound_part reading.parts reading.command reading.character reading.text reading.title reading.counted reading.titled reading.typed reading.front reading.header_due reading.instruction_due reading.body_due reading.patterns_due reading.ending reading.rest reading.whole_tone reading.read_tone entry_fine entry_judged entries_judged end_judged judge_table sized write_tone list_tone edit_message
titles = record {
  first = refl;
  second = refl;
  last = refl;
  neighbours = refl;
  first_counts = refl;
  wide_first = refl;
  wide_last = refl;
  wide_neighbours = refl;
  wide_octets = refl;
  cut_first = refl;
  wide_cut_first = refl;
  cut_behind = refl;
  wide_cut_behind = refl;
  no_pattern = refl;
  song_first = refl;
  listed = refl;
  edited = refl;
  used_first = refl;
  written = refl;
  written_beside = refl;
  written_wide = refl;
  written_octets = refl;
  written_place = refl;
  written_song = refl;
  written_long = refl;
  written_odd = refl;
  written_temporary = refl;
  written_table = refl;
  written_room = refl;
}

-- Samples of tone messages: each is computed.
use mathlib.Core.Path.{refl}
use Rattle.bits.specs.Bits.{field, bits_n}
use Rattle.tone.specs.Table as table
use Rattle.tone.specs.Tone as tone
use Rattle.tone.specs.Reading as reading
use Rattle.samples.specs.Message.{Messages}

pub messages : Messages
unfolding field bits_n table.width table.allowed tone.allowed_character reading.element reading.filled reading.whether_unicode reading.sound_part reading.parts reading.command reading.character reading.text reading.title reading.counted reading.titled reading.typed reading.front reading.header_due reading.instruction_due reading.body_due reading.patterns_due reading.ending reading.rest reading.whole_tone reading.read_tone
messages = record {
  cut = refl;
  cut_title = refl;
  cut_wide = refl;
  cut_first = refl;
  lengths = refl;
  length_three = refl;
  cancel = refl;
  programming_filler = refl;
  no_sound = refl;
  unicode_filler = refl;
  wide_no_sound = refl;
  songs = refl;
  song_six = refl;
  wide_song = refl;
  no_pattern = refl;
  wide_no_pattern = refl;
  header_ids = refl;
  recall_first = refl;
  recall_other = refl;
  instruction_ids = refl;
  note_thirteen = refl;
  durations = refl;
  style_three = refl;
  filler_of_four = refl;
  filler_of_five = refl;
  ends = refl;
  more = refl;
  no_filler = refl;
  seven_filler = refl;
  reads = refl;
  untitled = refl;
  reads_wide = refl;
  wide_temporary = refl;
  reads_fifteen = refl;
  kinds = refl;
  style_two = refl;
  recall = refl;
}

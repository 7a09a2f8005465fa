-- Samples of the fraction left over: each is computed.
use mathlib.Core.Path.{refl}
use Rattle.bits.specs.Bits.{field, bits_n}
use Rattle.tone.specs.Table as table
use Rattle.tone.specs.Tone as tone
use Rattle.tone.specs.Writing as writing
use Rattle.tone.specs.Reading as reading
use Rattle.list_rules.specs.Duration.{beats, units, microseconds, left_over}
use Rattle.list_rules.specs.Sounding.{applied, fraction_after, sounded, unpacked}
use Rattle.list_rules.specs.Playing.{step, pattern_played, playing_list}
use Rattle.list_rules.specs.Listing.{list_tone}
use Rattle.list_count.specs.Bodies.{passes_of, body_of, remember}
use Rattle.list_text.specs.Text.{digits, places, number, line, lines, mark_text, opening, refusal}
use Rattle.edit.specs.Editing.{edit_message}
use Rattle.samples.specs.Drift.{Drift}

pub drift : Drift
unfolding field bits_n table.width table.allowed tone.allowed_character writing.command_bits writing.title_bits writing.entry_bits writing.front_bits writing.song_bits writing.tone_bits writing.tone_octets reading.element reading.filled reading.whether_unicode reading.sound_part reading.parts reading.command reading.character reading.text reading.title reading.counted reading.titled reading.typed reading.front reading.header_due reading.instruction_due reading.body_due reading.patterns_due reading.ending reading.rest reading.whole_tone reading.read_tone beats units microseconds left_over applied fraction_after sounded unpacked step passes_of body_of remember pattern_played playing_list list_tone edit_message digits places number line lines mark_text opening refusal
drift = record {
  step = refl;
  longest = refl;
  nine = refl;
  quarters = refl;
  mixed = refl;
  same_tempo = refl;
  other_tempo = refl;
  other_settings = refl;
  pauses = refl;
  patterns = refl;
  recalls = refl;
  two_passes = refl;
  fifteen_passes = refl;
  endless = refl;
  endless_behind = refl;
  endless_recall = refl;
  endless_two = refl;
  cells = refl;
  text = refl;
  inserted = refl;
  replaced = refl;
  tempo_deleted = refl;
  note_deleted = refl;
}

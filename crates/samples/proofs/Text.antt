-- Samples of the text that the program prints: each is computed.
use mathlib.Core.Path.{refl}
use Rattle.bits.specs.Bits.{field, bits_n}
use Rattle.tone.specs.Table as table
use Rattle.tone.specs.Tone as tone
use Rattle.tone.specs.Reading as reading
use Rattle.list_rules.specs.Duration.{beats, units, microseconds, left_over}
use Rattle.list_rules.specs.Sounding.{applied, fraction_after, sounded, unpacked}
use Rattle.list_rules.specs.Playing.{step, pattern_played, playing_list}
use Rattle.list_count.specs.Bodies.{passes_of, body_of, remember}
use Rattle.list_rules.specs.Listing.{list_tone}
use Rattle.list_text.specs.Text.{digits, places, number, line, lines, mark_text, opening, refusal}
use Rattle.samples.specs.Text.{Texts}

pub texts : Texts
unfolding field bits_n table.width table.allowed tone.allowed_character reading.element reading.filled reading.whether_unicode reading.sound_part reading.parts reading.command reading.character reading.text reading.title reading.counted reading.titled reading.typed reading.front reading.header_due reading.instruction_due reading.body_due reading.patterns_due reading.ending reading.rest reading.whole_tone reading.read_tone beats units microseconds left_over applied fraction_after sounded unpacked step passes_of body_of remember pattern_played playing_list list_tone digits places number line lines mark_text opening refusal
texts = record {
  p1 = refl;
  p1_roomy = refl;
  three = refl;
  p4 = refl;
  no_room = refl;
  returns = refl;
  none = refl;
  fields = refl;
  one = refl;
  nines = refl;
  tens = refl;
}

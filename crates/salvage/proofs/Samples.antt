-- The samples hold: each is computed, or a law.
use mathlib.Core.Path.{refl}
use Rattle.bits.specs.Bits.{field, bits_n}
use Rattle.tone.specs.Table as table
use Rattle.tone.specs.Tone as tone
use Rattle.tone.specs.Reading as reading
use Rattle.pack.specs.Pack.{pack_of}
use Rattle.salvage.specs.Salvage.{message_at, piece_at, pieces_from, pieces, new_pack, new_report, salvaged, into_room}
use Rattle.salvage.specs.Samples.{SalvageSamples}
use Rattle.salvage.proofs.Reaching.{message_is, message_none}
use Rattle.salvage.proofs.Order.{long_first}

pub salvage_samples : SalvageSamples
unfolding field bits_n table.width table.allowed tone.allowed_character reading.element reading.filled reading.whether_unicode reading.sound_part reading.parts reading.command reading.character reading.text reading.title reading.counted reading.titled reading.typed reading.front reading.header_due reading.instruction_due reading.body_due reading.patterns_due reading.ending reading.rest reading.whole_tone reading.tone_at pack_of message_at piece_at pieces_from pieces new_pack new_report salvaged into_room
salvage_samples = record {
  first = λ p. refl;
  longest = message_is;
  longer = message_none;
  empty = refl;
  none = refl;
  one = refl;
  ahead = refl;
  behind = refl;
  two = refl;
  apart = refl;
  cut_message = refl;
  cut_row = refl;
  cut_last = refl;
  inside = refl;
  good_title = refl;
  bad_title = refl;
  just_room = refl;
  no_room_for_pack = refl;
  numbers = refl;
  no_numbers = refl;
  no_room_for_report = refl;
  no_room_for_none = refl;
  no_room_for_number = refl;
  too_long = long_first;
}

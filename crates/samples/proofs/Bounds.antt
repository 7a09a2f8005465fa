-- The bound of 4,096 octets holds of the rules.
use mathlib.Core.Path.{refl}
use native.Mathlib.Omega.{arith}
use lib.ListN.{length}
use borrow.Author.Tests.{lt-ltb, le-leb, lt-leb}
use Rattle.bits.specs.Bits.{field, bits_n}
use Rattle.tone.specs.Table as table
use Rattle.tone.specs.Tone as tone
use Rattle.tone.specs.Writing.{tone_length}
use Rattle.tone.specs.Reading as reading
use Rattle.tone.proofs.Demand2.{written_is_accepted}
use Rattle.tone_write.specs.Judging.{tone_of, sized, write_tone}
use Rattle.samples.specs.Bounds.{Bounds}

pub bounds : Bounds
unfolding field bits_n table.width table.allowed tone.allowed_character reading.element reading.filled reading.whether_unicode reading.sound_part reading.parts reading.command reading.character reading.text reading.title reading.counted reading.titled reading.typed reading.front reading.header_due reading.instruction_due reading.body_due reading.patterns_due reading.ending reading.rest reading.whole_tone reading.read_tone sized write_tone
bounds = record {
  reads = λ t f e. written_is_accepted t (record { formed = f; size = omega (arith, e) });
  reads_not = λ m e. rw (lt-ltb 4096 (length m) (omega (arith, e))) refl;
  follow = refl;
  follow_not = refl;
  writes = λ s u o t n a b d c e. let l = tone_length (tone_of s u o t) in rw (a, b, d, c, le-leb l 4096 (omega (arith, e))) refl;
  writes_not = λ s u o t n a b d c e. let l = tone_length (tone_of s u o t) in rw (a, b, d, c, lt-leb l 4096 (omega (arith, e))) refl;
  edits = λ t e. rw (le-leb (tone_length t) 4096 (omega (arith, e))) refl;
  edits_not = λ t e. rw (lt-leb (tone_length t) 4096 (omega (arith, e))) refl;
}

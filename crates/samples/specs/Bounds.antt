-- The bound of 4,096 octets, in numbers.
use Rattle.std.specs.Prelude.{ℕ, ◌≡◌, Bool, true, List, ◌++◌, length, replicate}
use Rattle.bits.specs.Outcome.{accepted, refused}
use Rattle.tone.specs.Tone.{Tone, allowed_title, Formed}
use Rattle.tone.specs.Writing.{tone_length, tone_octets}
use Rattle.tone.specs.Reading.{read_tone}
use Rattle.tone_table.specs.Judging.{judge_table}
use Rattle.tone_write.specs.Judging.{song_fine, title_fine, tone_of, write_tone}
use Rattle.edit.specs.Editing.{in_buffer}
use Rattle.samples.specs.Samples.{message}

-- reading, writing and editing: what has as many octets, and what has one more
pub record Bounds : Type 0 where
  -- 4,096 octets may read
  pub reads : (t : Tone) → Formed t → tone_length t ≡ 4096 → read_tone (tone_octets t) ≡ accepted t
  -- 4,097 are refused with 1, whatever they are
  pub reads_not : (m : List ℕ) → length m ≡ 4097 → read_tone m ≡ refused 1 0
  -- P1 and zeros: 10 up to 4,096 octets, and then 1
  pub follow : read_tone (message ++ replicate 4086 0) ≡ refused 10 80
  pub follow_not : read_tone (message ++ replicate 4087 0) ≡ refused 1 0
  -- what is to be written, into as much room, and into more
  pub writes : (song : ℕ) (unicode : Bool) (title table : List ℕ) (n : ℕ) → song_fine song ≡ true → title_fine song unicode title ≡ true → allowed_title unicode title ≡ true → judge_table table ≡ accepted n
      → tone_length (tone_of song unicode title table) ≡ 4096 → write_tone song unicode title table 4096 ≡ accepted (tone_of song unicode title table)
  pub writes_not : (song : ℕ) (unicode : Bool) (title table : List ℕ) (n : ℕ) → song_fine song ≡ true → title_fine song unicode title ≡ true → allowed_title unicode title ≡ true → judge_table table ≡ accepted n
      → tone_length (tone_of song unicode title table) ≡ 4097 → write_tone song unicode title table 5000 ≡ refused 1 0
  -- a message that an edit makes grow, in a buffer of as many octets, and of more
  pub edits : (t : Tone) → tone_length t ≡ 4096 → in_buffer 4096 t ≡ accepted t
  pub edits_not : (t : Tone) → tone_length t ≡ 4097 → in_buffer 5000 t ≡ refused 1 0

-- Where two grounds against writing meet, which of them is given.
use Prim.Native.Nat.{ℕ, ◌≤◌, ◌<◌}
use mathlib.Core.Path.{◌≡◌, refl}
use mathlib.Core.Bool.{Bool, true, false}
use mathlib.Core.List.{List}
use borrow.Author.Tests.{le-leb, lt-leb}
use Rattle.bits.specs.Outcome.{accepted, refused}
use Rattle.tone.specs.Tone.{allowed_title}
use Rattle.tone.specs.Writing.{tone_length, most_octets}
use Rattle.tone_table.specs.Judging.{judge_table}
use Rattle.tone_write.specs.Judging.{song_fine, title_fine, sized, tone_of, write_tone}

module _ (song : ℕ) (unicode : Bool) (title table : List ℕ) (room : ℕ) where
  -- 4 whatever the title, the table and the room are
  pub song_first_lem : song_fine song ≡ false → write_tone song unicode title table room ≡ refused 4 0
  unfolding write_tone
  song_first_lem s = rw s refl

  -- 17 whatever the characters, the table and the room are
  pub title_second : song_fine song ≡ true → title_fine song unicode title ≡ false → write_tone song unicode title table room ≡ refused 17 0
  unfolding write_tone
  title_second s t = rw (s, t) refl

  -- 21 whatever the table and the room are
  pub character_third : song_fine song ≡ true → title_fine song unicode title ≡ true → allowed_title unicode title ≡ false → write_tone song unicode title table room ≡ refused 21 0
  unfolding write_tone
  character_third s t a = rw (s, t, a) refl

  -- the table's ground, too many patterns among them, whatever the size and the room are
  pub table_fourth : {n p : ℕ} → song_fine song ≡ true → title_fine song unicode title ≡ true → allowed_title unicode title ≡ true → judge_table table ≡ refused n p → write_tone song unicode title table room ≡ refused n p
  unfolding write_tone
  table_fourth s t a j = rw (s, t, a, j) refl

  module _ {c : ℕ} (s : song_fine song ≡ true) (t : title_fine song unicode title ≡ true) (a : allowed_title unicode title ≡ true) (j : judge_table table ≡ accepted c) where
    -- 1 whatever the room is
    pub bound_fifth : most_octets < tone_length (tone_of song unicode title table) → write_tone song unicode title table room ≡ refused 1 0
    unfolding write_tone sized
    bound_fifth h = rw (s, t, a, j, lt-leb (tone_length (tone_of song unicode title table)) most_octets h) refl

    -- 11 last
    pub room_last : tone_length (tone_of song unicode title table) ≤ most_octets → room < tone_length (tone_of song unicode title table) → write_tone song unicode title table room ≡ refused 11 0
    unfolding write_tone sized
    room_last h k = rw (s, t, a, j, le-leb (tone_length (tone_of song unicode title table)) most_octets h, lt-leb (tone_length (tone_of song unicode title table)) room k) refl

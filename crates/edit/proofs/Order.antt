-- Where two grounds against an edit meet, which of them is given: the used length, the message, 6, 12, 13, 14, 1, 11 for the buffer, 11 for the list.
use Prim.Native.Nat.{ℕ, ◌*◌, ◌≤◌, ◌<◌}
use mathlib.Core.Path.{◌≡◌, refl}
use mathlib.Core.Bool.{true, false}
use mathlib.Core.List.{List}
use lib.ListN.{length, take}
use borrow.Author.Tests.{le-leb, lt-leb}
use Rattle.bits.specs.Outcome.{accepted, refused}
use Rattle.tone.specs.Tone.{Tone}
use Rattle.tone.specs.Writing.{tone_length, most_octets}
use Rattle.tone.specs.Reading.{read_tone}
use Rattle.list_rules.specs.Sounding.{entry_cells}
use Rattle.list_rules.specs.Playing.{playing_list}
use Rattle.edit_change.specs.declared.Edit.{Edit}
use Rattle.edit_change.specs.Change.{carries_new, is_there, empties, overfills}
use Rattle.edit_change.proofs.Grounds.{full_keeps}
use Rattle.edit.specs.Editing.{body_length, edit_tone, in_buffer, edit_message}

module _ (buf : List ℕ) (used : ℕ) (ed : Edit) (k i cells : ℕ) where
  -- 1 at 0 for a used length beyond the buffer, whatever stands in it
  pub used_first_lem : length buf < used → edit_message buf used ed k i cells ≡ refused 1 0
  unfolding edit_message
  used_first_lem h = rw (lt-leb used (length buf) h) refl

  module _ (h : used ≤ length buf) where
    -- the message's own refusal with its place, whatever the edit is
    pub message_second : {n p : ℕ} → read_tone (take used buf) ≡ refused n p → edit_message buf used ed k i cells ≡ refused n p
    unfolding edit_message
    message_second q = rw (le-leb used (length buf) h, q) refl

    module _ {t : Tone} (q : read_tone (take used buf) ≡ accepted t) where
      -- the edit's own ground, whatever the grown message, the buffer and the list are
      pub ground_third : {n p : ℕ} → edit_tone ed k i t ≡ refused n p → edit_message buf used ed k i cells ≡ refused n p
      unfolding edit_message
      ground_third g = rw (le-leb used (length buf) h, q, g) refl

      -- that is 6, whatever position is named
      pub new_first_lem : carries_new ed ≡ false → edit_message buf used ed k i cells ≡ refused 6 0
      new_first_lem c = ground_third (rw c refl)

      module _ (c : carries_new ed ≡ true) where
        -- then 12, whatever the part's length is
        pub place_second : is_there ed k i t.patterns ≡ false → edit_message buf used ed k i cells ≡ refused 12 0
        place_second s = ground_third (rw (c, s) refl)

        -- then, for a position that is there
        module _ (s : is_there ed k i t.patterns ≡ true) where
          -- 13 for the only instruction
          pub only_third : empties ed (body_length k t) ≡ true → edit_message buf used ed k i cells ≡ refused 13 0
          only_third e = ground_third (rw (c, s, e) refl)

          -- 14 for a part of 255
          pub full_fourth : overfills ed (body_length k t) ≡ true → edit_message buf used ed k i cells ≡ refused 14 0
          full_fourth f = ground_third (rw (c, s, full_keeps ed (body_length k t) f, f) refl)

      module _ {t' : Tone} (a : edit_tone ed k i t ≡ accepted t') where
        -- the ground for the grown message and the buffer, whatever the list is
        pub list_last : {n p : ℕ} → in_buffer (length buf) t' ≡ refused n p → edit_message buf used ed k i cells ≡ refused n p
        unfolding edit_message
        list_last g = rw (le-leb used (length buf) h, q, a, g) refl

        -- that is 1, whatever the buffer's room is
        pub bound_fifth : most_octets < tone_length t' → edit_message buf used ed k i cells ≡ refused 1 0
        bound_fifth l = list_last (rw (lt-leb (tone_length t') most_octets l) refl)

        module _ (l : tone_length t' ≤ most_octets) where
          -- then 11 for the buffer
          pub room_sixth : length buf < tone_length t' → edit_message buf used ed k i cells ≡ refused 11 0
          room_sixth r = list_last (rw (le-leb (tone_length t') most_octets l, lt-leb (tone_length t') (length buf) r) refl)

          -- and 11 for the list, where nothing else is in the way
          pub list_room_lem : tone_length t' ≤ length buf → cells < entry_cells * length (playing_list t').entries → edit_message buf used ed k i cells ≡ refused 11 0
          unfolding edit_message
          list_room_lem r s =
              rw (
                le-leb used (length buf) h,
                q,
                a,
                le-leb (tone_length t') most_octets l,
                le-leb (tone_length t') (length buf) r,
                lt-leb (entry_cells * length (playing_list t').entries) cells s,
              )
              refl

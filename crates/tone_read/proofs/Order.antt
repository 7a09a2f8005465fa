-- Where two grounds against reading meet, which of them is given: those of the message, then 11 for the title or the table.
use Prim.Native.Nat.{ℕ, ◌≤◌, ◌<◌}
use mathlib.Core.Path.{◌≡◌, refl}
use mathlib.Core.List.{List}
use lib.ListN.{length}
use lib.Dec.{leb}
use borrow.Author.Tests.{le-leb, lt-leb}
use Rattle.bits.specs.Outcome.{accepted, refused}
use Rattle.tone.specs.Tone.{Tone, entries}
use Rattle.tone.specs.Reading.{read_tone}
use Rattle.tone.proofs.Rows.{and_false}
use Rattle.tone_read.specs.Promise.{read_into}

module _ (m : List ℕ) (title_room table_room : ℕ) where
  -- the message's own refusal with its place, whatever is lent
  pub message_first_lem : {n p : ℕ} → read_tone m ≡ refused n p → read_into m title_room table_room ≡ refused n p
  message_first_lem q = rw q refl

  module _ {t : Tone} (q : read_tone m ≡ accepted t) where
    -- then 11 for a title that does not fit
    pub title_short : title_room < length t.title → read_into m title_room table_room ≡ refused 11 0
    title_short h = rw (q, lt-leb (length t.title) title_room h) refl

    -- and 11 for a table that does not
    pub table_short : table_room < entries t.patterns → read_into m title_room table_room ≡ refused 11 0
    table_short h = rw (q, lt-leb (entries t.patterns) table_room h, and_false (leb (length t.title) title_room)) refl

    -- else it is read
    pub room_enough : length t.title ≤ title_room → entries t.patterns ≤ table_room → read_into m title_room table_room ≡ accepted t
    room_enough h k = rw (q, le-leb (length t.title) title_room h, le-leb (entries t.patterns) table_room k) refl

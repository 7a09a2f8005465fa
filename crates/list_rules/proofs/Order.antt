-- Where two grounds against a list meet, which of them is given: those of reading, then 11.
use Prim.Native.Nat.{ℕ, ◌*◌, ◌/◌, ◌≤◌, ◌<◌}
use native.Mathlib.Omega.{arith}
use mathlib.Core.Path.{◌≡◌, refl, sym, subst, ◌∙◌}
use mathlib.Core.Logic.{inl, inr, ⊎_elim}
use mathlib.Core.Bool.{Bool, true, false}
use mathlib.Core.List.{List}
use lib.ListN.{length}
use lib.Dec.{leb, lit≤}
use borrow.Author.Tests.{le-leb, lt-leb, leb-true, leb-false}
use Rattle.bits.specs.Outcome.{accepted, refused}
use Rattle.bits.proofs.Choice.{pick_elim, then_elim}
use Rattle.tone.specs.Tone.{Tone}
use Rattle.tone.specs.Reading.{read_tone}
use Rattle.tone.proofs.Rows.{and_false}
use Rattle.tone.proofs.Grounds.{Among, Numbered, read_number}
use Rattle.list_rules.specs.Sounding.{entry_cells}
use Rattle.list_rules.specs.Playing.{Listing, playing_list}
use Rattle.list_rules.specs.Listing.{fits_numbers, fits_both, list_tone}
use Rattle.list_rules.proofs.Settling.{either}

-- a list of n cells has room for n / 3 entries
pub room_by_three : (n : ℕ) (g : Listing) → fits_numbers n g ≡ leb (length g.entries) (n / 3)
room_by_three n g =
    let k = length g.entries in
    either (leb (entry_cells * k) n)
    (λ h. h ∙ sym (le-leb k (n / 3) (omega (arith, leb-true (entry_cells * k) n h))))
    (λ h. h ∙ sym (lt-leb k (n / 3) (omega (arith, leb-false (entry_cells * k) n h))))

module _ (m : List ℕ) where
  -- the message's own refusal with its place, whatever is lent
  pub message_first_lem : (fits : Listing → Bool) {n p : ℕ} → read_tone m ≡ refused n p → list_tone m fits ≡ refused n p
  unfolding list_tone
  message_first_lem fits q = rw q refl

  -- 1 to 11, or 21
  pub list_number : (fits : Listing → Bool) {n p : ℕ} → list_tone m fits ≡ refused n p → Among 1 11 n
  unfolding list_tone
  list_number fits e =
      subst (Numbered 11) e (then_elim (Numbered 11) (read_tone m)
      (λ t _. pick_elim (Numbered 11) (fits (playing_list t)) (λ _. tt) (λ _. inl (lit≤ tt, lit≤ tt)))
      (λ n p q. ⊎_elim (λ w. inl (w.0, omega (arith, w.1))) (λ w. inr w) (read_number m n p q)))

  module _ {t : Tone} (q : read_tone m ≡ accepted t) where
    -- then 11 where the list does not fit
    pub room_last : (fits : Listing → Bool) → fits (playing_list t) ≡ false → list_tone m fits ≡ refused 11 0
    unfolding list_tone
    room_last fits h = rw (q, h) refl

    -- else it is made
    pub list_made : (fits : Listing → Bool) → fits (playing_list t) ≡ true → list_tone m fits ≡ accepted (playing_list t)
    unfolding list_tone
    list_made fits h = rw (q, h) refl

    -- the list in cells
    module _ (cells : ℕ) where
      -- 11 where the cells are too few
      pub cells_short : cells < entry_cells * length (playing_list t).entries → list_tone m (fits_numbers cells) ≡ refused 11 0
      cells_short h = room_last (fits_numbers cells) (lt-leb (entry_cells * length (playing_list t).entries) cells h)

      -- else it is made
      pub cells_enough : entry_cells * length (playing_list t).entries ≤ cells → list_tone m (fits_numbers cells) ≡ accepted (playing_list t)
      cells_enough h = list_made (fits_numbers cells) (le-leb (entry_cells * length (playing_list t).entries) cells h)

    -- both forms: 11 where either is too small
    module _ (cells rows : ℕ) where
      -- the cells are
      pub first_short : cells < entry_cells * length (playing_list t).entries → list_tone m (fits_both cells rows) ≡ refused 11 0
      first_short h = room_last (fits_both cells rows) (rw (lt-leb (entry_cells * length (playing_list t).entries) cells h) refl)

      -- the rows are
      pub rows_short : rows < length (playing_list t).entries → list_tone m (fits_both cells rows) ≡ refused 11 0
      rows_short h = room_last (fits_both cells rows) (rw (lt-leb (length (playing_list t).entries) rows h) (and_false (leb (entry_cells * length (playing_list t).entries) cells)))

      -- neither is, and it is made
      pub both_enough : entry_cells * length (playing_list t).entries ≤ cells → length (playing_list t).entries ≤ rows → list_tone m (fits_both cells rows) ≡ accepted (playing_list t)
      both_enough h g = list_made (fits_both cells rows) (rw (le-leb (entry_cells * length (playing_list t).entries) cells h, le-leb (length (playing_list t).entries) rows g) refl)

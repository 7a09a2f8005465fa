-- Demand 3 of the rules, for a whole message: when an edit is accepted, and as what.
use Prim.Native.Nat.{ℕ, ◌*◌, ◌≤◌}
use mathlib.Core.Path.{◌≡◌, refl, sym, ap, subst, ◌∙◌}
use mathlib.Core.Logic.{◌↔◌}
use mathlib.Core.List.{List}
use lib.ListN.{length, take}
use lib.Dec.{leb}
use borrow.Author.Tests.{leb-true, le-leb}
use Rattle.bits.specs.Outcome.{Outcome, accepted, refused, and_then}
use Rattle.bits.proofs.Choice.{pick_elim, then_elim}
use Rattle.tone.specs.Tone.{Tone}
use Rattle.tone.specs.Writing.{tone_length, most_octets}
use Rattle.tone.specs.Reading.{read_tone}
use Rattle.list_rules.specs.Sounding.{entry_cells}
use Rattle.list_rules.specs.Playing.{playing_list}
use Rattle.list_rules.specs.Listing.{fits_numbers}
use Rattle.edit_change.specs.declared.Edit.{Edit}
use Rattle.edit_change.specs.Change.{changed}
use Rattle.edit.specs.Editing.{Edited, edit_tone, in_buffer, with_list, edit_message}
use Rattle.edit.proofs.Demand3.{Grounds, edit_accepts, edit_grounds}

-- one condition for each ground of an edit, t being the tone that the message reads as
pub record Conditions (buf : List ℕ) (used : ℕ) (ed : Edit) (k i cells : ℕ) (t : Tone) : Type 0 where
  pub within : used ≤ length buf
  pub reads : read_tone (take used buf) ≡ accepted t
  pub grounds : Grounds ed k i t
  pub size : tone_length (changed ed k i t) ≤ most_octets
  pub room : tone_length (changed ed k i t) ≤ length buf
  pub list_room : entry_cells * length (playing_list (changed ed k i t)).entries ≤ cells

-- the changed tone and its list
abbrev pub edited : Edit → ℕ → ℕ → Tone → Edited
edited ed k i t = record { tone = changed ed k i t; listing = playing_list (changed ed k i t) }

module _ (buf : List ℕ) (used : ℕ) (ed : Edit) (k i cells : ℕ) where
  -- an outcome that accepts has its conditions met, and is the changed tone with its list
  abbrev Met : Outcome Edited → Type 0
  Met (accepted d) = (t : Tone) × Conditions buf used ed k i cells t × (d ≡ edited ed k i t)
  Met (refused n p) = Unit {0}

  met : Met (edit_message buf used ed k i cells)
  unfolding edit_message
  met =
      pick_elim Met (leb used (length buf)) (λ h.
      then_elim (λ x. Met (and_then (and_then x (in_buffer (length buf))) (with_list cells))) (read_tone (take used buf)) (λ t q.
      then_elim Goes (edit_tone ed k i t) (λ t' e.
      let g = edit_grounds ed k i t t' e in
      subst (λ y. Goes (in_buffer (length buf) y)) (sym g.1) (put (leb-true used (length buf) h) t q g.0))
      (λ _ _ _. tt)) (λ _ _ _. tt)) (λ _. tt)
    where
      Goes : Outcome Tone → Type 0
      Goes x = Met (and_then x (with_list cells))

      put : used ≤ length buf → (t : Tone) → read_tone (take used buf) ≡ accepted t → Grounds ed k i t → Goes (in_buffer (length buf) (changed ed k i t))
      put h t q g =
          let t' = changed ed k i t in
          let o = playing_list t' in
          pick_elim Goes (leb (tone_length t') most_octets) (λ h₁.
          pick_elim Goes (leb (tone_length t') (length buf)) (λ h₂.
          pick_elim (λ x. Met (and_then x (λ g. accepted (record { tone = t'; listing = g })))) (fits_numbers cells o)
          (λ h₃. (
            t,
            record {
              within = h;
              reads = q;
              grounds = g;
              size = leb-true (tone_length t') most_octets h₁;
              room = leb-true (tone_length t') (length buf) h₂;
              list_room = leb-true (entry_cells * length o.entries) cells h₃;
            },
            refl,
          ))
          (λ _. tt))
          (λ _. tt)) (λ _. tt)

  -- conditions that are met make the edit accepted
  pub accepted_when : (t : Tone) → Conditions buf used ed k i cells t → edit_message buf used ed k i cells ≡ accepted (edited ed k i t)
  unfolding edit_message
  accepted_when t c =
      let t' = changed ed k i t in
      rw (
        le-leb used (length buf) c.within,
        c.reads,
        edit_accepts ed k i t c.grounds,
        le-leb (tone_length t') most_octets c.size,
        le-leb (tone_length t') (length buf) c.room,
        le-leb (entry_cells * length (playing_list t').entries) cells c.list_room,
      )
      refl

  -- an edit is accepted exactly if the conditions are met; then it is the changed tone with its list
  pub edit_exactly : (d : Edited) → (edit_message buf used ed k i cells ≡ accepted d) ↔ ((t : Tone) × Conditions buf used ed k i cells t × (d ≡ edited ed k i t))
  edit_exactly d = (λ q. subst Met q met, λ c. accepted_when c.0 c.1 ∙ ap accepted (sym c.2))

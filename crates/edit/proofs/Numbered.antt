-- What refuses an edit is a number of document 01.
use Prim.Native.Nat.{ℕ}
use mathlib.Core.Path.{refl}
use mathlib.Core.Bool.{Bool, true, false}
use mathlib.Core.List.{List}
use lib.ListN.{length, take}
use lib.Dec.{leb}
use Rattle.bits.specs.Choice.{pick}
use Rattle.bits.specs.Outcome.{Outcome, accepted, refused, and_then}
use Rattle.bits.proofs.Refusals.{GivenBy, given_then, given_pick}
use Rattle.tone.specs.Tone.{Tone}
use Rattle.tone.specs.Writing.{tone_length, most_octets}
use Rattle.tone.specs.Reading.{read_tone}
use Rattle.tone.proofs.Numbered.{tone_numbered}
use Rattle.list_rules.specs.Playing.{playing_list}
use Rattle.list_rules.specs.Listing.{fitted, fits_numbers}
use Rattle.edit_change.specs.declared.Edit.{Edit}
use Rattle.edit_change.specs.Change.{changed, carries_new, is_there, empties, overfills}
use Rattle.edit.specs.Editing.{body_length, edit_tone, in_buffer, with_list, edit_message}

-- the edit's own grounds
edit_tone_numbered : (ed : Edit) (k i : ℕ) (t : Tone) → GivenBy (edit_tone ed k i t)
edit_tone_numbered ed k i t = go (carries_new ed) (is_there ed k i t.patterns) (empties ed (body_length k t)) (overfills ed (body_length k t))
  where
    go : (a b x y : Bool) → GivenBy (pick {A = Outcome Tone} a (pick b (pick x (refused 13 0) (pick y (refused 14 0) (accepted (changed ed k i t)))) (refused 12 0)) (refused 6 0))
    go false b x y = refl
    go true false x y = refl
    go true true true y = refl
    go true true false true = refl
    go true true false false = tt

-- those of the grown message and the buffer
in_buffer_numbered : (room : ℕ) (t : Tone) → GivenBy (in_buffer room t)
in_buffer_numbered room t = go (leb (tone_length t) most_octets) (leb (tone_length t) room)
  where
    go : (a b : Bool) → GivenBy (pick {A = Outcome Tone} a (pick b (accepted t) (refused 11 0)) (refused 1 0))
    go false b = refl
    go true false = refl
    go true true = tt

-- that of the list
with_list_numbered : (cells : ℕ) (t : Tone) → GivenBy (with_list cells t)
with_list_numbered cells t =
    given_then (fitted (fits_numbers cells) t) (λ g. accepted (record { tone = t; listing = g }))
    (given_pick (fits_numbers cells (playing_list t)) (accepted (playing_list t)) (refused 11 0) tt refl)
    (λ g. tt)

-- the whole edit
pub edit_numbered : (buf : List ℕ) (used : ℕ) (ed : Edit) (k i cells : ℕ) → GivenBy (edit_message buf used ed k i cells)
unfolding edit_message
edit_numbered buf used ed k i cells =
    let read = read_tone (take used buf) in
    let ground = and_then read (edit_tone ed k i) in
    let room = and_then ground (in_buffer (length buf)) in
    given_pick (leb used (length buf)) (and_then room (with_list cells)) (refused 1 0)
    (given_then room (with_list cells)
    (given_then ground (in_buffer (length buf)) (given_then read (edit_tone ed k i) (tone_numbered (take used buf)) (edit_tone_numbered ed k i)) (in_buffer_numbered (length buf)))
    (with_list_numbered cells))
    refl

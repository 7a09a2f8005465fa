-- Editing a message in a lent buffer: the grounds in their order, and what is left.
use Rattle.std.specs.Prelude.{ℕ, ◌+◌, ◌-◌, List, ◌++◌, length, take, drop, replicate, leb}
use Rattle.bits.specs.Choice.{pick}
use Rattle.bits.specs.Lent.{over}
use Rattle.bits.specs.Outcome.{Outcome, accepted, refused, and_then}
use Rattle.tone.specs.Tone.{Tone, pattern_at}
use Rattle.tone.specs.Writing.{tone_length, tone_octets, most_octets}
use Rattle.tone.specs.Reading.{read_tone}
use Rattle.list_rules.specs.Sounding.{numbers}
use Rattle.list_rules.specs.Playing.{Listing}
use Rattle.list_rules.specs.Listing.{fitted, fits_numbers}
use Rattle.edit_change.specs.declared.Edit.{Edit}
use Rattle.edit_change.specs.Change.{changed, carries_new, is_there, empties, overfills}

-- the length of the body named
abbrev pub body_length : ℕ → Tone → ℕ
body_length k t = length (pattern_at t.patterns k).body

-- the edit's own grounds: 6, 12, 13, 14
abbrev pub edit_tone : Edit → ℕ → ℕ → Tone → Outcome Tone
edit_tone ed k i t =
    pick (carries_new ed)
    (pick (is_there ed k i t.patterns)
    (pick (empties ed (body_length k t)) (refused 13 0)
    (pick (overfills ed (body_length k t)) (refused 14 0)
    (accepted (changed ed k i t))))
    (refused 12 0))
    (refused 6 0)

-- then 1 for the grown message, and 11 for the buffer
abbrev pub in_buffer : ℕ → Tone → Outcome Tone
in_buffer room t =
    pick (leb (tone_length t) most_octets)
    (pick (leb (tone_length t) room) (accepted t) (refused 11 0))
    (refused 1 0)

-- a changed tone, and its playing list
pub record Edited : Type 0 where
  pub tone : Tone
  pub listing : Listing

-- last 11 for the list, which goes beside the tone
abbrev pub with_list : ℕ → Tone → Outcome Edited
with_list cells t = and_then (fitted (fits_numbers cells) t) (λ g. accepted (record { tone = t; listing = g }))

-- the whole edit: the used length, the message's own refusals, the edit's grounds, the buffer, the list
unfoldable pub edit_message : List ℕ → ℕ → Edit → ℕ → ℕ → ℕ → Outcome Edited
edit_message buf used ed k i cells =
    pick (leb used (length buf))
    (and_then (and_then (and_then (read_tone (take used buf)) (edit_tone ed k i)) (in_buffer (length buf))) (with_list cells))
    (refused 1 0)

-- zeros from one octet up to another
abbrev pub cleared : ℕ → ℕ → List ℕ → List ℕ
cleared from to buf = take from buf ++ (replicate (to - from) 0 ++ drop (from + (to - from)) buf)

-- the buffer after the edit: the new message, zeros up to the old length, and the rest as it was
abbrev pub buffer_after : Outcome Edited → ℕ → List ℕ → List ℕ
buffer_after (accepted d) used buf = over (tone_octets d.tone ++ replicate (used - tone_length d.tone) 0) buf
buffer_after (refused n p) used buf = buf

-- the list after the edit
abbrev pub list_after : Outcome Edited → List ℕ → List ℕ
list_after (accepted d) list = over (numbers d.listing.entries) list
list_after (refused n p) list = list

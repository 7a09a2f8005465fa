-- A list made from a message.
use Rattle.std.specs.Prelude.{ℕ, ◌*◌, Bool, ◌&&◌, List, length, leb}
use Rattle.bits.specs.Choice.{pick}
use Rattle.bits.specs.Outcome.{Outcome, accepted, refused, and_then}
use Rattle.tone.specs.Tone.{Tone}
use Rattle.tone.specs.Reading.{read_tone}
use Rattle.list_rules.specs.Sounding.{entry_cells}
use Rattle.list_rules.specs.Playing.{Listing, playing_list}

-- a tone's list, or 11 where it does not fit
abbrev pub fitted : (Listing → Bool) → Tone → Outcome Listing
fitted fits t = pick (fits (playing_list t)) (accepted (playing_list t)) (refused 11 0)

-- a list fits so many cells
abbrev pub fits_numbers : ℕ → Listing → Bool
fits_numbers room g = leb (entry_cells * length g.entries) room

-- and so many rows, one an entry
abbrev pub fits_both : ℕ → ℕ → Listing → Bool
fits_both room rows g = fits_numbers room g && leb (length g.entries) rows

-- a message's list, with 1 to 10 and 21 as in reading
unfoldable pub list_tone : List ℕ → (Listing → Bool) → Outcome Listing
list_tone m fits = and_then (read_tone m) (fitted fits)

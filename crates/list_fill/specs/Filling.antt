-- What filling a list is handed, and what it leaves.
use Rattle.std.specs.Prelude.{ℕ, ◌+◌, ◌-◌, ◌*◌, ◌/◌, ◌%◌, ◌^◌, ◌≤◌, ◌≡◌, List, [], length, eqb, Option, Some}
use Rattle.std.proofs.lemmas.List.Edits.{sets}
use Rattle.bits.specs.Choice.{pick}
use Rattle.bits.specs.Bits.{bits_of}
use Rattle.bits.specs.declared.BitPlace.{BitPlace}
use Rattle.tone.specs.Table.{entry, width}
use Rattle.tone.specs.Tone.{Pattern, specifier, none_known}
use Rattle.tone.specs.Reading.{got, patterns_due}
use Rattle.tone_elements.specs.Answers.{Within}
use Rattle.tone_elements.specs.Standing.{value_or, behind_or}
use Rattle.list_fill.specs.declared.Body.{Body}
use Rattle.list_fill.specs.declared.Walk.{Walk}
use Rattle.list_count.specs.Parts.{sounding_part}
use Rattle.list_rules.specs.Duration.{beats}
use Rattle.list_rules.specs.Tempo.{Timed, base_of}
use Rattle.list_rules.specs.Sounding.{State, entry_cells, numbers}
use Rattle.list_rules.specs.Ranges.{InRange}
use Rattle.list_rules.specs.Playing.{Played, begun, next_header}

-- ---- what stands in a message

-- the n patterns at a place, of which none is defined ahead
abbrev pub patterns_in : List ℕ → ℕ → ℕ → List Pattern
patterns_in m at n = value_or [] (patterns_due n none_known (bits_of m) at)

-- the place behind them
abbrev pub end_in : List ℕ → ℕ → ℕ → ℕ
end_in m at n = behind_or (patterns_due n none_known (bits_of m) at)

-- n patterns stand at a place
pub record PatternsAt (m : List ℕ) (at n : ℕ) (ps : List Pattern) (q : ℕ) : Type 0 where
  pub within : Within m at
  pub reads : patterns_due n none_known (bits_of m) at ≡ got ps q

-- the part that a header sounds, whose own instructions stand at next: a definition replaces the part of its id
abbrev pub part_after : Option Body → ℕ → BitPlace → Option Body
part_after part h next = sounding_part part h (Some (record { at = next; count = specifier h }))

-- where the next header stands: a recall has no instructions of its own
abbrev pub behind_pattern : ℕ → BitPlace → BitPlace → BitPlace
behind_pattern h next reached = pick (eqb (specifier h) 0) next reached

-- ---- how far filling has come

-- the entry on top of a sight: three bits of 64 are its kind, and as many as that kind has are its payload
unfoldable pub entry_seen : ℕ → ℕ
entry_seen x = let w = width (x / 2 ^ 61) in entry (x / 2 ^ 61) (x / 2 ^ (61 - w) % 2 ^ w)

-- the state that a walk has come to
abbrev pub state_of : Walk → State
state_of w = record { settings = w.settings; fraction = w.fraction; header = w.header; position = w.position }

-- the settings are in range, the base is theirs, the beats are those of their tempo, and one over them and the fraction go with these; no
-- tone has more than 255 headers, and no body has more than 255 instructions
pub record Ready (w : Walk) : Type 0 where
  pub range : InRange w.settings
  pub headers : w.header ≤ 255
  pub positions : w.position ≤ 255
  pub based : w.base ≡ base_of w.settings
  pub beating : w.beats ≡ beats w.settings.tempo
  pub timed : Timed w.fraction w.beats w.inverse

-- a pass begins at a place
pub record Begun (value : ℕ) (from : BitPlace) (w r : Walk) : Type 0 where
  pub ready : Ready r
  pub state : state_of r ≡ begun value (state_of w)
  pub place : r.at ≡ from
  pub cells : r.cells ≡ w.cells

-- the next header is due
pub record Headed (w r : Walk) : Type 0 where
  pub ready : Ready r
  pub state : state_of r ≡ next_header (state_of w)
  pub place : r.at ≡ w.at
  pub cells : r.cells ≡ w.cells

-- behind the first i cells d was played: its entries are written, and the next place is q
pub record Advanced (i : ℕ) (d : Played) (q : ℕ) (old new : List ℕ) (r : Walk) : Type 0 where
  pub state : state_of r ≡ d.after
  pub ready : Ready r
  pub place : r.at.0 ≡ q
  pub cells : r.cells ≡ i + entry_cells * length d.entries
  pub list : new ≡ sets old i (numbers d.entries)

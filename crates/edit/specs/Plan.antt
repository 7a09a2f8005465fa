-- The plan of an edit: why it is refused, or what is put where.
use Rattle.std.specs.Prelude.{ℕ, ◌+◌, ◌-◌, ◌^◌, ◌≤◌, ◌<◌, ◌≡◌, Bool, List, length, ltb, Result, Ok, Err}
use Rattle.bits.specs.Choice.{pick}
use Rattle.bits.specs.Bits.{bits_of, place_after}
use Rattle.bits.specs.Outcome.{accepted, refused, and_then}
use Rattle.bits.specs.Refusals.{number_of}
use Rattle.bits.specs.declared.refusal.Refusal.{Refusal}
use Rattle.tone.specs.Tone.{Tone, front_of, specifier, Formed}
use Rattle.tone.specs.Writing.{front_bits, song_bits, tone_octets, most_octets, WellFormed}
use Rattle.tone.specs.Reading.{read_tone}
use Rattle.tone_judge.specs.declared.Wish.{Wish}
use Rattle.list_count.specs.Bodies.{no_bodies}
use Rattle.list_count.specs.Counting.{entry_count, mark_from}
use Rattle.edit_build.specs.Anew.{joined}
use Rattle.edit_change.specs.declared.Edit.{Edit}
use Rattle.edit_change.specs.Change.{changed, carries_new}
use Rattle.edit_change.specs.Answers.{ground_of}
use Rattle.edit.specs.declared.Outline.{Outline}
use Rattle.edit.specs.declared.Layout.{Layout}
use Rattle.edit.specs.Editing.{edit_tone}

-- the ground against an edit at instruction i of the pattern at k, of p, whose header is c: 6, 12, 13, 14, or 0 for none
abbrev pub ground_for : Edit → ℕ → ℕ → ℕ → ℕ → ℕ
ground_for ed k i p c = pick (carries_new ed) (pick (ltb k p) (ground_of ed i (specifier c)) 12) 6

-- the outline of a tone's message
pub record Outlines (t : Tone) (o : Outline) : Type 0 where
  pub first : o.first.0 ≡ length (front_bits (front_of t))
  pub patterns : o.patterns ≡ length t.patterns
  pub entries : o.entries ≡ entry_count no_bodies t.patterns
  pub mark : o.mark ≡ mark_from no_bodies 0 t.patterns

-- a well-formed tone that a message writes, and its outline
pub record Written (m : List ℕ) (o : Outline) : Type 0 where
  pub tone : Tone
  pub formed : WellFormed tone
  pub writes : tone_octets tone ≡ m
  pub outlines : Outlines tone o

-- ---- layouts

-- the bits that a layout of a message joins
abbrev pub joined_by : List ℕ → Layout → List Bool
joined_by m l = joined (bits_of m) l.header.0 l.cell l.spot.at.0 l.piece.width l.piece.value l.spot.behind.0 l.spot.end.0

-- where they end
abbrev pub end_of : Layout → ℕ
end_of l = l.spot.at.0 + l.piece.width + (l.spot.end.0 - l.spot.behind.0)

-- its places and pieces are in order and within the message, and it lays out the song of t
pub record Laid (m : List ℕ) (l : Layout) (t : Tone) : Type 0 where
  pub ahead : l.header.0 + 17 ≤ l.spot.at.0
  pub inside : l.spot.at.0 ≤ place_after (length m)
  pub order : l.spot.behind.0 ≤ l.spot.end.0
  pub ends : l.spot.end.0 ≤ place_after (length m)
  pub header : l.cell < 2 ^ 17
  pub width : l.piece.width ≤ 17
  pub value : l.piece.value < 2 ^ l.piece.width
  pub formed : Formed t
  pub spells : joined_by m l ≡ song_bits t
  pub outlines : Outlines t l.outline

-- it lays out the song of some tone
pub record SomeLaid (m : List ℕ) (l : Layout) : Type 0 where
  pub tone : Tone
  pub laid : Laid m l tone

-- so many octets are no more than a message may have, and there is room for them in the buffer and in the scratch
abbrev pub Room : ℕ → ℕ → ℕ → Type 0
Room n buffer scratch = (n ≤ most_octets) × (n ≤ buffer) × (n ≤ scratch)

-- ---- plans

-- the message reads as a tone, the edit of it is accepted, and the changed tone is laid out
pub record Going (m : List ℕ) (ed : Edit) (k i : ℕ) (l : Layout) : Type 0 where
  pub tone : Tone
  pub reads : read_tone m ≡ accepted tone
  pub short : length m ≤ most_octets
  pub accepts : edit_tone ed k i tone ≡ accepted (changed ed k i tone)
  pub laid : Laid m l (changed ed k i tone)

-- what a plan says of an edit of a message
abbrev pub Plans : List ℕ → Wish → Result Layout Refusal → Type 0
Plans m w (Err r) = and_then (read_tone m) (edit_tone w.edit w.pattern w.instruction) ≡ refused (number_of r.why) r.place.0
Plans m w (Ok l) = Going m w.edit w.pattern w.instruction l

-- What the code answers of a message that it judges.
use Rattle.std.specs.Prelude.{ℕ, ◌+◌, Bool, List, length, Result}
use Rattle.bits.specs.Outcome.{Outcome}
use Rattle.bits.specs.Refusals.{answered}
use Rattle.bits.specs.declared.refusal.Refusal.{Refusal}
use Rattle.bits.specs.declared.BitPlace.{BitPlace}
use Rattle.bits.specs.Places.{place, octet_count}
use Rattle.tone.specs.Tone.{Pattern, Tone, front_of, cells, specifier, entries}
use Rattle.tone.specs.Writing.{front_bits, table_bits}
use Rattle.tone.specs.Reading.{Got, Reader, ◌>>=◌, return, header_due, body_due}
use Rattle.tone_elements.specs.Answers.{all_known, notes, seen_as, seen_of}
use Rattle.tone_elements.specs.declared.Seen.{Seen}
use Rattle.tone_judge.specs.declared.Wish.{Wish}
use Rattle.tone_judge.specs.declared.Cut.{Cut}
use Rattle.tone_judge.specs.declared.Total.{Total}
use Rattle.tone_judge.specs.declared.Single.{Single}
use Rattle.tone_judge.specs.declared.Judged.{Judged}
use Rattle.list_count.specs.declared.Count.{Count}
use Rattle.list_count.specs.Bodies.{no_bodies}
use Rattle.list_count.specs.Counting.{entry_count, mark_from}
use Rattle.tone_judge.specs.Wishes.{wished, no_cut, cut_in}

-- the pattern that stands somewhere, whatever part it recalls: its header, and the notes of its own instructions
abbrev pub single : Reader Single
single = header_due all_known >>= (λ h. body_due (specifier h) >>= (λ b. return (record { cell = h; own = notes b })))

-- the same, or the refusal
abbrev pub single_of : List Bool → ℕ → Result (Seen Single) Refusal
single_of l p = seen_of (single l p)

-- patterns that were counted: t entries in the table, and what the list comes to
abbrev pub total_to : BitPlace → ℕ → Count → Cut → Total
total_to end t c cut = record { table = t; list = c.entries; mark = c.mark; end = end; cut = cut }

-- what the patterns ps at a place come to, with the list that qs have
abbrev pub total_as : ℕ → List Pattern → List Pattern → Cut → Total
total_as at ps qs c = record { table = entries ps; list = entry_count no_bodies qs; mark = mark_from no_bodies 0 qs; end = place (at + length (table_bits (cells ps))); cut = c }

-- what patterns at a place come to
abbrev pub plainly : ℕ → List Pattern → Total
plainly at ps = total_as at ps ps no_cut

-- what they come to as they are wished
abbrev pub total_of : Wish → ℕ → List Pattern → Total
total_of w at ps = total_as at ps (wished w ps) (cut_in w at ps)

-- where the patterns of a tone begin that stands at a place
abbrev pub first : ℕ → Tone → ℕ
first at t = at + length (front_bits (front_of t))

-- a tone that was judged, its patterns counted by f from the place of the first: song type, that place, the title's octets, the patterns, what they come to, UNICODE or not
abbrev pub judged : (ℕ → List Pattern → Total) → ℕ → Tone → Judged
judged f q t = record { song = t.song; at = place q; octets = octet_count (length t.title); patterns = length t.patterns; total = f q t.patterns; unicode = t.unicode }

-- a tone that was judged at a place, with an edit in mind, or the refusal
abbrev pub whole_of : Wish → ℕ → Got Tone → Result (Seen Judged) Refusal
whole_of w at g = seen_as (λ t. judged (total_of w) (first at t) t) g

-- a message that was judged, its patterns counted by f, or the refusal
abbrev pub judged_as : (ℕ → List Pattern → Total) → Outcome Tone → Result Judged Refusal
judged_as f o = answered (λ t. judged f (length (front_bits (front_of t))) t) o

-- judged with an edit in mind
abbrev pub judged_for : Wish → Outcome Tone → Result Judged Refusal
judged_for w o = judged_as (total_of w) o

-- judged with none
abbrev pub judged_of : Outcome Tone → Result Judged Refusal
judged_of o = judged_as plainly o

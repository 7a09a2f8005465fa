-- The promise of an edit.
use Rattle.std.specs.Prelude.{ℕ, ◌≡◌, List, length, ℤ, pos, ◌-ℤ◌, Result, Ok, Err}
use Rattle.bits.specs.Outcome.{Outcome, accepted, refused}
use Rattle.bits.specs.Places.{octet_count}
use Rattle.bits.specs.Refusals.{number_of, answered}
use Rattle.bits.specs.declared.refusal.Refusal.{Refusal}
use Rattle.tone.specs.Writing.{tone_length}
use Rattle.edit_change.specs.declared.Edit.{Edit}
use Rattle.edit.specs.declared.Edited.{Edited as Made}
use Rattle.edit.specs.Editing.{Edited, edit_message, buffer_after, list_after}

-- the numbers of document 01
pub record Numbers : Type 0 where
  pub refusal : ℕ
  pub place : ℕ
  pub length : ℕ
  pub entries : ℕ
  pub mark : ℕ
  pub change : ℤ

-- each case's number and values: on a refusal all other numbers are 0
abbrev pub numbers_of : Result Made Refusal → Numbers
numbers_of (Ok d) = record { refusal = 0; place = 0; length = d.length.0; entries = d.entries; mark = d.mark; change = d.change }
numbers_of (Err r) = record { refusal = number_of r.why; place = r.place.0; length = 0; entries = 0; mark = 0; change = pos 0 }

-- the numbers that the rules ask for; the change is the new length minus the old
abbrev pub edit_numbers : ℕ → Outcome Edited → Numbers
edit_numbers used (accepted d) = record {
  refusal = 0;
  place = 0;
  length = tone_length d.tone;
  entries = length d.listing.entries;
  mark = d.listing.mark;
  change = pos (tone_length d.tone) -ℤ pos used;
}
edit_numbers used (refused n p) = record { refusal = n; place = p; length = 0; entries = 0; mark = 0; change = pos 0 }

-- what is answered of a message that was edited
abbrev pub made : ℕ → Edited → Made
made used d = record {
  length = octet_count (tone_length d.tone);
  entries = length d.listing.entries;
  mark = d.listing.mark;
  change = pos (tone_length d.tone) -ℤ pos used;
}

-- the answer to an outcome
abbrev pub edit_answer : ℕ → Outcome Edited → Result Made Refusal
edit_answer used o = answered (made used) o

-- what an outcome answers and leaves: every number, every octet of the buffer and every cell of the list
pub record Leaves (o : Outcome Edited) (used : ℕ) (buf list buf' list' : List ℕ) (r : Result Made Refusal) : Type 0 where
  pub answer : r ≡ edit_answer used o
  pub numbers : numbers_of r ≡ edit_numbers used o
  pub buffer : buf' ≡ buffer_after o used buf
  pub listed : list' ≡ list_after o list

-- the promise
abbrev pub EditPromise : List ℕ → ℕ → Edit → ℕ → ℕ → List ℕ → List ℕ → List ℕ → Result Made Refusal → Type 0
EditPromise buf used ed k i list buf' list' r = Leaves (edit_message buf used ed k i (length list)) used buf list buf' list' r

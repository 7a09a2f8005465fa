-- What the call promises: every number returned and every cell lent, on acceptance and on refusal.
use Rattle.std.specs.Prelude.{ℕ, ◌≡◌, List, length, Result, Ok, Err}
use Rattle.bits.specs.Lent.{over}
use Rattle.bits.specs.Outcome.{Outcome, accepted, refused}
use Rattle.bits.specs.Places.{octet_count}
use Rattle.bits.specs.Refusals.{number_of, answered}
use Rattle.bits.specs.declared.refusal.Refusal.{Refusal}
use Rattle.salvage.specs.declared.Done.{Done}
use Rattle.salvage.specs.Salvage.{Salvaged, salvage}

-- the numbers of an answer
pub record SalvageNumbers : Type 0 where
  pub refusal : ℕ
  pub place : ℕ
  pub messages : ℕ
  pub octets : ℕ
  pub skipped : ℕ

-- an answer: messages kept, octets of the pack, octets skipped; or the refusal
abbrev pub Salvaging : Type 0
Salvaging = Result Done Refusal

-- what came out, as the answer holds it
abbrev pub done_of : Salvaged → Done
done_of s = record { messages = s.messages; octets = octet_count (length s.pack); skipped = octet_count s.skips }

-- the answer that the rules ask for
abbrev pub salvage_answer : Outcome Salvaged → Salvaging
salvage_answer o = answered done_of o

-- the numbers that the rules ask for: on a refusal its number and place, all others 0
abbrev pub salvage_numbers : Outcome Salvaged → SalvageNumbers
salvage_numbers (accepted s) = record { refusal = 0; place = 0; messages = s.messages; octets = length s.pack; skipped = s.skips }
salvage_numbers (refused n p) = record { refusal = n; place = p; messages = 0; octets = 0; skipped = 0 }

-- the numbers of each case of the answer
abbrev pub numbers_of_salvaging : Salvaging → SalvageNumbers
numbers_of_salvaging (Ok d) = record { refusal = 0; place = 0; messages = d.messages; octets = d.octets.0; skipped = d.skipped.0 }
numbers_of_salvaging (Err r) = record { refusal = number_of r.why; place = r.place.0; messages = 0; octets = 0; skipped = 0 }

-- the lent octets after the call: the pack over those that were there, or as they were
abbrev pub pack_after : Outcome Salvaged → List ℕ → List ℕ
pack_after (accepted s) old = over s.pack old
pack_after (refused n p) old = old

-- the lent numbers after the call: the report over those that were there, or as they were
abbrev pub report_after : Outcome Salvaged → List ℕ → List ℕ
report_after (accepted s) old = over s.report old
report_after (refused n p) old = old

-- the answer, its numbers, and every octet and number lent
pub record Salvages (o : Outcome Salvaged) (out report out' report' : List ℕ) (r : Salvaging) : Type 0 where
  pub answer : r ≡ salvage_answer o
  pub said : numbers_of_salvaging r ≡ salvage_numbers o
  pub pack : out' ≡ pack_after o out
  pub reported : report' ≡ report_after o report

-- `salvage` of the input p into the buffers `out` and `report` answers r and leaves out' and report' in them
abbrev pub SalvagePromise : List ℕ → List ℕ → List ℕ → List ℕ → List ℕ → Salvaging → Type 0
SalvagePromise p out report out' report' r = Salvages (salvage p (length out) (length report)) out report out' report' r

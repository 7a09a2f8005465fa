-- What a call that fills a lent buffer with octets answers and leaves.
use Rattle.std.specs.Prelude.{ℕ, ◌≡◌, List, length, Result, Ok, Err}
use Rattle.bits.specs.Lent.{over}
use Rattle.bits.specs.Outcome.{Outcome, accepted, refused}
use Rattle.bits.specs.Places.{octet_count}
use Rattle.bits.specs.Refusals.{number_of, answered}
use Rattle.bits.specs.declared.OctetCount.{OctetCount}
use Rattle.bits.specs.declared.refusal.Refusal.{Refusal}
use Rattle.written.specs.declared.WrittenAnswer.{WrittenAnswer}

-- the numbers of document 01
pub record Numbers : Type 0 where
  pub refusal : ℕ
  pub place : ℕ
  pub octets : ℕ

-- an answer: the octets written, or the refusal
abbrev pub Writing : Type 0
Writing = Result OctetCount Refusal

-- its numbers: on a refusal all others are 0
abbrev pub numbers : Writing → Numbers
numbers (Ok n) = record { refusal = 0; place = 0; octets = n.0 }
numbers (Err r) = record { refusal = number_of r.why; place = r.place.0; octets = 0 }

-- the numbers that the rules ask for
abbrev pub write_numbers : Outcome (List ℕ) → Numbers
write_numbers (accepted w) = record { refusal = 0; place = 0; octets = length w }
write_numbers (refused n p) = record { refusal = n; place = p; octets = 0 }

-- the answer to an outcome
abbrev pub write_answer : Outcome (List ℕ) → Writing
write_answer o = answered (λ w. octet_count (length w)) o

-- the lent octets after the call
abbrev pub octets_after : Outcome (List ℕ) → List ℕ → List ℕ
octets_after (accepted w) old = over w old
octets_after (refused n p) old = old

-- the answer, its numbers, and every octet lent
pub record Fills (o : Outcome (List ℕ)) (out out' : List ℕ) (r : Writing) : Type 0 where
  pub answer : r ≡ write_answer o
  pub said : numbers r ≡ write_numbers o
  pub leaves : out' ≡ octets_after o out

-- ---- by the numbers of the C border

-- the numbers, as the answer holds them
abbrev pub answer_as : Numbers → WrittenAnswer
answer_as n = record { refusal = n.refusal; place = n.place; octets = n.octets }

-- every number, and every octet lent
pub record FillsNumbers (o : Outcome (List ℕ)) (out out' : List ℕ) (r : WrittenAnswer) : Type 0 where
  pub answer : r ≡ answer_as (write_numbers o)
  pub leaves : out' ≡ octets_after o out

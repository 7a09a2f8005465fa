-- The promise of `write`.
use Rattle.std.specs.Prelude.{ℕ, ◌≡◌, Bool, List, length}
use Rattle.bits.specs.Lent.{over}
use Rattle.bits.specs.Outcome.{Outcome, accepted, refused}
use Rattle.bits.specs.Places.{octet_count}
use Rattle.bits.specs.Refusals.{answered}
use Rattle.tone.specs.Tone.{Tone}
use Rattle.tone.specs.Writing.{tone_length, tone_octets}
use Rattle.written.specs.Written.{Writing, Numbers, numbers}
use Rattle.tone_write.specs.Judging.{write_tone}

-- the numbers that the rules ask for
abbrev pub write_numbers : Outcome Tone → Numbers
write_numbers (accepted t) = record { refusal = 0; place = 0; octets = tone_length t }
write_numbers (refused n p) = record { refusal = n; place = p; octets = 0 }

-- the answer to an outcome
abbrev pub write_answer : Outcome Tone → Writing
write_answer o = answered (λ t. octet_count (tone_length t)) o

-- the lent octets after the call
abbrev pub octets_after : Outcome Tone → List ℕ → List ℕ
octets_after (accepted t) old = over (tone_octets t) old
octets_after (refused n p) old = old

-- the promise: the answer, its numbers, and every octet lent
pub record WritePromise (song : ℕ) (unicode : Bool) (title table out out' : List ℕ) (r : Writing) : Type 0 where
  pub answer : r ≡ write_answer (write_tone song unicode title table (length out))
  pub said : numbers r ≡ write_numbers (write_tone song unicode title table (length out))
  pub leaves : out' ≡ octets_after (write_tone song unicode title table (length out)) out

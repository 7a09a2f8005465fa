-- What the code answers of a message that lies inside something larger.
use Rattle.std.specs.Prelude.{Result, ⊤}
use Rattle.bits.specs.Outcome.{Outcome}
use Rattle.bits.specs.Refusals.{answered}
use Rattle.bits.specs.declared.refusal.Refusal.{Refusal}
use Rattle.tone.specs.Tone.{Tone}

-- a tone, or the refusal
abbrev pub inside_of : Outcome Tone → Result ⊤ Refusal
inside_of o = answered (λ _. tt) o

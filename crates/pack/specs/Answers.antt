-- What the code answers of a pack that it judges.
use Rattle.std.specs.Prelude.{ℕ, List, length, Result, ⊤}
use Rattle.bits.specs.Outcome.{Outcome, demand}
use Rattle.bits.specs.Places.{octet_count}
use Rattle.bits.specs.Refusals.{answered}
use Rattle.bits.specs.declared.refusal.Refusal.{Refusal}
use Rattle.tone.specs.Tone.{Tone}
use Rattle.inside.specs.Inside.{cut}
use Rattle.pack.specs.declared.Sound.{Sound}
use Rattle.pack.specs.Pack.{rows_at, lengths_in, first_row, continues, read_in_turn}

-- messages that were judged: nothing is wrong with them, or the refusal
abbrev pub turn_of : Outcome (List Tone) → Result ⊤ Refusal
turn_of o = answered (λ _. tt) o

-- n rows at an octet and then their messages, judged
abbrev pub rows_judged : List ℕ → ℕ → ℕ → Outcome (List Tone)
rows_judged p rows n = demand (continues 0 (rows_at n p rows) rows) 27 (read_in_turn 0 (cut (lengths_in (rows_at n p rows)) p))

-- a pack that was judged: how many messages it has, and where its rows begin; or the refusal
abbrev pub judged_of : List ℕ → Outcome (List Tone) → Result Sound Refusal
judged_of p o = answered (λ ts. record { messages = length ts; rows = octet_count (first_row p) }) o

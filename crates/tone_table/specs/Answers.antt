-- What the code answers of a table that it judges.
use Rattle.std.specs.Prelude.{ℕ, zero, suc, ◌+◌, min, Bool, List, [], ◌∷◌, length, leb, eqb, Option, Some, None, Result, Ok, Err}
use Rattle.bits.specs.Choice.{pick}
use Rattle.bits.specs.Outcome.{Outcome, accepted, refused, and_then, demand}
use Rattle.bits.specs.Refusals.{ground_of}
use Rattle.bits.specs.declared.refusal.Ground.{Ground}
use Rattle.tone.specs.Table.{kind, width}
use Rattle.tone.specs.Tone.{recallable}
use Rattle.tone.specs.Writing.{table_bits}
use Rattle.tone_table.specs.declared.Judged.{Judged}
use Rattle.tone_table.specs.Judging.{entry_fine}

-- an entry's bits: its id and its payload
abbrev pub entry_length : ℕ → ℕ
entry_length e = 3 + width (kind e)

-- its bits, where the instruction table has it
abbrev pub entry_weight : ℕ → Option ℕ
entry_weight e = pick (entry_fine e) (Some (entry_length e)) None

-- the bits of a header where one is due: 6, 18 and 7 as the rules have them
unfoldable pub header_length : List Bool → ℕ → Outcome ℕ
header_length known e = demand (entry_fine e) 6 (demand (eqb (kind e) 0) 18 (demand (recallable known e) 7 (accepted (entry_length e))))

-- the bits of an instruction where one is due: 6 and 18
unfoldable pub instruction_length : ℕ → Outcome ℕ
instruction_length e = demand (entry_fine e) 6 (demand (leb 1 (kind e)) 18 (accepted (entry_length e)))

-- the bits of so many instructions: 18 where the table ends before them
unfoldable pub body_length : ℕ → List ℕ → Outcome ℕ
body_length zero t = accepted 0
body_length (suc n) [] = refused 18 0
body_length (suc n) (e ∷ t) = and_then (instruction_length e) (λ b. and_then (body_length n t) (λ c. accepted (b + c)))

-- the bits, or the ground of the refusal
abbrev pub weighed_of : Outcome ℕ → Result ℕ Ground
weighed_of (accepted b) = Ok b
weighed_of (refused n p) = Err (ground_of n)

-- bits are counted up to one more than a message of 4,096 octets has
abbrev pub at_most : ℕ → ℕ
at_most bits = min bits 32769

-- the patterns and the bits of a table that is accepted, or the ground of the refusal
abbrev pub judged_of : List ℕ → Outcome ℕ → Result Judged Ground
judged_of t (accepted n) = Ok (record { patterns = n; bits = at_most (length (table_bits t)) })
judged_of t (refused n p) = Err (ground_of n)

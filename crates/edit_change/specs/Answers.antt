-- How the steps answer that judge an edit: the bits that it puts, and the ground against it.
use Rattle.std.specs.Prelude.{ℕ, zero, suc, ◌^◌, ◌≤◌, ◌<◌, ◌≡◌, ◌&&◌, List, leb, Result, Ok, Err, ⊤}
use Rattle.bits.specs.Choice.{pick}
use Rattle.bits.specs.Bits.{bits_n}
use Rattle.bits.specs.Refusals.{ground_of as ground_by}
use Rattle.bits.specs.declared.refusal.Ground.{Ground}
use Rattle.tone.specs.Writing.{table_bits}
use Rattle.edit_change.specs.declared.Edit.{Edit}
use Rattle.edit_change.specs.Change.{in_body, empties, overfills}

-- the entries t, in w bits that spell v
pub record Puts (t : List ℕ) (w v : ℕ) : Type 0 where
  pub short : w ≤ 17
  pub small : v < 2 ^ w
  pub bits : table_bits t ≡ bits_n w v

-- deleting a part's only instruction is 13, inserting into a part of 255 is 14, and anything else 0
abbrev pub overdone_of : Edit → ℕ → ℕ
overdone_of ed n = pick (empties ed n) 13 (pick (overfills ed n) 14 0)

-- the ground against an edit at i of n instructions: 12, 13, 14, or 0 for none
abbrev pub ground_of : Edit → ℕ → ℕ → ℕ
ground_of ed i n = pick (leb 1 n && in_body ed i n) (overdone_of ed n) 12

-- what the code answers to a ground's number, 0 being none
abbrev pub ground_as : ℕ → Result ⊤ Ground
ground_as zero = Ok tt
ground_as (suc n) = Err (ground_by (suc n))

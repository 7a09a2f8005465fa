-- Judging a tone table: its entries in turn, and its end. All places are 0.
use Rattle.std.specs.Prelude.{ℕ, suc, ◌-◌, ◌^◌, Bool, ◌&&◌, List, [], ◌∷◌, leb, ltb, eqb}
use Rattle.bits.specs.Choice.{pick}
use Rattle.bits.specs.Outcome.{Outcome, accepted, and_then, demand}
use Rattle.tone.specs.Table.{kind, payload, width, allowed}
use Rattle.tone.specs.Tone.{specifier, none_known, recallable, learn}

-- the kind is 0 to 5, and the payload is in range
unfoldable pub entry_fine : ℕ → Bool
entry_fine e = leb (kind e) 5 && (ltb (payload e) (2 ^ width (kind e)) && allowed (kind e) (payload e))

-- how far a table was judged: instructions that are due, ids that are defined, and patterns begun
pub record Stage : Type 0 where
  pub due : ℕ
  pub known : List Bool
  pub begun : ℕ

-- before the first entry
abbrev pub start : Stage
start = record { due = 0; known = none_known; begun = 0 }

-- where a header is due: 18 for an instruction, 7 for a recall with nothing earlier of that id
abbrev pub header_judged : Stage → ℕ → Outcome Stage
header_judged s e =
    demand (eqb (kind e) 0) 18
    (demand (recallable s.known e) 7
    (accepted (record { due = specifier e; known = learn s.known e; begun = suc s.begun })))

-- where an instruction is due: 18 for a header
abbrev pub instruction_judged : Stage → ℕ → Outcome Stage
instruction_judged s e =
    demand (leb 1 (kind e)) 18
    (accepted (record { due = s.due - 1; known = s.known; begun = s.begun }))

-- an entry: 6 where it is not in the instruction table, and then by what is due
unfoldable pub entry_judged : Stage → ℕ → Outcome Stage
entry_judged s e =
    demand (entry_fine e) 6
    (pick (eqb s.due 0) (header_judged s e) (instruction_judged s e))

-- the entries in turn
unfoldable pub entries_judged : Stage → List ℕ → Outcome Stage
entries_judged s [] = accepted s
entries_judged s (e ∷ t) = and_then (entry_judged s e) (λ s'. entries_judged s' t)

-- behind the last entry: 18 for a cut body, 5 for no pattern, 18 for more than 255; else how many patterns there are
unfoldable pub end_judged : Stage → Outcome ℕ
end_judged s =
    demand (eqb s.due 0) 18
    (demand (leb 1 s.begun) 5
    (demand (leb s.begun 255) 18
    (accepted s.begun)))

-- a whole table: how many patterns it has
unfoldable pub judge_table : List ℕ → Outcome ℕ
judge_table t = and_then (entries_judged start t) end_judged

-- How many entries a list has, and where its return mark stands, without the entries.
use Rattle.std.specs.Prelude.{ℕ, ◌+◌, ◌*◌, true, false, List, [], ◌∷◌, eqb}
use Rattle.bits.specs.Choice.{pick}
use Rattle.tone.specs.Tone.{Pattern}
use Rattle.tone_elements.specs.Answers.{notes}
use Rattle.list_count.specs.declared.Count.{Count}
use Rattle.list_count.specs.Bodies.{Remembered, passes_of, body_of, remember, no_mark}

-- notes times passes, summed up to the first loop 15
abbrev pub entry_count : List Remembered → List Pattern → ℕ
entry_count bodies [] = 0
entry_count bodies (p ∷ ps) =
    let more = entry_count (remember bodies p) ps in
    notes (body_of bodies p) * passes_of p.loop + pick (eqb p.loop 15) 0 more

-- the mark of a loop 15 of k notes with n entries ahead: where its second pass starts, or none where a pass has no note
abbrev pub mark_of : ℕ → ℕ → ℕ
mark_of n k = pick (eqb k 0) no_mark (n + k)

-- the mark of the first loop 15, with n entries ahead of the patterns
abbrev pub mark_from : List Remembered → ℕ → List Pattern → ℕ
mark_from bodies n [] = no_mark
mark_from bodies n (p ∷ ps) =
    let k = notes (body_of bodies p) in
    let more = mark_from (remember bodies p) (n + k * passes_of p.loop) ps in
    pick (eqb p.loop 15) (mark_of n k) more

-- ---- counting, a pattern at a time

-- nothing is counted yet
abbrev pub no_count : Count
no_count = record { entries = 0; mark = no_mark; ended = false }

-- a pattern of so many notes and this loop value more; behind a loop 15 nothing counts
unfoldable pub counted : Count → ℕ → ℕ → Count
counted c k loop =
    pick c.ended c
    (pick (eqb loop 15)
    (record { entries = c.entries + k * passes_of loop; mark = mark_of c.entries k; ended = true })
    (record { entries = c.entries + k * passes_of loop; mark = c.mark; ended = false }))

-- A tone and its table by positions: a header stands behind all patterns ahead of it, and its instructions follow it in turn.
use Prim.Native.Nat.{ℕ, zero, suc, ◌+◌, ◌<◌}
use native.Mathlib.Omega.{arith}
use mathlib.Core.Path.{◌≡◌, refl, ap, ◌∙◌}
use mathlib.Core.Bool.{Bool}
use mathlib.Core.List.{List, [], ◌∷◌}
use lib.ListN.{length, get_or, take, length-append, get_or-append}
use lib.Seq.{get_or-append-add}
use Rattle.tone.specs.Tone.{Pattern, header, cells, pattern_at, header_cell, learn, Sound, Sequence}

-- behind one pattern more
cell_behind : (p : Pattern) (ps : List Pattern) (k i j : ℕ) → header_cell (p ∷ ps) (suc k) + i ≡ j → get_or (cells (p ∷ ps)) j 0 ≡ get_or (cells ps) (header_cell ps k + i) 0
cell_behind p ps k i j h =
    let e : j ≡ suc (length p.body + (header_cell ps k + i)) = omega (arith, length-append p.body (cells (take k ps))) in
    ap (λ (n : ℕ). get_or (cells (p ∷ ps)) n 0) e ∙ get_or-append-add p.body (cells ps) (header_cell ps k + i) 0

-- the header of the pattern at position k
pub header_there : (ps : List Pattern) (k : ℕ) → k < length ps → get_or (cells ps) (header_cell ps k) 0 ≡ header (pattern_at ps k)
header_there [] k h = absurd (omega arith)
header_there (p ∷ ps) zero h = refl
header_there (p ∷ ps) (suc k) h =
    let e : header_cell ps k + 0 ≡ header_cell ps k = omega arith in
    cell_behind p ps k 0 (header_cell (p ∷ ps) (suc k)) (omega arith) ∙ ap (λ (n : ℕ). get_or (cells ps) n 0) e ∙ header_there ps k (omega arith)

-- all of its instructions stand in the table
pub cell_inside : (ps : List Pattern) (k i : ℕ) → k < length ps → i < length (pattern_at ps k).body → header_cell ps k + (1 + i) < length (cells ps)
cell_inside [] k i h l = absurd (omega arith)
cell_inside (p ∷ ps) zero i h l = omega (arith, length-append p.body (cells ps))
cell_inside (p ∷ ps) (suc k) i h l =
    let more = cell_inside ps k i (omega arith) l in
    omega (arith, length-append p.body (cells ps), length-append p.body (cells (take k ps)))

-- the instruction at position i is the cell 1 + i behind the header's
pub instruction_there : (ps : List Pattern) (k i : ℕ) → k < length ps → i < length (pattern_at ps k).body → get_or (cells ps) (header_cell ps k + (1 + i)) 0 ≡ get_or (pattern_at ps k).body i 0
instruction_there [] k i h l = absurd (omega arith)
instruction_there (p ∷ ps) zero i h l =
    let e : 0 + (1 + i) ≡ suc i = omega arith in
    ap (λ (n : ℕ). get_or (cells (p ∷ ps)) n 0) e ∙ get_or-append p.body (cells ps) 0 i l
instruction_there (p ∷ ps) (suc k) i h l = cell_behind p ps k (1 + i) (header_cell (p ∷ ps) (suc k) + (1 + i)) refl ∙ instruction_there ps k i (omega arith) l

-- each pattern of a sequence has its codes in range
pub sound_at : (known : List Bool) (ps : List Pattern) (k : ℕ) → Sequence known ps → k < length ps → Sound (pattern_at ps k)
sound_at known [] k h l = let z : ⊥ = omega arith in absurd z
sound_at known (p ∷ ps) zero h l = h.0
sound_at known (p ∷ ps) (suc k) h l = sound_at (learn known (header p)) ps k h.2 (omega arith)

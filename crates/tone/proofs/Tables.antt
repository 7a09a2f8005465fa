-- The table and the tone determine each other.
use Prim.Native.Nat.{ℕ}
use native.Mathlib.Omega.{arith}
use mathlib.Core.Path.{◌≡◌, refl, sym, ap, ◌∙◌}
use mathlib.Core.Bool.{Bool}
use mathlib.Core.List.{List, [], ◌∷◌, ◌++◌, append-nil}
use borrow.Author.Tests.{eq-eqb, ne_eqb}
use Rattle.tone.specs.Table.{kind}
use Rattle.tone.specs.Tone.{Pattern, header, cells, Gathered, gather, patterns_of, learn, Instructions, Sequence}
use Rattle.tone.proofs.Rows.{header_small, pattern_header}

-- instructions ahead of a table stay loose
gather_body : (b t : List ℕ) → Instructions b → gather (b ++ t) ≡ record { loose = b ++ (gather t).loose; patterns = (gather t).patterns }
gather_body [] t h = refl
gather_body (e ∷ b) t h =
    let i = h.0.some in
    let z : kind e ≡ 0 → ⊥ = λ q. omega arith in
    rw (gather_body b t h.1, ne_eqb (kind e) 0 z)

-- a table made of patterns gives them back, and nothing is left over
pub gather_cells : (known : List Bool) (ps : List Pattern) → Sequence known ps → gather (cells ps) ≡ record { loose = []; patterns = ps }
gather_cells known [] h = refl
gather_cells known (p ∷ ps) h =
    let s = (header_small p h.0).0 in
    let z : kind (header p) ≡ 0 = omega arith in
    let e : p.body ++ [] ≡ p.body = append-nil p.body in
    rw (gather_body p.body (cells ps) h.0.each, gather_cells (learn known (header p)) ps h.2, eq-eqb (kind (header p)) 0 z, e, pattern_header p h.0)

-- so a tone's patterns are those of its table
pub patterns_of_cells : (known : List Bool) (ps : List Pattern) → Sequence known ps → patterns_of (cells ps) ≡ ps
patterns_of_cells known ps h = ap (λ (g : Gathered). g.patterns) (gather_cells known ps h)

-- and tones with one table have the same patterns
pub one_table : (known : List Bool) (ps qs : List Pattern) → Sequence known ps → Sequence known qs → cells ps ≡ cells qs → ps ≡ qs
one_table known ps qs h k e = sym (patterns_of_cells known ps h) ∙ ap patterns_of e ∙ patterns_of_cells known qs k

-- A table is judged good exactly if it is the cells of a sequence of 1 to 255 patterns.
use Prim.Native.Nat.{ℕ, zero, suc, ◌+◌, ◌≤◌, ◌<◌}
use native.Mathlib.Omega.{arith}
use native.Mathlib.Nat.{zero-add, add-zero}
use mathlib.Core.Path.{◌≡◌, refl, sym, ap, ap₂, ◌∙◌}
use mathlib.Core.Logic.{◌↔◌}
use mathlib.Core.Bool.{Bool, true, false}
use mathlib.Core.List.{List, [], ◌∷◌, ◌++◌}
use lib.ListN.{length, take, drop, length-drop, take-append-drop}
use lib.Seq.{drop_at, length-take-le}
use lib.Dec.{leb}
use borrow.Author.Tests.{le-leb, eq-eqb, leb-true}
use Rattle.bits.specs.Outcome.{Outcome, accepted, refused, and_then, demand}
use Rattle.tone.specs.Table.{kind, Instruction}
use Rattle.tone.specs.Tone.{Pattern, specifier, header, pattern, cells, patterns_of, none_known, recallable, learn, Instructions, Sequence}
use Rattle.tone.proofs.Rows.{header_small, header_pattern}
use Rattle.tone.proofs.Tables.{patterns_of_cells}
use Rattle.tone.proofs.Instructions.{header_in_table}
use Rattle.tone_table.specs.Judging.{entries_judged, end_judged, judge_table}
use Rattle.tone_table.specs.Answers.{entry_length, header_length, instruction_length, body_length}
use Rattle.tone_table.proofs.Weights.{in_table_fine}
use Rattle.tone_table.proofs.Walks.{stage, from_stage, at_header, at_body, not_refused, header_told, body_told, BodyTold}

-- the patterns behind a table that is judged good
pub record Good (known : List Bool) (c n : ℕ) (t : List ℕ) : Type 0 where
  pub patterns : List Pattern
  pub cells : cells patterns ≡ t
  pub sequence : Sequence known patterns
  pub count : n ≡ c + length patterns
  pub some : 1 ≤ n
  pub most : n ≤ 255

-- the end of a table that is judged good
end_good : (known : List Bool) (c n : ℕ) → end_judged (stage 0 known c) ≡ accepted n → (n ≡ c) × (1 ≤ c) × (c ≤ 255)
unfolding end_judged
end_good known c n q = go (leb 1 c) (leb c 255) refl refl q
  where
    go : (s m : Bool) → leb 1 c ≡ s → leb c 255 ≡ m → demand s 5 (demand m 18 (accepted c)) ≡ accepted n → (n ≡ c) × (1 ≤ c) × (c ≤ 255)
    go true true e l h = (cc, leb-true 1 c e, leb-true c 255 l)
    go true false e l h = absurd (not_refused h)
    go false m e l h = absurd (not_refused h)

-- one pattern in front of those behind it
in_front : (known : List Bool) (c n e : ℕ) (t : List ℕ) {b : ℕ} → (e < 16384) × (recallable known e ≡ true) × (b ≡ entry_length e) → {k : ℕ} → BodyTold (specifier e) t k
    → Good (learn known e) (suc c) n (drop (specifier e) t) → Good known c n (e ∷ t)
in_front known c n e t h b g =
    let s : length (take (specifier e) t) ≡ specifier e = length-take-le (specifier e) t b.whole in
    let p = pattern e (take (specifier e) t) in
    let i : header p ≡ e = header_pattern e (take (specifier e) t) h.0 s in
    record {
      patterns = p ∷ g.patterns;
      cells = ap₂ (λ (x : ℕ) (y : List ℕ). x ∷ (take (specifier e) t ++ y)) i g.cells ∙ ap (λ (x : List ℕ). e ∷ x) (take-append-drop (specifier e) t);
      sequence = (record { id = omega arith; loop = omega arith; long = omega (arith, s); each = b.each }, rw i h.1, rw i g.sequence);
      count = omega (arith, g.count);
      some = g.some;
      most = g.most;
    }

-- nothing more
no_more : (known : List Bool) (c n : ℕ) → from_stage (stage 0 known c) [] ≡ accepted n → Good known c n []
unfolding entries_judged
no_more known c n q =
    let e = end_good known c n q in
    record { patterns = []; cells = refl; sequence = tt; count = omega (arith, e.0); some = omega (arith, e.0, e.1); most = omega (arith, e.0, e.2) }

-- what is judged good is made of patterns; m bounds the table's length
good_from : (m : ℕ) (known : List Bool) (c n : ℕ) (t : List ℕ) → length t ≤ m → from_stage (stage 0 known c) t ≡ accepted n → Good known c n t
good_from zero known c n [] h q = no_more known c n q
good_from zero known c n (e ∷ t) h q = let z : ⊥ = omega arith in absurd z
good_from (suc m) known c n [] h q = no_more known c n q
good_from (suc m) known c n (e ∷ t) h q =
    headed (header_length known e) (body_length (specifier e) t) refl refl
    (sym (at_header known c e t ∙ ap (λ (x : Outcome ℕ). and_then (header_length known e) (λ _. x)) (at_body (specifier e) (learn known e) (suc c) t)) ∙ q)
    (λ r. good_from m (learn known e) (suc c) n (drop (specifier e) t) (omega (arith, length-drop (specifier e) t)) r)
  where
    headed : (x y : Outcome ℕ) → header_length known e ≡ x → body_length (specifier e) t ≡ y
        → and_then x (λ _. and_then y (λ _. from_stage (stage 0 (learn known e) (suc c)) (drop (specifier e) t))) ≡ accepted n
        → (from_stage (stage 0 (learn known e) (suc c)) (drop (specifier e) t) ≡ accepted n → Good (learn known e) (suc c) n (drop (specifier e) t)) → Good known c n (e ∷ t)
    headed (accepted b) (accepted k) f g r more = in_front known c n e t (header_told known e f) (body_told (specifier e) t g) (more r)
    headed (accepted b) (refused l p) f g r more = absurd (not_refused r)
    headed (refused l p) y f g r more = absurd (not_refused r)

-- what patterns make is judged good
instruction_good : (e : ℕ) → Instruction e → instruction_length e ≡ accepted (entry_length e)
unfolding instruction_length
instruction_good e h = rw (in_table_fine e h.in_table, le-leb 1 (kind e) h.some)

body_good : (b t : List ℕ) → Instructions b → (k : ℕ) × (body_length (length b) (b ++ t) ≡ accepted k)
unfolding body_length
body_good [] t h = (0, refl)
body_good (e ∷ b) t h =
    let r = body_good b t h.1 in
    (entry_length e + r.0, rw (instruction_good e h.0, r.1) refl)

header_good : (known : List Bool) (e : ℕ) → e < 16384 → recallable known e ≡ true → header_length known e ≡ accepted (entry_length e)
unfolding header_length
header_good known e h r = let z : kind e ≡ 0 = omega arith in rw (in_table_fine e (header_in_table e h), eq-eqb (kind e) 0 z, r)

cells_from : (known : List Bool) (c : ℕ) (ps : List Pattern) → Sequence known ps → from_stage (stage 0 known c) (cells ps) ≡ end_judged (stage 0 none_known (c + length ps))
unfolding end_judged entries_judged
cells_from known c [] h = rw (add-zero c)
cells_from known c (p ∷ ps) h =
    let s = header_small p h.0 in
    let b = body_good p.body (cells ps) h.0.each in
    let d : drop (length p.body) (p.body ++ cells ps) ≡ cells ps = drop_at p.body (cells ps) (length p.body) refl in
    let m : suc c + length ps ≡ c + suc (length ps) = omega arith in
    let known' = learn known (header p) in
    let a : from_stage (stage 0 known c) (cells (p ∷ ps)) ≡ from_stage (stage (specifier (header p)) known' (suc c)) (p.body ++ cells ps) =
    at_header known c (header p) (p.body ++ cells ps) ∙ (rw (header_good known (header p) s.0 h.1)) in
    let r : from_stage (stage (length p.body) known' (suc c)) (p.body ++ cells ps) ≡ from_stage (stage 0 known' (suc c)) (cells ps) =
    at_body (length p.body) known' (suc c) (p.body ++ cells ps) ∙ (rw (b.1, d)) in
    a ∙ ap (λ (x : ℕ). from_stage (stage x known' (suc c)) (p.body ++ cells ps)) s.1 ∙ r
    ∙ cells_from known' (suc c) ps h.2 ∙ ap (λ (x : ℕ). end_judged (stage 0 none_known x)) m

-- ---- the theorem

-- a table that is judged good is the cells of its patterns, which are a sequence of 1 to 255
pub record GoodTable (t : List ℕ) (n : ℕ) : Type 0 where
  pub cells : cells (patterns_of t) ≡ t
  pub sequence : Sequence none_known (patterns_of t)
  pub count : length (patterns_of t) ≡ n
  pub some : 1 ≤ n
  pub most : n ≤ 255

pub judged_is_good : (t : List ℕ) (n : ℕ) → judge_table t ≡ accepted n → GoodTable t n
unfolding judge_table
judged_is_good t n q =
    let g = good_from (length t) none_known 0 n t (omega arith) q in
    let e : patterns_of t ≡ g.patterns = sym (ap patterns_of g.cells) ∙ patterns_of_cells none_known g.patterns g.sequence in
    record {
      cells = rw e g.cells;
      sequence = rw e g.sequence;
      count = rw e (sym (zero-add (length g.patterns)) ∙ sym g.count);
      some = g.some;
      most = g.most;
    }

-- the table of such a sequence is judged good
pub good_is_judged : (ps : List Pattern) → Sequence none_known ps → 1 ≤ length ps → length ps ≤ 255 → judge_table (cells ps) ≡ accepted (length ps)
unfolding judge_table end_judged
good_is_judged ps h s m =
    cells_from none_known 0 ps h ∙ (rw (zero-add (length ps), le-leb 1 (length ps) s, le-leb (length ps) 255 m))

-- so a table is accepted, with so many patterns, exactly if it is good
pub good_exactly : (t : List ℕ) (n : ℕ) → (judge_table t ≡ accepted n) ↔ GoodTable t n
good_exactly t n = (judged_is_good t n, λ g. sym (ap judge_table g.cells) ∙ good_is_judged (patterns_of t) g.sequence (rw g.count g.some) (rw g.count g.most) ∙ ap (λ (x : ℕ). accepted x) g.count)

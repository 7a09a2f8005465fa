-- A table is judged pattern by pattern.
use Prim.Native.Nat.{ℕ, zero, suc, ◌+◌, ◌-◌, ◌*◌, ◌≤◌, ◌<◌}
use native.Mathlib.Omega.{arith}
use native.Mathlib.Nat.{add_assoc}
use native.Mathlib.Numerals.{add-one, one-add}
use mathlib.Core.Path.{◌≡◌, refl, sym, ap, ap₂, ◌∙◌}
use mathlib.Core.Bool.{Bool, true, false}
use mathlib.Core.List.{List, [], ◌∷◌, ◌++◌}
use lib.ListN.{length, get_or, set, take, drop, length-append, length-drop, drop_of_length-le}
use lib.Seq.{drop-cons, drop-drop, take-add, take_all}
use lib.Dec.{leb, eqb}
use borrow.Author.Tests.{le-leb, lt-leb, ne_eqb, eqb-true, leb-true}
use mir.Val.{Fits}
use mir.Syntax.{w32, w64}
use Rattle.std.specs.Prelude.{Result, Ok, Err}
use Rattle.bits.specs.Outcome.{Outcome, accepted, refused, and_then, demand}
use Rattle.bits.specs.Refusals.{ground_of}
use Rattle.bits.specs.declared.refusal.Ground.{Ground}
use Rattle.bits.specs.declared.refusal.Ground.TheVariants.{NoPattern, TableShape}
use Rattle.tone.specs.Table.{kind, Instruction}
use Rattle.tone.specs.Tone.{specifier, part_of, none_known, recallable, learn, Instructions}
use Rattle.tone.specs.Writing.{entry_bits, table_bits}
use Rattle.tone.proofs.Rows.{table_bits_append, length_entry_bits, width_most}
use Rattle.tone.proofs.Recalls.{learn_set}
use Rattle.tone_table.specs.Judging.{entry_fine, Stage, entry_judged, entries_judged, end_judged, judge_table}
use Rattle.tone_table.specs.Answers.{entry_length, header_length, instruction_length, body_length, weighed_of, at_most, judged_of}
use Rattle.tone_table.proofs.Weights.{fine_in_table, header_bound, weighed_bits}

-- how far a table was judged
abbrev pub stage : ℕ → List Bool → ℕ → Stage
stage due known begun = record { due = due; known = known; begun = begun }

-- the rest of a table, judged from a stage on
abbrev pub from_stage : Stage → List ℕ → Outcome ℕ
from_stage s t = and_then (entries_judged s t) end_judged

-- ---- one entry

-- a header where one is due
pub header_step : (known : List Bool) (c e : ℕ) → entry_judged (stage 0 known c) e ≡ and_then (header_length known e) (λ _. accepted (stage (specifier e) (learn known e) (suc c)))
unfolding entry_judged header_length
header_step known c e = go (entry_fine e) (eqb (kind e) 0) (recallable known e)
  where
    go : (a b r : Bool) → demand a 6 (demand b 18 (demand r 7 (accepted (stage (specifier e) (learn known e) (suc c)))))
        ≡ and_then (demand a 6 (demand b 18 (demand r 7 (accepted (entry_length e))))) (λ _. accepted (stage (specifier e) (learn known e) (suc c)))
    go true true true = refl
    go true true false = refl
    go true false r = refl
    go false b r = refl

-- an instruction where one is due
pub instruction_step : (n : ℕ) (known : List Bool) (c e : ℕ) → entry_judged (stage (suc n) known c) e ≡ and_then (instruction_length e) (λ _. accepted (stage n known c))
unfolding entry_judged instruction_length
instruction_step n known c e =
    let z : suc n ≡ 0 → ⊥ = λ q. omega arith in
    let m : suc n - 1 ≡ n = omega arith in
    rw (ne_eqb (suc n) 0 z, m) (go (entry_fine e) (leb 1 (kind e)))
  where
    go : (a b : Bool) → demand a 6 (demand b 18 (accepted (stage n known c)))
        ≡ and_then (demand a 6 (demand b 18 (accepted (entry_length e)))) (λ _. accepted (stage n known c))
    go true true = refl
    go true false = refl
    go false b = refl

-- the first entry, and then the rest
next_entry : (s : Stage) (e : ℕ) (t : List ℕ) → from_stage s (e ∷ t) ≡ and_then (entry_judged s e) (λ s'. from_stage s' t)
unfolding entries_judged
next_entry s e t = go (entry_judged s e)
  where
    go : (x : Outcome Stage) → and_then (and_then x (λ s'. entries_judged s' t)) end_judged ≡ and_then x (λ s'. from_stage s' t)
    go (accepted s') = refl
    go (refused n p) = refl

pub at_header : (known : List Bool) (c e : ℕ) (t : List ℕ) → from_stage (stage 0 known c) (e ∷ t) ≡ and_then (header_length known e) (λ _. from_stage (stage (specifier e) (learn known e) (suc c)) t)
at_header known c e t = next_entry (stage 0 known c) e t ∙ (rw (header_step known c e) (go (header_length known e)))
  where
    go : (x : Outcome ℕ) → and_then (and_then x (λ _. accepted (stage (specifier e) (learn known e) (suc c)))) (λ s'. from_stage s' t)
        ≡ and_then x (λ _. from_stage (stage (specifier e) (learn known e) (suc c)) t)
    go (accepted b) = refl
    go (refused n p) = refl

-- ---- a body

-- a body that is cut
cut_body_lem : (n : ℕ) (known : List Bool) (c : ℕ) → from_stage (stage (suc n) known c) [] ≡ refused 18 0
unfolding entries_judged end_judged
cut_body_lem n known c = let z : suc n ≡ 0 → ⊥ = λ q. omega arith in rw (ne_eqb (suc n) 0 z)

-- the instructions that are due, and then the rest of the table
pub at_body : (n : ℕ) (known : List Bool) (c : ℕ) (t : List ℕ) → from_stage (stage n known c) t ≡ and_then (body_length n t) (λ _. from_stage (stage 0 known c) (drop n t))
unfolding body_length
at_body zero known c t = refl
at_body (suc n) known c [] = cut_body_lem n known c
at_body (suc n) known c (e ∷ t) =
    next_entry (stage (suc n) known c) e t ∙ (rw (instruction_step n known c e) (go (instruction_length e) (body_length n t) (at_body n known c t)))
  where
    go : (x y : Outcome ℕ) → from_stage (stage n known c) t ≡ and_then y (λ _. from_stage (stage 0 known c) (drop n t))
        → and_then (and_then x (λ _. accepted (stage n known c))) (λ s'. from_stage s' t)
        ≡ and_then (and_then x (λ b. and_then y (λ k. accepted (b + k)))) (λ _. from_stage (stage 0 known c) (drop n t))
    go (accepted b) (accepted k) h = h
    go (accepted b) (refused m p) h = h
    go (refused m p) y h = refl

-- ---- what was accepted

-- an outcome that was accepted was no refusal
pub not_refused : {A : Type 0} {n p : ℕ} {a : A} → refused n p ≡ accepted a → ⊥
not_refused q = let z : ◌≡◌ {A = ℕ} 0 1 = cc in omega arith

pub instruction_told : (e : ℕ) {b : ℕ} → instruction_length e ≡ accepted b → Instruction e × (b ≡ entry_length e)
unfolding instruction_length
instruction_told e {b} q = go (entry_fine e) (leb 1 (kind e)) refl refl q
  where
    go : (s t : Bool) → entry_fine e ≡ s → leb 1 (kind e) ≡ t → demand s 6 (demand t 18 (accepted (entry_length e))) ≡ accepted b → Instruction e × (b ≡ entry_length e)
    go true true f k h = (record { in_table = fine_in_table e f; some = leb-true 1 (kind e) k }, cc)
    go true false f k h = absurd (not_refused h)
    go false t f k h = absurd (not_refused h)

pub header_told : (known : List Bool) (e : ℕ) {b : ℕ} → header_length known e ≡ accepted b → (e < 16384) × (recallable known e ≡ true) × (b ≡ entry_length e)
unfolding header_length
header_told known e {b} q = go (entry_fine e) (eqb (kind e) 0) (recallable known e) refl refl refl q
  where
    go : (s t r : Bool) → entry_fine e ≡ s → eqb (kind e) 0 ≡ t → recallable known e ≡ r
        → demand s 6 (demand t 18 (demand r 7 (accepted (entry_length e)))) ≡ accepted b → (e < 16384) × (recallable known e ≡ true) × (b ≡ entry_length e)
    go true true true f k g h = (header_bound e (fine_in_table e f) (eqb-true (kind e) 0 k), g, cc)
    go true true false f k g h = absurd (not_refused h)
    go true false r f k g h = absurd (not_refused h)
    go false t r f k g h = absurd (not_refused h)

-- a body that was accepted: all of it is there, each is an instruction, and its bits are those of its entries
pub record BodyTold (n : ℕ) (t : List ℕ) (b : ℕ) : Type 0 where
  pub whole : n ≤ length t
  pub each : Instructions (take n t)
  pub bits : b ≡ length (table_bits (take n t))
  pub most : b ≤ 17 * n

pub body_told : (n : ℕ) (t : List ℕ) {b : ℕ} → body_length n t ≡ accepted b → BodyTold n t b
unfolding body_length
body_told zero t {b} q = let e : b ≡ 0 = cc in record { whole = omega arith; each = tt; bits = e; most = omega arith }
body_told (suc n) [] q = absurd (not_refused q)
body_told (suc n) (e ∷ t) {b} q = go (instruction_length e) (body_length n t) refl (λ k h. body_told n t h) q
  where
    go : (x y : Outcome ℕ) → instruction_length e ≡ x → ((k : ℕ) → y ≡ accepted k → BodyTold n t k) → and_then x (λ b. and_then y (λ k. accepted (b + k))) ≡ accepted b → BodyTold (suc n) (e ∷ t) b
    go (accepted a) (accepted k) f g h =
        let i = instruction_told e f in
        let r = g k refl in
        let s : a + k ≡ b = cc in
        record {
          whole = omega (arith, r.whole);
          each = (i.0, r.each);
          bits = sym s ∙ (rw (i.1, r.bits)) ∙ sym (length-append (entry_bits e) (table_bits (take n t)) ∙ ap (λ (x : ℕ). x + length (table_bits (take n t))) (length_entry_bits e));
          most = omega (arith, i.1, width_most (kind e), r.most);
        }
    go (accepted a) (refused m p) f g h = absurd (not_refused h)
    go (refused m p) y f g h = absurd (not_refused h)

-- ---- the patterns of a table

-- judged up to i, where a header is due
pub record RowWalk (table : List ℕ) (known : List Bool) (patterns bits i : ℕ) : Type 0 where
  pub inside : i ≤ length table
  pub fewer : patterns ≤ i
  pub weighs : bits ≡ at_most (length (table_bits (take i table)))
  pub goes : judge_table table ≡ from_stage (stage 0 known patterns) (drop i table)

pub row_begins : (table : List ℕ) → RowWalk table none_known 0 0 0
unfolding judge_table
row_begins table = record { inside = omega arith; fewer = omega arith; weighs = refl; goes = refl }

-- a refusal of the rules is the answer's
faulty : (t : List ℕ) {n p : ℕ} → judge_table t ≡ refused n p → Err (ground_of n) ≡ judged_of t (judge_table t)
faulty t e = rw e

stopped : (t : List ℕ) (x : Outcome ℕ) (f : ℕ → Outcome ℕ) {s : Result ℕ Ground} {g : Ground} → judge_table t ≡ and_then x f → s ≡ weighed_of x → s ≡ Err g → Err g ≡ judged_of t (judge_table t)
stopped t (accepted b) f e q g = cc
stopped t (refused n p) f {g = m} e q g = let k : m ≡ ground_of n = cc in rw (e, k)

module _ {table : List ℕ} {known : List Bool} {patterns bits i : ℕ} (w : RowWalk table known patterns bits i) where
  pub row_few : bits ≤ 32769
  row_few = omega (arith, w.weighs)

  module _ (h : length table ≤ i) where
    ends : judge_table table ≡ end_judged (stage 0 known patterns)
    unfolding entries_judged
    ends = w.goes ∙ (rw (drop_of_length-le table {i = i} h))

    some : (patterns ≡ 0 → ⊥) → 1 ≤ patterns
    some s = omega arith

    pub row_none : patterns ≡ 0 → Err NoPattern ≡ judged_of table (judge_table table)
    unfolding end_judged
    row_none z = faulty table {n = 5} {p = 0} (ends ∙ (rw (lt-leb 1 patterns (omega arith))))

    module _ (s : patterns ≡ 0 → ⊥) where
      pub row_many : 255 < patterns → Err TableShape ≡ judged_of table (judge_table table)
      unfolding end_judged
      row_many m = faulty table {n = 18} {p = 0} (ends ∙ (rw (le-leb 1 patterns (some s), lt-leb patterns 255 m)))

      pub row_sound : patterns ≤ 255 → Ok (record { patterns = patterns; bits = bits }) ≡ judged_of table (judge_table table)
      unfolding end_judged
      row_sound m =
          let a : take i table ≡ table = take_all i table h in
          rw (ends, le-leb 1 patterns (some s), le-leb patterns 255 m) (ap (λ (x : ℕ). Ok (record { patterns = patterns; bits = x })) (w.weighs ∙ (rw a refl)))

  module _ {s : Result ℕ Ground} (k : i < length table) (q : s ≡ weighed_of (header_length known (get_or table i 0))) where
    next : from_stage (stage 0 known patterns) (drop i table)
        ≡ and_then (header_length known (get_or table i 0)) (λ _. from_stage (stage (specifier (get_or table i 0)) (learn known (get_or table i 0)) (suc patterns)) (drop (suc i) table))
    next = ap (from_stage (stage 0 known patterns)) (drop-cons table i 0 k) ∙ at_header known patterns (get_or table i 0) (drop (suc i) table)

    pub row_header_fault : {m : Ground} → s ≡ Err m → Err m ≡ judged_of table (judge_table table)
    row_header_fault g = stopped table (header_length known (get_or table i 0)) _ (w.goes ∙ next) q g

    module _ {own : ℕ} {t : Result ℕ Ground} (g : s ≡ Ok own) (all : t ≡ weighed_of (body_length (specifier (get_or table i 0)) (take (length table - (i + 1)) (drop (i + 1) table)))) where
      q' : t ≡ weighed_of (body_length (specifier (get_or table i 0)) (drop (i + 1) table))
      q' = rw (take_all (length table - (i + 1)) (drop (i + 1) table) (omega (arith, length-drop (i + 1) table))) at all

      own_told : header_length known (get_or table i 0) ≡ accepted own
      own_told = weighed_bits (header_length known (get_or table i 0)) (sym g ∙ q)

      behind : judge_table table ≡ and_then (body_length (specifier (get_or table i 0)) (drop (i + 1) table))
          (λ _. from_stage (stage 0 (learn known (get_or table i 0)) (suc patterns)) (drop (specifier (get_or table i 0)) (drop (i + 1) table)))
      behind = w.goes ∙ next ∙ (rw (own_told, ← add-one i) (at_body (specifier (get_or table i 0)) (learn known (get_or table i 0)) (suc patterns) (drop (i + 1) table)))

      pub row_body_fault : {m : Ground} → t ≡ Err m → Err m ≡ judged_of table (judge_table table)
      row_body_fault g' = stopped table (body_length (specifier (get_or table i 0)) (drop (i + 1) table)) _ behind q' g'

      module _ {more : ℕ} (g' : t ≡ Ok more) where
        told : BodyTold (specifier (get_or table i 0)) (drop (i + 1) table) more
        told = body_told (specifier (get_or table i 0)) (drop (i + 1) table) (weighed_bits (body_length (specifier (get_or table i 0)) (drop (i + 1) table)) (sym g' ∙ q'))

        whole : i + (1 + specifier (get_or table i 0)) ≤ length table
        whole = omega (arith, told.whole, length-drop (i + 1) table)

        pub row_small : Fits w32 (own + more)
        row_small = record { fits = omega (arith, told.most, (header_told known (get_or table i 0) own_told).2, width_most (kind (get_or table i 0))) }

        pub row_far : Fits w64 (length table) → Fits w64 (i + (1 + specifier (get_or table i 0)))
        row_far f = record { fits = omega (arith, whole, f.fits) }

        bits_more : length (table_bits (take (i + (1 + specifier (get_or table i 0))) table)) ≡ length (table_bits (take i table)) + (own + more)
        bits_more =
            let n = specifier (get_or table i 0) in
            let d : take (1 + n) (drop i table) ≡ get_or table i 0 ∷ take n (drop (i + 1) table) = rw (one-add n, drop-cons table i 0 k, add-one i) refl in
            let b = entry_bits (get_or table i 0) in
            let r = table_bits (take n (drop (i + 1) table)) in
            ap (λ (x : List ℕ). length (table_bits x)) (take-add i (1 + n) table ∙ ap (λ (x : List ℕ). take i table ++ x) d)
            ∙ ap length (table_bits_append (take i table) (get_or table i 0 ∷ take n (drop (i + 1) table)))
            ∙ length-append (table_bits (take i table)) (b ++ r)
            ∙ ap (λ (x : ℕ). length (table_bits (take i table)) + x)
            (length-append b r ∙ ap₂ (λ (x y : ℕ). x + y) (length_entry_bits (get_or table i 0) ∙ sym (header_told known (get_or table i 0) own_told).2) (sym told.bits))

        pub row_on : {bits' : ℕ} → bits' ≡ at_most (bits + (own + more))
            → RowWalk table (set known (part_of (get_or table i 0)) true) (patterns + 1) bits' (i + (1 + specifier (get_or table i 0)))
        row_on {bits'} eb =
            let n = specifier (get_or table i 0) in
            let l = bits_more in
            let d : drop n (drop (i + 1) table) ≡ drop (i + (1 + n)) table = drop-drop n (i + 1) table ∙ ap (λ (x : ℕ). drop x table) (add_assoc i 1 n) in
            record {
              inside = whole;
              fewer = omega (arith, w.fewer);
              weighs = rw l (omega (arith, eb, w.weighs));
              goes = behind ∙ (rw (weighed_bits (body_length n (drop (i + 1) table)) (sym g' ∙ q'), d, add-one patterns) (ap (λ (x : List Bool). from_stage (stage 0 x (suc patterns)) (drop (i + (1 + n)) table)) (learn_set known (get_or table i 0) (header_told known (get_or table i 0) own_told).1)));
            }

pub ruleset rows = (row_begins, row_few, row_none, row_many, row_sound, row_header_fault, row_body_fault, row_small, row_far, row_on)

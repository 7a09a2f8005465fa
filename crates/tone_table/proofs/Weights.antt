-- An entry, an instruction and a body that are judged, and how many bits they take.
use Prim.Native.Nat.{ℕ, suc, min, ◌+◌, ◌-◌, ◌*◌, ◌/◌, ◌%◌, ◌^◌, ◌≤◌, ◌<◌}
use native.Mathlib.Omega.{arith}
use native.Mathlib.Nat.{zero-add, add_assoc}
use native.Mathlib.Numerals.{add-one}
use mathlib.Core.Path.{◌≡◌, refl, sym, ap, ap₂, ◌∙◌}
use mathlib.Core.Bool.{Bool, true, false, ◌&&◌}
use mathlib.Core.List.{List, ◌∷◌}
use lib.ListN.{length, get_or, take, drop, drop_of_length-le}
use lib.Seq.{drop-cons, length-take-le}
use Rattle.std.proofs.lemmas.List.{get_or-take}
use lib.Dec.{leb, ltb}
use borrow.Author.Tests.{le-leb, lt-leb, lt-ltb, eq-eqb, ne_eqb, leb-true, ltb-true}
use Rattle.std.specs.Prelude.{Option, Some, None, Result, Ok, Err}
use Rattle.bits.specs.Choice.{pick}
use Rattle.bits.specs.Outcome.{Outcome, accepted, refused, and_then, demand}
use Rattle.bits.specs.declared.refusal.Ground.{Ground}
use Rattle.bits.specs.declared.refusal.Ground.TheVariants.{Code, NoRecall, TableShape}
use Rattle.bits.proofs.Choice.{both}
use Rattle.tone.specs.Table.{kind, payload, width, allowed, InTable}
use Rattle.tone.specs.Tone.{specifier, part_of, recallable}
use Rattle.tone.proofs.Rows.{width_most}
use Rattle.tone.proofs.Instructions.{header_in_table}
use mir.Val.{Fits}
use mir.Syntax.{w32}
use Rattle.tone_table.specs.Judging.{entry_fine}
use Rattle.tone_table.specs.Answers.{entry_length, entry_weight, header_length, instruction_length, body_length, weighed_of}

-- ---- an entry

-- an entry is fine exactly if the instruction table has it
pub fine_in_table : (e : ℕ) → entry_fine e ≡ true → InTable e
unfolding entry_fine
fine_in_table e h =
    let a = both (leb (kind e) 5) (ltb (payload e) (2 ^ width (kind e)) && allowed (kind e) (payload e)) h in
    let b = both (ltb (payload e) (2 ^ width (kind e))) (allowed (kind e) (payload e)) a.1 in
    record { known = leb-true (kind e) 5 a.0; fits = ltb-true (payload e) (2 ^ width (kind e)) b.0; code = b.1 }

pub in_table_fine : (e : ℕ) → InTable e → entry_fine e ≡ true
unfolding entry_fine
in_table_fine e h = rw (le-leb (kind e) 5 h.known, lt-ltb (payload e) (2 ^ width (kind e)) h.fits, h.code)

module _ (e : ℕ) where
  abbrev Weight : Option ℕ → Type 0
  Weight r = r ≡ entry_weight e

  pub weight_kind : 5 < kind e → Weight None
  unfolding entry_fine
  weight_kind h = rw (lt-leb (kind e) 5 h)

  -- a note is told by its code alone: one that is allowed fits its bits
  module _ (note : kind e ≡ 1) {a : Bool} (ea : a ≡ allowed 1 (payload e)) where
    pub weight_note_code : a ≡ false → Weight None
    unfolding entry_fine
    weight_note_code f = rw (note, ← ea, f) (go (ltb (payload e) (2 ^ width 1)))
      where
        go : (b : Bool) → None ≡ pick (b && false) (Some (3 + width 1)) None
        go true = refl
        go false = refl

    pub weight_note : a ≡ true → Weight (Some 12)
    unfolding entry_fine allowed width
    weight_note t =
        let l = leb-true (payload e / 32) 12 (both (leb (payload e / 32) 12) (leb (payload e / 4 % 8) 5) (sym ea ∙ t)).0 in
        let s : payload e < 512 = omega arith in
        rw (note, ← ea, t, lt-ltb (payload e) 512 s)

  module _ {w : ℕ} {b : Bool} (h : kind e ≤ 5) (ew : w ≡ width (kind e)) (eb : b ≡ ltb (payload e) (2 ^ w)) where
    fits : ltb (payload e) (2 ^ width (kind e)) ≡ b
    fits = rw (← ew) (sym eb)

    pub weight_large : b ≡ false → Weight None
    unfolding entry_fine
    weight_large l = rw (le-leb (kind e) 5 h, fits, l)

    module _ {a : Bool} (l : b ≡ true) (ea : a ≡ allowed (kind e) (payload e)) where
      pub weight_code : a ≡ false → Weight None
      unfolding entry_fine
      weight_code f = rw (le-leb (kind e) 5 h, fits, l, ← ea, f)

      pub weight_good : a ≡ true → Weight (Some (3 + w))
      unfolding entry_fine
      weight_good t = rw (le-leb (kind e) 5 h, fits, l, ← ea, t, ew)

pub ruleset weights = (weight_kind, weight_note_code, weight_note, weight_large, weight_code, weight_good)

-- ---- an instruction

length_most : (e : ℕ) → entry_length e ≤ 17
length_most e = omega (arith, width_most (kind e))

module _ (e : ℕ) {r : Option ℕ} (h : r ≡ entry_weight e) where
  not_fine : r ≡ None → entry_fine e ≡ false
  not_fine z = go (entry_fine e) refl (sym z ∙ h)
    where
      go : (b : Bool) → entry_fine e ≡ b → None ≡ pick b (Some (entry_length e)) None → entry_fine e ≡ false
      go true q k = cc
      go false q k = q

  is_fine : {b : ℕ} → r ≡ Some b → (entry_fine e ≡ true) × (b ≡ entry_length e)
  is_fine {b} z = go (entry_fine e) refl (sym z ∙ h)
    where
      go : (f : Bool) → entry_fine e ≡ f → Some b ≡ pick f (Some (entry_length e)) None → (entry_fine e ≡ true) × (b ≡ entry_length e)
      go true q k = (q, cc)
      go false q k = cc

  pub instruction_six : r ≡ None → Err Code ≡ weighed_of (instruction_length e)
  unfolding instruction_length
  instruction_six z = rw (not_fine z)

  module _ {b : ℕ} (s : r ≡ Some b) where
    pub instruction_header : e < 65536 → Err TableShape ≡ weighed_of (instruction_length e)
    unfolding instruction_length
    instruction_header k = rw ((is_fine s).0, lt-leb 1 (kind e) (omega arith))

    pub instruction_fine : 65536 ≤ e → Ok b ≡ weighed_of (instruction_length e)
    unfolding instruction_length
    instruction_fine k = rw ((is_fine s).0, le-leb 1 (kind e) (omega arith), (is_fine s).1) refl

pub ruleset instructions = (instruction_six, instruction_header, instruction_fine)

-- ---- a header

-- an entry of kind 0 in the table has 14 bits
pub header_bound : (e : ℕ) → InTable e → kind e ≡ 0 → e < 16384
unfolding width
header_bound e h z = let k : payload e < 2 ^ 14 = rw z at h.fits in omega arith

module _ (known : List Bool) (e : ℕ) where
  module _ (h : 16384 ≤ e) {r : Option ℕ} (q : r ≡ entry_weight e) where
    pub header_six : r ≡ None → Err Code ≡ weighed_of (header_length known e)
    unfolding header_length
    header_six z = rw (not_fine e q z)

    pub header_other : {b : ℕ} → r ≡ Some b → Err TableShape ≡ weighed_of (header_length known e)
    unfolding header_length
    header_other z =
        let f = (is_fine e q z).0 in
        let n : kind e ≡ 0 → ⊥ = λ k. let l = header_bound e (fine_in_table e f) k in omega arith in
        rw (f, ne_eqb (kind e) 0 n)

  module _ (h : e < 16384) where
    judged_by : header_length known e ≡ pick (recallable known e) (accepted 17) (refused 7 0)
    unfolding header_length width
    judged_by =
        let z : kind e ≡ 0 = omega arith in
        rw (in_table_fine e (header_in_table e h), z)

    pub header_defines : (specifier e ≡ 0 → ⊥) → Ok 17 ≡ weighed_of (header_length known e)
    header_defines s = rw (judged_by, ne_eqb (specifier e) 0 s)

    module _ (recall : specifier e ≡ 0) where
      pub header_recalls : get_or known (part_of e) false ≡ true → Ok 17 ≡ weighed_of (header_length known e)
      header_recalls k = rw (judged_by, eq-eqb (specifier e) 0 recall, k)

      pub header_unknown : get_or known (part_of e) false ≡ false → Err NoRecall ≡ weighed_of (header_length known e)
      header_unknown k = rw (judged_by, eq-eqb (specifier e) 0 recall, k)

pub ruleset headers = (header_six, header_other, header_defines, header_recalls, header_unknown)

-- ---- a body

-- what an answer says of the outcome behind it
pub weighed_bits : (x : Outcome ℕ) {b : ℕ} → Ok b ≡ weighed_of x → x ≡ accepted b
weighed_bits (accepted c) {b} q = let e : b ≡ c = cc in ap (λ (y : ℕ). accepted y) (sym e)
weighed_bits (refused n p) q = cc

-- a refusal is the answer, whatever was to follow
pub weighed_fault : (x : Outcome ℕ) (f : ℕ → Outcome ℕ) {g : Ground} → Err g ≡ weighed_of x → Err g ≡ weighed_of (and_then x f)
weighed_fault (accepted c) f q = cc
weighed_fault (refused n p) f q = q

-- so many bits more than a body's
abbrev plus : ℕ → Outcome ℕ → Outcome ℕ
plus b x = and_then x (λ c. accepted (b + c))

plus_zero : (x : Outcome ℕ) → plus 0 x ≡ x
plus_zero (accepted c) = ap (λ (y : ℕ). accepted y) (zero-add c)
plus_zero (refused n p) = refl

plus_plus : (a b : ℕ) (x : Outcome ℕ) → plus a (plus b x) ≡ plus (a + b) x
plus_plus a b (accepted c) = ap (λ (y : ℕ). accepted y) (sym (add_assoc a b c))
plus_plus a b (refused n p) = refl

instruction_most : (e : ℕ) {b : ℕ} → instruction_length e ≡ accepted b → b ≤ 17
unfolding instruction_length
instruction_most e {b} q = go (entry_fine e) (leb 1 (kind e)) q
  where
    go : (s t : Bool) → demand s 6 (demand t 18 (accepted (entry_length e))) ≡ accepted b → b ≤ 17
    go true true h = let k : entry_length e ≡ b = cc in omega (arith, length_most e)
    go true false h = let z : ◌≡◌ {A = ℕ} 0 1 = cc in absurd (omega arith)
    go false t h = let z : ◌≡◌ {A = ℕ} 0 1 = cc in absurd (omega arith)

-- with i of the instructions judged that are there, and so many bits so far
pub record BodyWalk (rest : List ℕ) (n i bits : ℕ) : Type 0 where
  pub fewer : i ≤ n
  pub inside : i ≤ length rest
  pub most : bits ≤ 17 * i
  pub goes : body_length n rest ≡ plus bits (body_length (n - i) (drop i rest))

pub body_begins : (rest : List ℕ) (n : ℕ) → BodyWalk rest n 0 0
body_begins rest n =
    let z : n - 0 ≡ n = omega arith in
    record { fewer = omega arith; inside = omega arith; most = omega arith; goes = rw z (sym (plus_zero (body_length n rest))) }

-- as far as the instructions are there
module _ {rest : List ℕ} {n i bits due : ℕ} (w : BodyWalk rest n i bits) (d : due ≡ min (length rest) n) where
  all_there : length (take due rest) ≡ due
  all_there = length-take-le due rest (omega arith)

  module _ (end : length (take due rest) ≤ i) where
    pub body_done : n ≤ due → Ok bits ≡ weighed_of (body_length n rest)
    unfolding body_length
    body_done h =
        let e : n - i ≡ 0 = omega (arith, all_there) in
        let z : bits + 0 ≡ bits = omega arith in
        sym (ap weighed_of w.goes ∙ (rw (e, z)))

    pub body_cut : due < n → Err TableShape ≡ weighed_of (body_length n rest)
    unfolding body_length
    body_cut h =
        let k : length rest ≤ i = omega (arith, all_there) in
        let e : n - i ≡ suc (n - suc i) = omega (arith, w.inside) in
        sym (ap weighed_of w.goes ∙ (rw (e, drop_of_length-le rest {i = i} k)))

  module _ {s : Result ℕ Ground} (h : i < length (take due rest)) (q : s ≡ weighed_of (instruction_length (get_or (take due rest) i 0))) where
    abbrev e : ℕ
    e = get_or (take due rest) i 0

    before : i < due
    before = omega (arith, all_there)

    next : drop i rest ≡ e ∷ drop (suc i) rest
    next = drop-cons rest i 0 (omega (arith, before)) ∙ ap (λ (x : ℕ). x ∷ drop (suc i) rest) (sym (get_or-take due rest i 0 before))

    goes_on : body_length n rest ≡ plus bits (body_length (suc (n - suc i)) (e ∷ drop (suc i) rest))
    goes_on =
        let m : n - i ≡ suc (n - suc i) = omega (arith, before) in
        w.goes ∙ ap₂ (λ (x : ℕ) (y : List ℕ). plus bits (body_length x y)) m next

    pub body_fault : {g : Ground} → s ≡ Err g → Err g ≡ weighed_of (body_length n rest)
    unfolding body_length
    body_fault g =
        let f : ℕ → Outcome ℕ = λ b. and_then (body_length (n - suc i) (drop (suc i) rest)) (λ c. accepted (b + c)) in
        weighed_fault (and_then (instruction_length e) f) (λ c. accepted (bits + c)) (weighed_fault (instruction_length e) f (sym g ∙ q)) ∙ sym (ap weighed_of goes_on)

    module _ {more : ℕ} (g : s ≡ Ok more) where
      there : instruction_length e ≡ accepted more
      there = weighed_bits (instruction_length e) (sym g ∙ q)

      pub body_small : n ≤ 255 → Fits w32 (bits + more)
      body_small l = record { fits = omega (arith, w.most, before, instruction_most e there) }

      pub body_on : BodyWalk rest n (i + 1) (bits + more)
      unfolding body_length
      body_on = record {
        fewer = omega (arith, before);
        inside = omega (arith, before);
        most = omega (arith, w.most, instruction_most e there);
        goes = goes_on ∙ (rw (there, add-one i) (plus_plus bits more (body_length (n - suc i) (drop (suc i) rest))));
      }

pub ruleset bodies = (body_begins, body_done, body_cut, body_fault, body_small, body_on)

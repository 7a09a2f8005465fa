-- The grounds against an edit.
use Prim.Native.Nat.{ℕ, zero, suc, ◌≤◌, ◌<◌}
use native.Mathlib.Omega.{arith}
use mathlib.Core.Path.{◌≡◌, refl, sym, ◌∙◌}
use mathlib.Core.Bool.{Bool, true, false, ◌&&◌}
use mathlib.Core.List.{List, []}
use lib.ListN.{length}
use lib.Dec.{leb, ltb}
use borrow.Author.Tests.{lt-leb, le-leb, leb-true, eq-eqb, ne_eqb}
use Rattle.std.specs.Prelude.{Result, Ok, Err, is_err, ⊤}
use Rattle.bits.specs.Choice.{pick}
use Rattle.bits.specs.Refusals.{number_of, ground_of as ground_by}
use Rattle.bits.proofs.Refusals.{Given}
use Rattle.bits.proofs.Answered.{not_refused}
use Rattle.bits.specs.declared.refusal.Ground.{Ground}
use Rattle.bits.specs.declared.refusal.Ground.TheVariants.{NotThere, OnlyOne, FullPart}
use Rattle.bits.proofs.Choice.{both}
use Rattle.tone.specs.Tone.{Pattern, pattern_at}
use Rattle.tone.proofs.Rows.{and_false}
use Rattle.edit_change.specs.declared.Edit.{Edit}
use Rattle.edit_change.specs.declared.Edit.TheVariants.{Replace, Insert, Delete}
use Rattle.edit_change.specs.Change.{in_body, is_there, empties, overfills}
use Rattle.edit_change.specs.Answers.{overdone_of, ground_of, ground_as}
use Rattle.edit_change.proofs.Bodies.{Fits, fits}

-- ---- by the kind of edit

pub in_replace : (ed : Edit) (i n : ℕ) {e : ℕ} → ed ≡ Replace e → ltb i n ≡ in_body ed i n
in_replace ed i n g = rw g refl

pub in_insert : (ed : Edit) (i n : ℕ) {e : ℕ} → ed ≡ Insert e → leb i n ≡ in_body ed i n
in_insert ed i n g = rw g refl

pub in_delete : (ed : Edit) (i n : ℕ) → ed ≡ Delete → ltb i n ≡ in_body ed i n
in_delete ed i n g = rw g refl

pub over_replace : (ed : Edit) (n : ℕ) {e : ℕ} → ed ≡ Replace e → Ok tt ≡ ground_as (overdone_of ed n)
over_replace ed n g = rw g refl

module _ (ed : Edit) (n : ℕ) {e : ℕ} (g : ed ≡ Insert e) where
  pub over_full : n ≡ 255 → Err FullPart ≡ ground_as (overdone_of ed n)
  over_full h = rw (g, eq-eqb n 255 h) refl

  pub over_insert : (n ≡ 255 → ⊥) → Ok tt ≡ ground_as (overdone_of ed n)
  over_insert h = rw (g, ne_eqb n 255 h) refl

module _ (ed : Edit) (n : ℕ) (g : ed ≡ Delete) where
  pub over_only : n ≡ 1 → Err OnlyOne ≡ ground_as (overdone_of ed n)
  over_only h = rw (g, eq-eqb n 1 h) refl

  pub over_delete : (n ≡ 1 → ⊥) → Ok tt ≡ ground_as (overdone_of ed n)
  over_delete h = rw (g, ne_eqb n 1 h) refl

pub ruleset kinds = (in_replace, in_insert, in_delete, over_replace, over_full, over_insert, over_only, over_delete)

pub ground_recall : (ed : Edit) (i n : ℕ) → n < 1 → Err NotThere ≡ ground_as (ground_of ed i n)
ground_recall ed i n h = rw (lt-leb 1 n h) refl

module _ (ed : Edit) (i n : ℕ) {b : Bool} (h : 1 ≤ n) (e : b ≡ in_body ed i n) where
  pub ground_there : {r : Result ⊤ Ground} → b ≡ true → r ≡ ground_as (overdone_of ed n) → r ≡ ground_as (ground_of ed i n)
  ground_there g q = rw (le-leb 1 n h, sym e ∙ g) q

  pub ground_none : b ≡ false → Err NotThere ≡ ground_as (ground_of ed i n)
  ground_none g = rw (le-leb 1 n h, sym e ∙ g) refl

pub ruleset grounds = (ground_recall, ground_there, ground_none)

-- where there is no ground, the instruction named is there, and what is left has 1 to 255 instructions
pub no_ground : (ed : Edit) (i n : ℕ) → n ≤ 255 → ground_of ed i n ≡ 0 → (1 ≤ n) × Fits ed i n
no_ground ed i n h e =
    let g = go (leb 1 n && in_body ed i n) (empties ed n) (overfills ed n) e in
    let a = both (leb 1 n) (in_body ed i n) g.0 in
    let some = leb-true 1 n a.0 in
    (some, fits ed i n some h a.1 g.1 g.2)
  where
    go : (a b c : Bool) → ◌≡◌ {A = ℕ} (pick a (pick b 13 (pick c 14 0)) 12) 0 → (a ≡ true) × (b ≡ false) × (c ≡ false)
    go true true c q = let z : ⊥ = omega arith in absurd z
    go true false true q = let z : ⊥ = omega arith in absurd z
    go true false false q = (refl, refl, refl)
    go false b c q = let z : ⊥ = omega arith in absurd z

-- an edit that overfills a part does not empty it
pub full_keeps : (ed : Edit) (n : ℕ) → overfills ed n ≡ true → empties ed n ≡ false
full_keeps (Replace e) n h = refl
full_keeps (Insert e) n h = refl
full_keeps Delete n h = let z : ◌≡◌ {A = ℕ} 0 1 = cc in absurd (omega arith)

-- a recall has no instruction of its own: no position is there, not even 0 for an insert
pub recall_has_none : (ed : Edit) (k i : ℕ) (ps : List Pattern) → (pattern_at ps k).body ≡ [] → is_there ed k i ps ≡ false
recall_has_none ed k i ps e = rw (e, and_false (ltb k (length ps))) refl

-- ---- what an answer says of the number that it answers

-- an answer that grants has none
pub ground_granted : (n : ℕ) {u : ⊤} → Ok u ≡ ground_as n → n ≡ 0
ground_granted zero e = refl
ground_granted (suc n) e = not_refused e

-- an answer that refuses has that of its ground
pub ground_refused : (n : ℕ) {g : Ground} → ((n ≡ 0 → ⊥) → Given n) → Err g ≡ ground_as n → (n ≡ number_of g) × (n ≡ 0 → ⊥)
ground_refused zero v e = not_refused (sym e)
ground_refused (suc n) {g} v e = let x : g ≡ ground_by (suc n) = cc in (rw x (sym (v (λ z. omega arith))), λ z. omega arith)

-- whether an answer refuses says whether there is one
pub ground_none_is : (n : ℕ) → is_err (ground_as n) ≡ false → n ≡ 0
ground_none_is zero e = refl
ground_none_is (suc n) e = let z : ◌≡◌ {A = ℕ} 0 1 = cc in absurd (omega arith)

pub ground_some : (n : ℕ) → is_err (ground_as n) ≡ true → n ≡ 0 → ⊥
ground_some zero e h = let z : ◌≡◌ {A = ℕ} 0 1 = cc in omega arith
ground_some (suc n) e h = omega arith

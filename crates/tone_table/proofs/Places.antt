-- Every refusal of a table has place 0.
use Prim.Native.Nat.{ℕ}
use mathlib.Core.Path.{◌≡◌, sym}
use mathlib.Core.Bool.{Bool, true, false}
use mathlib.Core.List.{List, [], ◌∷◌}
use lib.Dec.{leb, eqb}
use Rattle.bits.specs.Outcome.{Outcome, accepted, refused, and_then, demand}
use Rattle.bits.proofs.Choice.{pick_elim}
use Rattle.tone.specs.Table.{kind}
use Rattle.tone.specs.Tone.{recallable}
use Rattle.tone_table.specs.Judging.{entry_fine, Stage, start, entry_judged, entries_judged, end_judged, judge_table}
use Rattle.tone_table.proofs.Walks.{not_refused}

-- accepted, or refused at place 0
pub data AtZero {A : Type 0} : Outcome A → Type 0 where
  none : {a : A} → AtZero (accepted a)
  there : {n : ℕ} → AtZero (refused n 0)

pub then_zero : {A B : Type 0} {x : Outcome A} (f : A → Outcome B) → AtZero x → ((a : A) → AtZero (f a)) → AtZero (and_then x f)
then_zero f (none {a = a}) k = k a
then_zero f there k = there

pub demand_zero : {A : Type 0} (b : Bool) (n : ℕ) {x : Outcome A} → AtZero x → AtZero (demand b n x)
demand_zero true n h = h
demand_zero false n h = there

entry_zero : (s : Stage) (e : ℕ) → AtZero (entry_judged s e)
unfolding entry_judged
entry_zero s e =
    demand_zero (entry_fine e) 6
    (pick_elim AtZero (eqb s.due 0)
    (λ _. demand_zero (eqb (kind e) 0) 18 (demand_zero (recallable s.known e) 7 none))
    (λ _. demand_zero (leb 1 (kind e)) 18 none))

entries_zero : (s : Stage) (t : List ℕ) → AtZero (entries_judged s t)
unfolding entries_judged
entries_zero s [] = none
entries_zero s (e ∷ t) = then_zero (λ s'. entries_judged s' t) (entry_zero s e) (λ s'. entries_zero s' t)

pub table_zero : (t : List ℕ) → AtZero (judge_table t)
unfolding judge_table end_judged
table_zero t =
    then_zero end_judged (entries_zero start t)
    (λ s. demand_zero (eqb s.due 0) 18 (demand_zero (leb 1 s.begun) 5 (demand_zero (leb s.begun 255) 18 none)))

pub place_zero : {A : Type 0} {x : Outcome A} {n p : ℕ} → AtZero x → x ≡ refused n p → p ≡ 0
place_zero none q = absurd (not_refused (sym q))
place_zero {p = p} there q = let e : 0 ≡ p = cc in sym e

-- so, where a table is refused
pub table_place : (t : List ℕ) {n p : ℕ} → judge_table t ≡ refused n p → p ≡ 0
table_place t q = place_zero (table_zero t) q

-- The grounds against a table: 5, 6, 7 and 18.
use Prim.Native.Nat.{ℕ, ◌≤◌}
use native.Mathlib.Omega.{arith}
use mathlib.Core.Path.{◌≡◌, refl, subst}
use mathlib.Core.Logic.{◌⊎◌, inl, inr}
use mathlib.Core.Bool.{Bool}
use mathlib.Core.List.{List, [], ◌∷◌}
use lib.Dec.{leb, eqb}
use Rattle.bits.specs.Outcome.{Outcome, accepted, refused, and_then, demand}
use Rattle.bits.proofs.Choice.{pick_elim}
use Rattle.bits.proofs.Refusals.{GivenBy, given_then, given_pick, given_demand}
use Rattle.tone.specs.Table.{kind}
use Rattle.tone.specs.Tone.{recallable}
use Rattle.tone_table.specs.Judging.{entry_fine, Stage, start, entry_judged, entries_judged, end_judged, judge_table}

-- one of these numbers
abbrev pub Ground : ℕ → Type 0
Ground n = ((5 ≤ n) × (n ≤ 7)) ⊎ (n ≡ 18)

-- accepted, or refused on one of them
data Grounded {A : Type 0} : Outcome A → Type 0 where
  none : {a : A} → Grounded (accepted a)
  some : {n p : ℕ} → Ground n → Grounded (refused n p)

then_grounded : {A B : Type 0} {x : Outcome A} (f : A → Outcome B) → Grounded x → ((a : A) → Grounded (f a)) → Grounded (and_then x f)
then_grounded f (none {a = a}) k = k a
then_grounded f (some g) k = some g

demand_grounded : {A : Type 0} (b : Bool) (n : ℕ) {x : Outcome A} → Ground n → Grounded x → Grounded (demand b n x)
demand_grounded b n g h = pick_elim Grounded b (λ _. h) (λ _. some g)

entry_grounded : (s : Stage) (e : ℕ) → Grounded (entry_judged s e)
unfolding entry_judged
entry_grounded s e =
    demand_grounded (entry_fine e) 6 (inl (omega arith, omega arith))
    (pick_elim Grounded (eqb s.due 0)
    (λ _. demand_grounded (eqb (kind e) 0) 18 (inr refl) (demand_grounded (recallable s.known e) 7 (inl (omega arith, omega arith)) none))
    (λ _. demand_grounded (leb 1 (kind e)) 18 (inr refl) none))

entries_grounded : (s : Stage) (t : List ℕ) → Grounded (entries_judged s t)
unfolding entries_judged
entries_grounded s [] = none
entries_grounded s (e ∷ t) = then_grounded (λ s'. entries_judged s' t) (entry_grounded s e) (λ s'. entries_grounded s' t)

table_grounded : (t : List ℕ) → Grounded (judge_table t)
unfolding judge_table end_judged
table_grounded t =
    then_grounded end_judged (entries_grounded start t)
    (λ s. demand_grounded (eqb s.due 0) 18 (inr refl)
    (demand_grounded (leb 1 s.begun) 5 (inl (omega arith, omega arith))
    (demand_grounded (leb s.begun 255) 18 (inr refl) none)))

ground : {A : Type 0} {n p : ℕ} → Grounded {A = A} (refused n p) → Ground n
ground (some g) = g

-- where a table is refused, it is on one of them
pub table_grounds : (t : List ℕ) {n p : ℕ} → judge_table t ≡ refused n p → Ground n
table_grounds t q = ground (subst Grounded q (table_grounded t))

-- ---- each of them is a number of document 01

entry_given : (s : Stage) (e : ℕ) → GivenBy (entry_judged s e)
unfolding entry_judged
entry_given s e =
    given_demand (entry_fine e) 6 _ refl
    (given_pick (eqb s.due 0) _ _
    (given_demand (eqb (kind e) 0) 18 _ refl (given_demand (recallable s.known e) 7 _ refl tt))
    (given_demand (leb 1 (kind e)) 18 _ refl tt))

entries_given : (s : Stage) (t : List ℕ) → GivenBy (entries_judged s t)
unfolding entries_judged
entries_given s [] = tt
entries_given s (e ∷ t) = given_then (entry_judged s e) (λ s'. entries_judged s' t) (entry_given s e) (λ s'. entries_given s' t)

pub table_given : (t : List ℕ) → GivenBy (judge_table t)
unfolding judge_table end_judged
table_given t =
    given_then (entries_judged start t) end_judged (entries_given start t)
    (λ s. given_demand (eqb s.due 0) 18 _ refl
    (given_demand (leb 1 s.begun) 5 _ refl
    (given_demand (leb s.begun 255) 18 _ refl tt)))

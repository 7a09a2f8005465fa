-- What is counted, one pattern more.
use Prim.Native.Nat.{ℕ, ◌+◌, ◌*◌, ◌≤◌}
use native.Mathlib.Omega.{arith}
use native.Mathlib.Nat.{mul-le-mul}
use mathlib.Core.Path.{◌≡◌}
use mathlib.Core.Bool.{true, false}
use lib.Dec.{eqb}
use borrow.Author.Tests.{eq-eqb, ne_eqb}
use Rattle.bits.proofs.Choice.{pick_elim}
use Rattle.list_count.specs.declared.Count.{Count}
use Rattle.list_count.specs.Bodies.{no_mark, passes_of}
use Rattle.list_count.specs.Counting.{mark_of, counted}
use Rattle.list_count.proofs.Bodies.{passes_most}

-- the entries of a pattern
pub notes_times : (k r : ℕ) → k ≤ 255 → r ≤ 15 → k * r ≤ 255 * 15
notes_times k r h l = mul-le-mul h l

pub count_ended : (c : Count) (k v : ℕ) → c.ended ≡ true → c ≡ counted c k v
unfolding counted
count_ended c k v h = rw h

module _ (c : Count) (k v : ℕ) {r : ℕ} (h : c.ended ≡ false) (l : (r ≡ passes_of v) × (1 ≤ r) × (r ≤ 15)) where
  pub count_last : {m : ℕ} → v ≡ 15 → m ≡ mark_of c.entries k → record { entries = c.entries + k * r; mark = m; ended = true } ≡ counted c k v
  unfolding counted
  count_last {m} e f = rw (h, eq-eqb v 15 e, ← f, ← l.0)

  pub count_more : (v ≡ 15 → ⊥) → record { entries = c.entries + k * r; mark = c.mark; ended = false } ≡ counted c k v
  unfolding counted
  count_more e = rw (h, ne_eqb v 15 e, ← l.0)

pub ruleset counts = (count_ended, count_last, count_more)

pub counted_most : (c : Count) (k v : ℕ) → k ≤ 255 → v ≤ 15 → (counted c k v).entries ≤ c.entries + 3825
unfolding counted
counted_most c k v h l =
    let m = notes_times k (passes_of v) h (passes_most v (omega arith)) in
    pick_elim (λ (d : Count). d.entries ≤ c.entries + 3825) c.ended (λ _. omega arith) (λ _.
    pick_elim (λ (d : Count). d.entries ≤ c.entries + 3825) (eqb v 15) (λ _. omega arith) (λ _. omega arith))

-- while listing goes on there is no mark
abbrev pub Unmarked : Count → Type 0
Unmarked c = c.ended ≡ false → c.mark ≡ no_mark

pub counted_unmarked : (c : Count) (k v : ℕ) → Unmarked c → Unmarked (counted c k v)
unfolding counted
counted_unmarked c k v h = pick_elim Unmarked c.ended (λ _. h) (λ e. pick_elim Unmarked (eqb v 15) (λ _ z. absurd (true_false z)) (λ _ _. h e))
  where
    true_false : true ≡ false → ⊥
    true_false z = let y : ◌≡◌ {A = ℕ} 0 1 = cc in omega arith

-- The longest duration.
use Prim.Native.Nat.{ℕ, ◌+◌, ◌-◌, ◌*◌, ◌/◌, ◌^◌, ◌≤◌, ◌<◌}
use native.Mathlib.Omega.{arith}
use native.Mathlib.Nat.{eq-zero-or-pos, div-le_self, div-lt_iff_lt-mul}
use mathlib.Core.Path.{refl}
use mathlib.Core.Logic.{⊎_elim}
use lib.ListN.{get_or-eq_default}
use lib.Dec.{leb, eqb}
use borrow.Author.Tests.{leb-true}
use Rattle.bits.proofs.Choice.{pick_elim}
use Rattle.bits.proofs.Below.{at_each}
use Rattle.list_rules.specs.Duration.{tempos, beats, plain_units, units, microseconds}

-- no tempo is slower than 25 beats a minute
pub slowest : (tempo : ℕ) → tempo < 32 → 25 ≤ beats tempo
unfolding beats
slowest tempo h = leb-true 25 (beats tempo) (at_each (λ k. leb 25 (beats k)) 32 refl tempo h)

-- a number that has beats is a tempo code
beats_known : (tempo : ℕ) → 0 < beats tempo → tempo < 32
unfolding beats
beats_known tempo h = ⊎_elim (λ e. absurd (omega (arith, h, get_or-eq_default tempos 0 {n = tempo} (omega (arith, e))))) (λ l. omega (arith, l)) (eq-zero-or-pos (32 - tempo))

-- no tempo is faster than 900
pub fastest : (tempo : ℕ) → beats tempo ≤ 900
unfolding beats
fastest tempo = ⊎_elim (λ e. omega (arith, e)) (λ h. leb-true (beats tempo) 900 (at_each (λ k. leb (beats k) 900) 32 refl tempo (beats_known tempo h))) (eq-zero-or-pos (beats tempo))

-- a full note is the longest plain one
pub plain_most : (d : ℕ) → plain_units d ≤ 384
plain_most d = div-le_self 384 (2 ^ d)

-- no note has more units than a full one, double dotted
pub units_most : (d s : ℕ) → units d s ≤ 672
unfolding units
units_most d s =
    let h = plain_most d in
    pick_elim (λ (n : ℕ). n ≤ 672) (eqb s 1) (λ _. omega arith) (λ _.
    pick_elim (λ (n : ℕ). n ≤ 672) (eqb s 2) (λ _. omega arith) (λ _.
    pick_elim (λ (n : ℕ). n ≤ 672) (eqb s 3) (λ _. omega arith) (λ _. omega arith)))

-- no duration exceeds 16,800,000 microseconds, whatever fraction below the beats is left over from before it
pub longest_duration : (d s tempo fraction : ℕ) → fraction < beats tempo → microseconds fraction (units d s) (beats tempo) ≤ 16800000
unfolding microseconds
longest_duration d s tempo fraction h =
    let some : 0 < beats tempo = omega arith in
    let u = units_most d s in
    let b = slowest tempo (beats_known tempo some) in
    let l : (fraction + units d s * 625000) / beats tempo < 16800001 = (div-lt_iff_lt-mul some).1 (omega arith) in
    omega arith

-- Instructions that are told one by one add up.
use Prim.Native.Nat.{ℕ, zero, suc, ◌+◌, ◌-◌, ◌*◌, ◌≤◌, ◌<◌}
use native.Mathlib.Omega.{arith}
use mathlib.Core.Path.{◌≡◌, refl, sym, ap, subst, ◌∙◌}
use Rattle.tone_tell.specs.declared.Told.{Told}
use Rattle.tone_tell.specs.Telling.{bits_on, note_on, fault_on, behind, over}
use Rattle.tone_tell.specs.Answers.{ToldOf}

-- with `left` of n instructions still on top, what was told and what is left come to what is due of all
pub record Counted (n x : ℕ) (t : Told) (left : ℕ) : Type 0 where
  pub bits : over bits_on n x ≡ t.bits + over bits_on left t.rest
  pub notes : over note_on n x ≡ t.notes + over note_on left t.rest
  pub faults : over fault_on n x ≡ t.faults + over fault_on left t.rest
  pub fewer : left ≤ n
  pub most_bits : t.bits + 63 * left ≤ 63 * n
  pub most_notes : t.notes + left ≤ n
  pub most_faults : t.faults + left ≤ n

pub counted_begin : (n x : ℕ) {t : Told} → (t.rest ≡ x) × (t.bits ≡ 0) × (t.notes ≡ 0) × (t.faults ≡ 0) → Counted n x t n
counted_begin n x {t} e = record {
  bits = same bits_on ∙ ap (λ (k : ℕ). k + over bits_on n t.rest) (sym e.1);
  notes = same note_on ∙ ap (λ (k : ℕ). k + over note_on n t.rest) (sym e.2);
  faults = same fault_on ∙ ap (λ (k : ℕ). k + over fault_on n t.rest) (sym e.3);
  fewer = omega arith;
  most_bits = omega (arith, e.1);
  most_notes = omega (arith, e.2);
  most_faults = omega (arith, e.3);
}
  where
    same : (f : ℕ → ℕ) → over f n x ≡ 0 + over f n t.rest
    same f = ap (over f n) (sym e.0) ∙ omega arith

-- one instruction more
one_less : (f : ℕ → ℕ) (left y : ℕ) {y' : ℕ} → 0 < left → y' ≡ behind y → over f left y ≡ f y + over f (left - 1) y'
one_less f zero y h e = absurd (omega arith)
one_less f (suc k) y h e = let z : suc k - 1 ≡ k = omega arith in rw (z, e) refl

pub counted_on_lem : {n x : ℕ} {t : Told} {left : ℕ} {r : Told} → Counted n x t left → 0 < left
    → (r.rest ≡ behind t.rest) × (r.bits ≡ t.bits + bits_on t.rest) × (r.notes ≡ t.notes + note_on t.rest) × (r.faults ≡ t.faults + fault_on t.rest)
    → (r.bits ≤ t.bits + 63) × (r.notes ≤ t.notes + 1) × (r.faults ≤ t.faults + 1) → Counted n x r (left - 1)
counted_on_lem {t = t} {left = left} {r = r} c h e l =
    let b = one_less bits_on left t.rest h e.0 in
    let n = one_less note_on left t.rest h e.0 in
    let f = one_less fault_on left t.rest h e.0 in
    record {
      bits = omega (arith, c.bits, b, e.1);
      notes = omega (arith, c.notes, n, e.2);
      faults = omega (arith, c.faults, f, e.3);
      fewer = omega (arith, c.fewer);
      most_bits = omega (arith, c.most_bits, l.0);
      most_notes = omega (arith, c.most_notes, l.1);
      most_faults = omega (arith, c.most_faults, l.2);
    }

pub counted_end : {n x : ℕ} {t : Told} {left : ℕ} → Counted n x t left → left ≤ 0 → ToldOf n x t
counted_end {t = t} {left = left} c h =
    let z : left ≡ 0 = omega arith in
    let none : (f : ℕ → ℕ) → over f left t.rest ≡ 0 = λ f. ap (λ (k : ℕ). over f k t.rest) z in
    record {
      bits = omega (arith, c.bits, none bits_on);
      notes = omega (arith, c.notes, none note_on);
      faults = omega (arith, c.faults, none fault_on);
      most = omega (arith, c.most_bits);
    }

-- what the next one may add
module _ {n x : ℕ} {t : Told} {left : ℕ} (c : Counted n x t left) (h : 0 < left) (k : n ≤ 4) where
  pub room_bits : t.bits ≤ 189
  room_bits = omega (arith, c.most_bits)

  pub room_notes : t.notes ≤ 3
  room_notes = omega (arith, c.most_notes)

  pub room_faults : t.faults ≤ 3
  room_faults = omega (arith, c.most_faults)

-- the same, where those that are told are counted
pub counts_on : {n x : ℕ} {t : Told} {i : ℕ} {r : Told} → Counted n x t (n - i) → i < n
    → (r.rest ≡ behind t.rest) × (r.bits ≡ t.bits + bits_on t.rest) × (r.notes ≡ t.notes + note_on t.rest) × (r.faults ≡ t.faults + fault_on t.rest)
    → (r.bits ≤ t.bits + 63) × (r.notes ≤ t.notes + 1) × (r.faults ≤ t.faults + 1) → Counted n x r (n - (i + 1))
counts_on {n} {x} {i = i} {r} c h e l = let z : n - i - 1 ≡ n - (i + 1) = omega arith in subst (Counted n x r) z (counted_on_lem c (omega arith) e l)

pub ruleset counting = (counted_begin, counts_on, counted_end, room_bits, room_notes, room_faults)

-- four are as many as are due
pub as_due : (x : ℕ) {n : ℕ} {r : Told} → n ≡ 4 → ToldOf 4 x r → ToldOf n x r
as_due x e t = record { bits = rw e t.bits; notes = rw e t.notes; faults = rw e t.faults; most = rw e t.most }

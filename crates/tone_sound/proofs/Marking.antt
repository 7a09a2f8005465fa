-- What one instruction is told by: its mark and its width, shown by tests that are computed.
use Prim.Native.Nat.{ℕ, suc, ◌*◌, ◌/◌, ◌%◌, ◌^◌, ◌≤◌, ◌<◌}
use native.Mathlib.Omega.{arith}
use native.Mathlib.Nat.{mod-lt, eq-or-lt_of_le}
use mathlib.Core.Path.{◌≡◌, refl, ap, ◌∙◌}
use mathlib.Core.Bool.{Bool, true, false}
use mathlib.Core.Logic.{◌⊎◌, inl, inr}
use mathlib.Core.List.{List}
use lib.ListN.{get_or}
use lib.Dec.{leb, eqb, lit<}
use lib.Bits.{bit_or}
use borrow.Author.Tests.{leb-true, eqb-true}
use Rattle.bits.specs.Choice.{pick}
use Rattle.bits.proofs.Below.{passes, at_each, same_each}
use Rattle.tone_tell.specs.Telling.{begins}
use Rattle.tone_sound.specs.Turning.{turn, clear, Mark, Marks, mark_of, mark_in, packed, wide_in, width_in, onward}

-- ---- marks

-- a row that passes the test has the mark of each nine bits
pub marks_are : {row : List ℕ} → passes (λ z. eqb (get_or row z 0) (mark_of z)) 512 ≡ true → Marks row
marks_are {row} h = record { each = same_each (λ z. get_or row z 0) mark_of 512 h }

mark_either : (b : Bool) → Mark (pick b clear 49)
mark_either true = (omega arith, omega arith)
mark_either false = (omega arith, omega arith)

mark_there : (z : ℕ) → Mark (mark_of z)
unfolding mark_of
mark_there z = mark_either (begins (2 * z))

pub mark_in_lem : (y : ℕ) → Mark (mark_in y)
unfolding mark_in
mark_in_lem y = mark_there (turn 3 y % 512)

-- one mark or the other
which : {v : ℕ} → Mark v → (v ≡ 48) ⊎ (v ≡ 49)
which {v} m = go (eq-or-lt_of_le m.1)
  where
    go : (v ≡ 49) ⊎ (v < 49) → (v ≡ 48) ⊎ (v ≡ 49)
    go (inl e) = inr e
    go (inr l) = inl (omega (arith, m.0, l))

-- marks put together are a mark, which is clear only where both are
pub marks_together : {a b : ℕ} → Mark a → Mark b → Mark (bit_or a b) × (bit_or a b ≡ clear → (a ≡ clear) × (b ≡ clear))
marks_together {a} {b} ma mb = go (which ma) (which mb)
  where
    go : (a ≡ 48) ⊎ (a ≡ 49) → (b ≡ 48) ⊎ (b ≡ 49) → Mark (bit_or a b) × (bit_or a b ≡ clear → (a ≡ clear) × (b ≡ clear))
    go (inl e) (inl f) = rw (e, f) ((omega arith, omega arith), λ _. (refl, refl))
    go (inl e) (inr f) = rw (e, f) ((omega arith, omega arith), λ z. absurd (omega (arith, z)))
    go (inr e) (inl f) = rw (e, f) ((omega arith, omega arith), λ z. absurd (omega (arith, z)))
    go (inr e) (inr f) = rw (e, f) ((omega arith, omega arith), λ z. absurd (omega (arith, z)))

-- ---- widths

-- what holds of the packed number for each of the eight kinds
each_kind : (f : ℕ → Bool) → passes f 8 ≡ true → (y : ℕ) → f (y / 8 % 8) ≡ true
each_kind f h y = at_each f 8 h (y / 8 % 8) (omega arith)

pub width_least : (y : ℕ) → 1 ≤ packed (y / 8 % 8) % 64
width_least y = leb-true 1 (packed (y / 8 % 8) % 64) (each_kind (λ k. leb 1 (packed k % 64)) refl y)

pub wide_most : (y : ℕ) → packed (y / 8 % 8) < 2 ^ 62
wide_most y = leb-true (suc (packed (y / 8 % 8))) (2 ^ 62) (each_kind (λ k. leb (suc (packed k)) (2 ^ 62)) refl y)

-- its lowest octet is the width
pub wide_octet : (y : ℕ) → wide_in y % 256 ≡ width_in y
unfolding wide_in
wide_octet y = eqb-true (packed (y / 8 % 8) % 256) (packed (y / 8 % 8) % 64) (each_kind (λ k. eqb (packed k % 256) (packed k % 64)) refl y)

-- ---- what `next` answers

module _ (y : ℕ) (row : List ℕ) (m : Marks row) {r : ℕ} (e : r ≡ turn 3 y) where
  mark_looked_up : get_or row (r % 512) 0 ≡ mark_in y
  unfolding mark_in
  mark_looked_up = m.each (r % 512) (mod-lt r (lit< tt)) ∙ ap (λ (u : ℕ). mark_of (u % 512)) e

  pub next_marks : (t : ℕ) → bit_or t (get_or row (r % 512) 0) ≡ bit_or t (mark_in y)
  next_marks t = ap (bit_or t) mark_looked_up

  pub next_mark : {t : ℕ} → Mark t → Mark (bit_or t (get_or row (r % 512) 0))
  next_mark {t} h = rw mark_looked_up (marks_together h (mark_in_lem y)).0

pub next_bits : (y : ℕ) {r w : ℕ} → w ≡ wide_in y → r ≡ turn (w % 64) y → r ≡ onward y
unfolding onward
next_bits y f e = e ∙ ap (λ (w : ℕ). turn (w % 64) y) f

-- what `wide` answers
pub wide_said : (y : ℕ) → packed (y / 8 % 8) ≡ wide_in y
unfolding wide_in
wide_said y = refl

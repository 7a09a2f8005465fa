-- The packed numbers hold what the rules say, shown by tests that are computed.
use Prim.Native.Nat.{ℕ, ◌+◌, ◌*◌, ◌/◌, ◌%◌, ◌^◌, ◌≤◌, ◌<◌}
use native.Mathlib.Omega.{arith}
use mathlib.Core.Path.{◌≡◌, refl, sym, ap, ◌∙◌}
use mathlib.Core.Bool.{Bool, true, false}
use mir.Val.{bool_byte}
use lib.ListN.{get_or, get_or-eq_default}
use lib.Dec.{leb, eqb}
use borrow.Author.Tests.{leb-true, eqb-true}
use Rattle.bits.specs.Choice.{pick}
use Rattle.bits.proofs.Below.{at_each, same_each, NoneBelow, none_below}
use Rattle.tone_tell.specs.declared.Told.{Told}
use Rattle.tone_tell.specs.Answers.{ToldOf, NotesAlone, Sure}
use Rattle.tone_tell.specs.Telling.{kind_on, kind_bits, bits_on, note_on, begins, fault_on, fault_rows, behind, over}

-- eight octets of widths, by the eight kinds
pub bits_packed : (x : ℕ) → x < 2 ^ 64 → 0x3F3F070805050C3F / 2 ^ (8 * (x / 2 ^ 61)) % 64 ≡ bits_on x
unfolding bits_on
bits_packed x h = same_each (λ k. 0x3F3F070805050C3F / 2 ^ (8 * k) % 64) (λ k. get_or kind_bits k 0) 8 refl (x / 2 ^ 61) (omega arith)

-- the mark of each of the 1,024 numbers of ten bits
marks : (z : ℕ) → z < 1024 → get_or fault_rows (z / 128) 0 / 2 ^ (z / 2 % 64) % 2 ≡ pick (begins z) 0 1
marks = same_each (λ z. get_or fault_rows (z / 128) 0 / 2 ^ (z / 2 % 64) % 2) (λ z. pick (begins z) 0 1) 1024 refl

pub faults_packed : (x : ℕ) {row : ℕ} → x < 2 ^ 64 → row ≡ get_or fault_rows (x / 2 ^ 61) 0 → row / 2 ^ (x / 2 ^ 55 % 64) % 2 ≡ fault_on x
unfolding fault_on
faults_packed x h e =
    let z : ℕ = x / 2 ^ 54 in
    let a : x / 2 ^ 61 ≡ z / 128 = omega arith in
    let b : x / 2 ^ 55 % 64 ≡ z / 2 % 64 = omega arith in
    rw (e, a, b) (marks z (omega arith))

-- a test as a number
pub note_number : (x : ℕ) → bool_byte (eqb (x / 2 ^ 61) 1) ≡ note_on x
unfolding note_on
note_number x = go (eqb (x / 2 ^ 61) 1)
  where
    go : (b : Bool) → bool_byte b ≡ pick b 1 0
    go true = refl
    go false = refl

pub note_small : (b : Bool) → bool_byte b ≤ 1
note_small true = omega arith
note_small false = omega arith

-- behind the last kind there is no row
pub no_row : {k : ℕ} → NoneBelow 8 k → 0 ≡ get_or fault_rows k 0
no_row {k} r = sym (get_or-eq_default fault_rows 0 {n = k} (none_below 8 r))

-- what is left
pub taken_away : (x : ℕ) {w : ℕ} → w ≡ bits_on x → x * 2 ^ w % 2 ^ 64 ≡ behind x
unfolding behind
taken_away x e = ap (λ (w : ℕ). x * 2 ^ w % 2 ^ 64) e

-- one after the other, four numbers add up
four_over : (f : ℕ → ℕ) (x : ℕ) {x₀ x₁ x₂ x₃ z a b c d : ℕ} → x₀ ≡ x → x₁ ≡ behind x₀ → x₂ ≡ behind x₁ → x₃ ≡ behind x₂
    → z ≡ 0 → a ≡ z + f x₀ → b ≡ a + f x₁ → c ≡ b + f x₂ → d ≡ c + f x₃ → d ≡ over f 4 x
four_over f x e₀ e₁ e₂ e₃ z a b c d =
    let g₀ = ap f e₀ in
    let h₁ = e₁ ∙ ap behind e₀ in
    let g₁ = ap f h₁ in
    let h₂ = e₂ ∙ ap behind h₁ in
    let g₂ = ap f h₂ in
    let g₃ = ap f (e₃ ∙ ap behind h₂) in
    omega (arith, g₀, g₁, g₂, g₃)

-- what taking one more away leaves
abbrev Next : Told → Told → Type 0
Next t r = (r.rest ≡ behind t.rest) × (r.bits ≡ t.bits + bits_on t.rest) × (r.notes ≡ t.notes + note_on t.rest) × (r.faults ≡ t.faults + fault_on t.rest)

pub four_told : (x : ℕ) {t₀ t₁ t₂ t₃ t₄ : Told} → (t₀.rest ≡ x) × (t₀.bits ≡ 0) × (t₀.notes ≡ 0) × (t₀.faults ≡ 0) → Next t₀ t₁ → Next t₁ t₂ → Next t₂ t₃ → Next t₃ t₄ → t₄.bits ≤ 252 → ToldOf 4 x t₄
four_told x b a₁ a₂ a₃ a₄ l = record {
  bits = four_over bits_on x b.0 a₁.0 a₂.0 a₃.0 b.1 a₁.1 a₂.1 a₃.1 a₄.1;
  notes = four_over note_on x b.0 a₁.0 a₂.0 a₃.0 b.2 a₁.2 a₂.2 a₃.2 a₄.2;
  faults = four_over fault_on x b.0 a₁.0 a₂.0 a₃.0 b.3 a₁.3 a₂.3 a₃.3 a₄.3;
  most = l;
}

-- every kind takes five bits or more
pub bits_least : (x : ℕ) → x < 2 ^ 64 → 5 ≤ bits_on x
unfolding bits_on
bits_least x h = leb-true 5 (get_or kind_bits (x / 2 ^ 61) 0) (at_each (λ k. leb 5 (get_or kind_bits k 0)) 8 refl (x / 2 ^ 61) (omega arith))

-- ---- four notes

-- 1 says that it is a note
is_note_lem : (x : ℕ) {n : ℕ} → n ≡ note_on x → 1 ≤ n → kind_on x ≡ 1
unfolding note_on
is_note_lem x {n} e h = go (eqb (kind_on x) 1) refl
  where
    go : (b : Bool) → eqb (kind_on x) 1 ≡ b → kind_on x ≡ 1
    go true q = eqb-true (kind_on x) 1 q
    go false q = let z : n ≡ 0 = e ∙ ap (λ (b : Bool). pick b 1 0) q in absurd (omega arith)

-- four that add up to four are each 1
pub all_notes : (x : ℕ) {a b c d : ℕ} → (a ≡ note_on x) × (a ≤ 1) → (b ≡ note_on (x * 2 ^ 12 % 2 ^ 64)) × (b ≤ 1) → (c ≡ note_on (x * 2 ^ 24 % 2 ^ 64)) × (c ≤ 1) → (d ≡ note_on (x * 2 ^ 36 % 2 ^ 64)) × (d ≤ 1)
    → Sure (eqb (a + b + c + d) 4) (NotesAlone x)
all_notes x {a} {b} {c} {d} ea eb ec ed = record {
  holds = λ h.
      let s : a + b + c + d ≡ 4 = eqb-true (a + b + c + d) 4 h in
      record {
        first = is_note_lem x ea.0 (omega (arith, ea.1, eb.1, ec.1, ed.1));
        second = is_note_lem (x * 2 ^ 12 % 2 ^ 64) eb.0 (omega (arith, ea.1, eb.1, ec.1, ed.1));
        third = is_note_lem (x * 2 ^ 24 % 2 ^ 64) ec.0 (omega (arith, ea.1, eb.1, ec.1, ed.1));
        fourth = is_note_lem (x * 2 ^ 36 % 2 ^ 64) ed.0 (omega (arith, ea.1, eb.1, ec.1, ed.1));
      };
}

-- a note has twelve bits, and counts for one
note_bits : (x : ℕ) → kind_on x ≡ 1 → bits_on x ≡ 12
unfolding bits_on
note_bits x k = rw k refl

note_one : (x : ℕ) → kind_on x ≡ 1 → note_on x ≡ 1
unfolding note_on
note_one x k = rw k refl

behind_note : (x : ℕ) → kind_on x ≡ 1 → behind x ≡ x * 2 ^ 12 % 2 ^ 64
unfolding behind
behind_note x k = ap (λ (w : ℕ). x * 2 ^ w % 2 ^ 64) (note_bits x k)

-- so four of them are told at once
pub notes_told : (x : ℕ) {t : Told} {a b c d : ℕ} → NotesAlone x → (a ≡ fault_on x) × (a ≤ 1) → (b ≡ fault_on (x * 2 ^ 12 % 2 ^ 64)) × (b ≤ 1) → (c ≡ fault_on (x * 2 ^ 24 % 2 ^ 64)) × (c ≤ 1) → (d ≡ fault_on (x * 2 ^ 36 % 2 ^ 64)) × (d ≤ 1)
    → t.bits ≡ 48 → t.notes ≡ 4 → t.faults ≡ a + b + c + d → ToldOf 4 x t
notes_told x {t} n ea eb ec ed eBits eNotes eFaults =
    let h₁ : behind x ≡ x * 2 ^ 12 % 2 ^ 64 = behind_note x n.first in
    let k₁ : kind_on (behind x) ≡ 1 = ap kind_on h₁ ∙ n.second in
    let s₂ : x * 2 ^ 12 % 2 ^ 64 * 2 ^ 12 % 2 ^ 64 ≡ x * 2 ^ 24 % 2 ^ 64 = omega arith in
    let h₂ : behind (behind x) ≡ x * 2 ^ 24 % 2 ^ 64 = behind_note (behind x) k₁ ∙ ap (λ (y : ℕ). y * 2 ^ 12 % 2 ^ 64) h₁ ∙ s₂ in
    let k₂ : kind_on (behind (behind x)) ≡ 1 = ap kind_on h₂ ∙ n.third in
    let s₃ : x * 2 ^ 24 % 2 ^ 64 * 2 ^ 12 % 2 ^ 64 ≡ x * 2 ^ 36 % 2 ^ 64 = omega arith in
    let h₃ : behind (behind (behind x)) ≡ x * 2 ^ 36 % 2 ^ 64 = behind_note (behind (behind x)) k₂ ∙ ap (λ (y : ℕ). y * 2 ^ 12 % 2 ^ 64) h₂ ∙ s₃ in
    let k₃ : kind_on (behind (behind (behind x))) ≡ 1 = ap kind_on h₃ ∙ n.fourth in
    let f₁ = ap fault_on h₁ in
    let f₂ = ap fault_on h₂ in
    let f₃ = ap fault_on h₃ in
    record {
      bits = omega (arith, eBits, note_bits x n.first, note_bits (behind x) k₁, note_bits (behind (behind x)) k₂, note_bits (behind (behind (behind x))) k₃);
      notes = omega (arith, eNotes, note_one x n.first, note_one (behind x) k₁, note_one (behind (behind x)) k₂, note_one (behind (behind (behind x))) k₃);
      faults = omega (arith, eFaults, ea.0, eb.0, ec.0, ed.0, f₁, f₂, f₃);
      most = omega (arith, eBits);
    }

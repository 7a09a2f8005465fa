-- The instruction table of document 01, row by row: the bits of each instruction, and which codes are allowed.
use Prim.Native.Nat.{ℕ, ◌+◌, ◌*◌, ◌≤◌, ◌<◌}
use native.Mathlib.Omega.{arith}
use mathlib.Core.Path.{◌≡◌, refl, ap, ◌∙◌}
use mathlib.Core.Logic.{◌↔◌}
use mathlib.Core.Bool.{Bool, true}
use mathlib.Core.List.{List, ◌++◌}
use lib.Dec.{leb}
use borrow.Author.Tests.{le-leb, leb-true, ne_eqb}
use Rattle.bits.specs.Bits.{bits_n}
use Rattle.bits.proofs.Numbers.{bits_append}
use Rattle.bits.proofs.Choice.{both}
use Rattle.tone.specs.Table.{entry, kind, payload, width, note_of, duration_of, allowed, InTable}
use Rattle.tone.specs.Writing.{entry_bits}

-- an entry of kind k with payload p, below 65,536, is its id and that kind's bits
pub entry_bits_lem : (k p w : ℕ) → width k ≡ w → p < 65536 → entry_bits (entry k p) ≡ bits_n 3 k ++ bits_n w p
unfolding entry_bits
entry_bits_lem k p w e h =
    let a : kind (entry k p) ≡ k = omega arith in
    let b : payload (entry k p) ≡ p = omega arith in
    rw (a, b, e) refl

-- a note: id 001, note 4 bits, duration 3, specifier 2
pub note_bits : (n d s : ℕ) → n < 16 → d < 8 → s < 4 → entry_bits (entry 1 (n * 32 + d * 4 + s)) ≡ bits_n 3 1 ++ (bits_n 4 n ++ (bits_n 3 d ++ bits_n 2 s))
unfolding width
note_bits n d s hn hd hs =
    let e : n * 32 + d * 4 + s ≡ n * 32 + (d * 4 + s) = omega arith in
    entry_bits_lem 1 (n * 32 + d * 4 + s) 9 refl (omega arith)
    ∙ ap (λ (x : List Bool). bits_n 3 1 ++ x) (ap (bits_n 9) e ∙ bits_append 4 n 5 (d * 4 + s) hn (omega arith) ∙ ap (λ (x : List Bool). bits_n 4 n ++ x) (bits_append 3 d 2 s hd hs))

-- scale 010 and style 011 have 2 bits, tempo 100 has 5, volume 101 has 4
pub scale_bits : (v : ℕ) → v < 4 → entry_bits (entry 2 v) ≡ bits_n 3 2 ++ bits_n 2 v
unfolding width
scale_bits v h = entry_bits_lem 2 v 2 refl (omega arith)

pub style_bits : (v : ℕ) → v < 4 → entry_bits (entry 3 v) ≡ bits_n 3 3 ++ bits_n 2 v
unfolding width
style_bits v h = entry_bits_lem 3 v 2 refl (omega arith)

pub tempo_bits : (v : ℕ) → v < 32 → entry_bits (entry 4 v) ≡ bits_n 3 4 ++ bits_n 5 v
unfolding width
tempo_bits v h = entry_bits_lem 4 v 5 refl (omega arith)

pub volume_bits : (v : ℕ) → v < 16 → entry_bits (entry 5 v) ≡ bits_n 3 5 ++ bits_n 4 v
unfolding width
volume_bits v h = entry_bits_lem 5 v 4 refl (omega arith)

-- a header: id 000, pattern id 2 bits, loop 4, specifier 8
pub header_bits : (i l s : ℕ) → i < 4 → l < 16 → s < 256 → entry_bits (i * 4096 + l * 256 + s) ≡ bits_n 3 0 ++ (bits_n 2 i ++ (bits_n 4 l ++ bits_n 8 s))
unfolding width
header_bits i l s hi hl hs =
    let z : i * 4096 + l * 256 + s ≡ entry 0 (i * 4096 + (l * 256 + s)) = omega arith in
    ap entry_bits z ∙ entry_bits_lem 0 (i * 4096 + (l * 256 + s)) 14 refl (omega arith)
    ∙ ap (λ (x : List Bool). bits_n 3 0 ++ x) (bits_append 2 i 12 (l * 256 + s) hi (omega arith) ∙ ap (λ (x : List Bool). bits_n 2 i ++ x) (bits_append 4 l 8 s hl hs))

-- ---- which codes are allowed

-- note 0 to 12 and duration 0 to 5
pub note_allowed : (n d s : ℕ) → d < 8 → s < 4 → (allowed 1 (n * 32 + d * 4 + s) ≡ true) ↔ ((n ≤ 12) × (d ≤ 5))
unfolding allowed
note_allowed n d s hd hs =
    let a : note_of (n * 32 + d * 4 + s) ≡ n = omega arith in
    let b : duration_of (n * 32 + d * 4 + s) ≡ d = omega arith in (
      λ h. let k = both (leb (note_of (n * 32 + d * 4 + s)) 12) (leb (duration_of (n * 32 + d * 4 + s)) 5) h in
          (rw a at (leb-true (note_of (n * 32 + d * 4 + s)) 12 k.0), rw b at (leb-true (duration_of (n * 32 + d * 4 + s)) 5 k.1)),
      λ h. rw (a, b, le-leb n 12 h.0, le-leb d 5 h.1) refl,
    )

-- style 0 natural, 1 continuous, 2 staccato
pub style_allowed : (v : ℕ) → (allowed 3 v ≡ true) ↔ (v ≤ 2)
unfolding allowed
style_allowed v = (λ h. leb-true v 2 h, λ h. le-leb v 2 h)

-- every code of a header, a scale, a tempo and a volume
pub others_allowed : (k v : ℕ) → (k ≡ 1 → ⊥) → (k ≡ 3 → ⊥) → allowed k v ≡ true
unfolding allowed
others_allowed k v h l = rw (ne_eqb k 1 h, ne_eqb k 3 l) refl

-- every header of 14 bits is an entry of the table
pub header_in_table : (h : ℕ) → h < 16384 → InTable h
unfolding width allowed
header_in_table h k =
    let z : kind h ≡ 0 = omega arith in
    record { known = omega arith; fits = rw z (omega arith); code = rw z refl }

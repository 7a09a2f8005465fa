-- The loops that count: eight octets a turn, and one octet a turn.
use Prim.Native.Nat.{ℕ, ◌+◌, ◌-◌, ◌*◌, ◌/◌, ◌%◌, ◌≤◌, ◌<◌}
use native.Mathlib.Omega.{arith}
use mathlib.Core.Path.{◌≡◌, refl, sym, ap, ap₂, ◌∙◌}
use mathlib.Core.List.{List}
use lib.ListN.{length, get_or, take, drop, drop_of_length-le, take-append-drop}
use lib.Count.{ones}
use Rattle.bits.proofs.Octets.{rest}
use Rattle.bitmap.specs.Image.{ones_of}
use Rattle.bitmap.proofs.Ones.{ones_append, ones_take, ones_drop}

-- ---- eight octets a turn

-- the ones of the first k eights are counted
pub record Eights (s : List ℕ) (n k : ℕ) : Type 0 where
  pub counted : n ≡ ones_of (take (8 * k) s)
  pub most : n ≤ 64 * k

pub eights_begin : (s : List ℕ) → Eights s 0 0
unfolding ones_of
eights_begin s = record { counted = refl; most = omega arith }

pub eights_turn : {s : List ℕ} {n k j : ℕ} → Eights s n k → (j ≡ ones_of (take 8 (drop (8 * k) s))) × (j ≤ 64) → Eights s (n + j) (k + 1)
eights_turn {s} {n} {k} {j} t e =
    let z : 8 * (k + 1) ≡ 8 * k + 8 = omega arith in
    record {
      counted = ap₂ (λ (a b : ℕ). a + b) t.counted e.0 ∙ sym (ones_take (8 * k) 8 s) ∙ ap (λ (i : ℕ). ones_of (take i s)) (sym z);
      most = omega (arith, t.most, e.1);
    }

pub eights_end : {s : List ℕ} {n k : ℕ} → Eights s n k → k ≡ length s / 8 → n ≡ ones_of (take (length s - length s % 8) s)
eights_end {s} {n} {k} t h =
    let e : 8 * k ≡ length s - length s % 8 = omega arith in
    t.counted ∙ ap (λ (i : ℕ). ones_of (take i s)) e

pub eights_small : {s : List ℕ} {n k : ℕ} → Eights s n k → k ≤ length s / 8 → length s ≤ 65536 → n ≤ 524288
eights_small t h l = omega (arith, t.most)

pub ruleset eights = (eights_begin, eights_turn, eights_end, eights_small)

-- ---- one octet a turn

-- the ones of the first i octets are counted
pub record Octetwise (s : List ℕ) (n i : ℕ) : Type 0 where
  pub counted : n + ones_of (drop i s) ≡ ones_of s
  pub most : n ≤ 8 * i

pub octets_begin : (s : List ℕ) → Octetwise s 0 0
octets_begin s = record { counted = omega arith; most = omega arith }

pub octets_turn : {s : List ℕ} {n i k : ℕ} → Octetwise s n i → i < length s → (k ≡ ones (get_or s i 0)) × (k ≤ 8) → Octetwise s (n + k) (i + 1)
octets_turn {s} {n} {i} {k} t h e =
    let d : ones_of (drop i s) ≡ k + ones_of (drop (i + 1) s) = ones_drop i s h ∙ ap (λ (a : ℕ). a + ones_of (drop (i + 1) s)) (sym e.0) in
    record { counted = omega (arith, t.counted); most = omega (arith, t.most, e.1) }

pub octets_end : {s : List ℕ} {n i : ℕ} → Octetwise s n i → length s ≤ i → n ≡ ones_of s
unfolding ones_of
octets_end {s} {n} {i} t h =
    let z : ones_of (drop i s) ≡ 0 = ap ones_of (drop_of_length-le s h) in
    omega (arith, t.counted)

pub octets_small : {s : List ℕ} {n i : ℕ} → Octetwise s n i → i ≤ length s → length s ≤ 65536 → n ≤ 524288
octets_small t h l = omega (arith, t.most)

pub ruleset octetwise = (octets_begin, octets_turn, octets_end, octets_small)

-- ---- both

-- the ones of the eights and of the few octets behind them are all of them
pub counted_all : (s : List ℕ) {a b k : ℕ} → k ≡ length s - length s % 8 → (a ≡ ones_of (take (length s - length s % 8) s)) × (a ≤ 524288)
    → (b ≡ ones_of (take (length s - k) (drop k s))) × (b ≤ 524288) → a + b ≡ ones_of s
counted_all s {a} {b} {k} h e f =
    let i : ℕ = length s - length s % 8 in
    let g : b ≡ ones_of (drop i s) = f.0 ∙ ap ones_of (rest k s ∙ ap (λ (j : ℕ). drop j s) h) in
    ap₂ (λ (m n : ℕ). m + n) e.0 g ∙ sym (ones_append (take i s) (drop i s)) ∙ ap ones_of (take-append-drop i s)

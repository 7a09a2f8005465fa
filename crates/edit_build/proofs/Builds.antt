-- Building a message anew from bits of the old one.
use Prim.Native.Nat.{ℕ, ◌+◌, ◌-◌, ◌*◌, ◌^◌, ◌≤◌, ◌<◌}
use native.Mathlib.Omega.{arith}
use mathlib.Core.Path.{◌≡◌, sym, ap, ap₂, ◌∙◌}
use mathlib.Core.Bool.{Bool}
use mathlib.Core.List.{List, ◌++◌, append-nil}
use lib.ListN.{length, get_or, take, drop, length-append, length-drop, take-append-drop}
use lib.Seq.{take-add, take_at, length-take-le}
use mir.Val.{Fits}
use mir.Syntax.{w8}
use Rattle.bits.specs.Bits.{bits_n, bits_of, place_after, octets_to, octets_before}
use Rattle.bits.specs.Lent.{over}
use Rattle.bits.specs.Sink.{written, InHand, Put, Sealed}
use Rattle.bits.proofs.Numbers.{length_bits}
use Rattle.bits.proofs.Octets.{length_bits_of, bits_of_append, octets_of_lem, octets_take}
use Rattle.tone.specs.Writing.{end_bits}
use Rattle.edit_build.specs.Anew.{Begun, Built, headed, reached, pieced, joined}

-- ---- the front

take_bits_of : (i : ℕ) (m : List ℕ) → i ≤ length m → take (8 * i) (bits_of m) ≡ bits_of (take i m)
take_bits_of i m h =
    let e : bits_of m ≡ bits_of (take i m) ++ bits_of (drop i m) = ap bits_of (sym (take-append-drop i m)) ∙ bits_of_append (take i m) (drop i m) in
    ap (take (8 * i)) e ∙ take_at (bits_of (take i m)) (bits_of (drop i m)) (8 * i) (length_bits_of (take i m) ∙ ap (λ (x : ℕ). 8 * x) (length-take-le i m h))

-- whole octets copied are written
whole_written : (m out : List ℕ) (w : ℕ) → w ≤ length m → written (over (take w m) out) w 0 0 ≡ take (8 * w) (bits_of m)
unfolding written bits_n
whole_written m out w h =
    append-nil (bits_of (take w (over (take w m) out))) ∙ ap bits_of (take_at (take w m) (drop (length (take w m)) out) w (length-take-le w m h)) ∙ sym (take_bits_of w m h)

pub front_is : (m out : List ℕ) (n : ℕ) {w p o₁ k₁ acc₁ : ℕ} {out₁ out₂ : List ℕ} {o k acc : ℕ} → (n ≤ 8 * length m) × (length m < 2 ^ 60) × (n ≤ 8 * length out) → w ≡ octets_before n → p ≡ place_after w
    → (o₁ ≡ w) × (k₁ ≡ 0) × (acc₁ ≡ 0) → out₁ ≡ over (take w m) out → Put (written out₁ o₁ k₁ acc₁) (take (n - p) (drop p (bits_of m))) (place_after o₁ + k₁ + (n - p)) out₁ out₂ o k acc
    → Begun (take n (bits_of m)) out₂ o k acc
front_is m out n {w} {p} {o₁} {k₁} {acc₁} {out₁} {out₂} {o} {k} {acc} h ew ep es eo q =
    let s : p + (n - p) ≡ n = omega arith in
    let b : written out₁ o₁ k₁ acc₁ ≡ take p (bits_of m) = rw (es.0, es.1, es.2, eo, ep) (whole_written m out w (omega arith)) in
    record {
      spelt = q.bits ∙ ap (λ (x : List Bool). x ++ take (n - p) (drop p (bits_of m))) b ∙ sym (take-add p (n - p) (bits_of m)) ∙ ap (λ (x : ℕ). take x (bits_of m)) s;
      place = omega (arith, q.place, length-take-le n (bits_of m) (rw (length_bits_of m) h.0));
      hand = q.hand;
    }

-- ---- one stretch more

module _ (m : List ℕ) (old : List Bool) {buf : List ℕ} {o k acc : ℕ} (b : Begun old buf o k acc) where
  pub begun_hand : InHand k acc
  begun_hand = b.hand

  pub begun_room : (n₀ w z : ℕ) → length old ≡ z → length buf ≡ n₀ → z + w ≤ 8 * n₀ → place_after o + k + w ≤ 8 * length buf
  begun_room n₀ w z e l h = omega (arith, b.place)

  pub begun_put : (w v : ℕ) {kept buf' : List ℕ} {o' k' acc' : ℕ} → Put (written buf o k acc) (bits_n w v) (place_after o + k + w) kept buf' o' k' acc' → Begun (old ++ bits_n w v) buf' o' k' acc'
  begun_put w v q = record {
    spelt = q.bits ∙ ap (λ (x : List Bool). x ++ bits_n w v) b.spelt;
    place = omega (arith, q.place, b.place, length-append old (bits_n w v), length_bits w v);
    hand = q.hand;
  }

  pub begun_copy : (at n : ℕ) {kept buf' : List ℕ} {o' k' acc' : ℕ} → at + n ≤ 8 * length m → Put (written buf o k acc) (take n (drop at (bits_of m))) (place_after o + k + n) kept buf' o' k' acc'
      → Begun (old ++ take n (drop at (bits_of m))) buf' o' k' acc'
  begun_copy at n h q =
      let l : length (take n (drop at (bits_of m))) ≡ n = length-take-le n (drop at (bits_of m)) (rw (length-drop at (bits_of m), length_bits_of m) (omega arith)) in
      record {
        spelt = q.bits ∙ ap (λ (x : List Bool). x ++ take n (drop at (bits_of m))) b.spelt;
        place = omega (arith, q.place, b.place, length-append old (take n (drop at (bits_of m))), l);
        hand = q.hand;
      }

  pub begun_seal : {kept buf' : List ℕ} {r : ℕ} → ((i : ℕ) → Fits w8 (get_or buf' i 0)) → Sealed (written buf o k acc) (place_after o + k) kept buf' r → Built old buf' r
  begun_seal {kept} {buf'} {r} h q = record {
    each = octets_take r buf' (octets_of_lem buf' h);
    spelt = q.bits ∙ ap₂ (λ (x : List Bool) (y : ℕ). x ++ end_bits y) b.spelt b.place;
    size = q.size ∙ ap (λ (x : ℕ). octets_to x + 1) b.place;
  }

-- ---- lengths

module _ (m : List ℕ) (head cell at : ℕ) where
  pub length_front : head ≤ 8 * length m → length (take head (bits_of m)) ≡ head
  length_front h = length-take-le head (bits_of m) (rw (length_bits_of m) h)

  pub length_headed : head ≤ 8 * length m → length (headed (bits_of m) head cell) ≡ head + 17
  length_headed h = length-append (take head (bits_of m)) (bits_n 17 cell) ∙ ap₂ (λ (x y : ℕ). x + y) (length_front h) (length_bits 17 cell)

  module _ (h : head + 17 ≤ at) (k : at ≤ 8 * length m) where
    pub length_reached : length (reached (bits_of m) head cell at) ≡ at
    length_reached =
        let l : length (take (at - (head + 17)) (drop (head + 17) (bits_of m))) ≡ at - (head + 17) = length-take-le (at - (head + 17)) (drop (head + 17) (bits_of m)) (rw (length-drop (head + 17) (bits_of m), length_bits_of m) (omega arith)) in
        length-append (headed (bits_of m) head cell) (take (at - (head + 17)) (drop (head + 17) (bits_of m))) ∙ ap₂ (λ (x y : ℕ). x + y) (length_headed (omega arith)) l ∙ omega arith

    pub length_pieced : (w v : ℕ) → length (pieced (bits_of m) head cell at w v) ≡ at + w
    length_pieced w v = length-append (reached (bits_of m) head cell at) (bits_n w v) ∙ ap₂ (λ (x y : ℕ). x + y) length_reached (length_bits w v)

    pub length_joined : (w v behind end : ℕ) → behind ≤ end → end ≤ 8 * length m → length (joined (bits_of m) head cell at w v behind end) ≡ at + w + (end - behind)
    length_joined w v bh en l n =
        let e : length (take (en - bh) (drop bh (bits_of m))) ≡ en - bh = length-take-le (en - bh) (drop bh (bits_of m)) (rw (length-drop bh (bits_of m), length_bits_of m) (omega arith)) in
        length-append (pieced (bits_of m) head cell at w v) (take (en - bh) (drop bh (bits_of m))) ∙ ap₂ (λ (x y : ℕ). x + y) (length_pieced w v) e

-- Copying octets and bits.
use Prim.Native.Nat.{ℕ, ◌+◌, ◌-◌, ◌*◌, ◌/◌, ◌%◌, ◌^◌, ◌≤◌, ◌<◌}
use native.Mathlib.Omega.{arith}
use native.Mathlib.Nat.{add-zero}
use mathlib.Core.Path.{◌≡◌, refl, sym, ap, ap₂, ◌∙◌}
use mathlib.Core.Bool.{Bool}
use mathlib.Core.List.{List, ◌++◌, append_assoc, append-nil}
use lib.ListN.{length, take, drop}
use lib.Seq.{take-add, drop-drop}
use mir.Val.{Fits}
use mir.Syntax.{w64}
use Rattle.bits.specs.Bits.{bits_n, bits_of, field, place_after, octets_to}
use Rattle.bits.specs.Window.{Look}
use Rattle.bits.specs.Sink.{written, InHand, Put}
use Rattle.bits.proofs.Numbers.{field_bits}
use Rattle.bits.proofs.Octets.{length_bits_of}
use Rattle.bits.proofs.Looking.{seen}
use Rattle.bits.proofs.Putting.{drop_further}

-- ---- bits

-- w bits that were seen at a place
pub bits_seen : (m : List ℕ) (p w : ℕ) {x : ℕ} → Look (drop p (bits_of m)) x → w ≤ 24 → p + w ≤ 8 * length m → take w (drop p (bits_of m)) ≡ bits_n w (x / 2 ^ (24 - (0 + w)) % 2 ^ w)
bits_seen m p w lk h k =
    field_bits (bits_of m) p w (rw (length_bits_of m) k)
    ∙ ap (bits_n w) (ap (λ (y : ℕ). field (bits_of m) y w) (sym (add-zero p)) ∙ seen m p 0 w lk (omega arith) (omega arith))

-- with `left` of n bits to come at p
pub record BitCopy (m : List ℕ) (at n : ℕ) (old : List Bool) (z : ℕ) (kept : List ℕ) (p left : ℕ) (buf : List ℕ) (o k acc : ℕ) : Type 0 where
  pub place : p + left ≡ at + n
  pub fewer : left ≤ n
  pub inside : at + n ≤ 8 * length m
  pub counted : length m < 2 ^ 60
  pub room : z + n ≤ 8 * length kept
  pub reached : place_after o + k + left ≡ z + n
  pub bits : written buf o k acc ++ take left (drop p (bits_of m)) ≡ old ++ take n (drop at (bits_of m))
  pub rest : drop (octets_to (z + n)) buf ≡ drop (octets_to (z + n)) kept
  pub long : length buf ≡ length kept

pub bits_begin : (m : List ℕ) (at n : ℕ) (buf : List ℕ) (o k acc : ℕ) → (at + n ≤ 8 * length m) × (length m < 2 ^ 60) × (place_after o + k + n ≤ 8 * length buf)
    → BitCopy m at n (written buf o k acc) (place_after o + k) buf at n buf o k acc
bits_begin m at n buf o k acc h = record { place = refl; fewer = omega arith; inside = h.0; counted = h.1; room = h.2; reached = refl; bits = refl; rest = refl; long = refl }

module _ {m : List ℕ} {at n : ℕ} {old : List Bool} {z : ℕ} {kept : List ℕ} {p left : ℕ} {buf : List ℕ} {o k acc : ℕ} (c : BitCopy m at n old z kept p left buf o k acc) where
  -- the next w bits were put
  more : (w : ℕ) {x v : ℕ} {buf' : List ℕ} {o' k' acc' : ℕ} → w ≤ left → w ≤ 24 → Look (drop p (bits_of m)) x → v ≡ x / 2 ^ (24 - (0 + w)) % 2 ^ w → length buf' ≡ length buf
      → Put (written buf o k acc) (bits_n w v) (place_after o + k + w) buf buf' o' k' acc' → BitCopy m at n old z kept (p + w) (left - w) buf' o' k' acc'
  more w {x} {v} {buf'} {o'} {k'} {acc'} h l lk ev n' q =
      let s : take w (drop p (bits_of m)) ≡ bits_n w v = bits_seen m p w lk l (omega (arith, c.place, c.inside)) ∙ ap (bits_n w) (sym ev) in
      let t : take left (drop p (bits_of m)) ≡ bits_n w v ++ take (left - w) (drop (p + w) (bits_of m)) =
      ap (λ (y : ℕ). take y (drop p (bits_of m))) (split) ∙ take-add w (left - w) (drop p (bits_of m)) ∙ ap₂ (λ (a b : List Bool). a ++ b) s (ap (take (left - w)) (drop-drop w p (bits_of m))) in
      record {
        place = omega (arith, c.place);
        fewer = omega (arith, c.fewer);
        inside = c.inside;
        counted = c.counted;
        room = c.room;
        reached = omega (arith, q.place, c.reached);
        bits = ap (λ (y : List Bool). y ++ take (left - w) (drop (p + w) (bits_of m))) q.bits ∙ append_assoc (written buf o k acc) (bits_n w v) (take (left - w) (drop (p + w) (bits_of m)))
            ∙ ap (λ (y : List Bool). written buf o k acc ++ y) (sym t) ∙ c.bits;
        rest = drop_further (octets_to (place_after o + k + w)) (octets_to (z + n)) buf' buf (omega (arith, c.reached)) q.rest ∙ c.rest;
        long = n' ∙ c.long;
      }
    where
      split : left ≡ w + (left - w)
      split = omega arith

  -- a turn of 24 bits
  module _ (h : 24 ≤ left) where
    pub bits_look : p ≤ 8 * length m
    bits_look = omega (arith, c.place, c.inside)

    pub bits_room : place_after o + k + 24 ≤ 8 * length buf
    bits_room = omega (arith, c.reached, c.room, c.long)

    pub bits_step : {x : ℕ} {buf' : List ℕ} {o' k' acc' : ℕ} → Look (drop p (bits_of m)) x → length buf' ≡ length buf → Put (written buf o k acc) (bits_n 24 x) (place_after o + k + 24) buf buf' o' k' acc'
        → BitCopy m at n old z kept (p + 24) (left - 24) buf' o' k' acc'
    bits_step {x} lk e q = let s = lk.small in more 24 h (omega arith) lk (omega arith) e q

  pub bits_place : 24 ≤ left → Fits w64 (p + 24)
  bits_place h = let k = c.counted in record { fits = omega (arith, c.place, c.inside) }

  -- the end
  last : {buf' : List ℕ} {o' k' acc' : ℕ} → InHand k' acc' → BitCopy m at n old z kept (p + left) (left - left) buf' o' k' acc' → Put old (take n (drop at (bits_of m))) (z + n) kept buf' o' k' acc'
  last {buf'} {o'} {k'} {acc'} i d =
      let e : left - left ≡ 0 = omega arith in
      let b : written buf' o' k' acc' ++ take (left - left) (drop (p + left) (bits_of m)) ≡ written buf' o' k' acc' = rw e (append-nil (written buf' o' k' acc')) in
      record { bits = sym b ∙ d.bits; place = omega (arith, d.reached); hand = i; rest = d.rest }

  pub bits_none : InHand k acc → left ≡ 0 → Put old (take n (drop at (bits_of m))) (z + n) kept buf o k acc
  bits_none i e =
      let b : written buf o k acc ++ take left (drop p (bits_of m)) ≡ written buf o k acc = rw e (append-nil (written buf o k acc)) in
      record { bits = sym b ∙ c.bits; place = omega (arith, c.reached); hand = i; rest = c.rest }

  module _ (h : left < 24) where
    pub bits_last_look : p ≤ 8 * length m
    bits_last_look = omega (arith, c.place, c.inside)

    pub bits_last_room : place_after o + k + left ≤ 8 * length buf
    bits_last_room = omega (arith, c.reached, c.room, c.long)

    pub bits_last : {x v : ℕ} {buf' : List ℕ} {o' k' acc' : ℕ} → Look (drop p (bits_of m)) x → (v ≡ x / 2 ^ (24 - (0 + left)) % 2 ^ left) × (v < 2 ^ left) → length buf' ≡ length buf
        → Put (written buf o k acc) (bits_n left v) (place_after o + k + left) buf buf' o' k' acc' → Put old (take n (drop at (bits_of m))) (z + n) kept buf' o' k' acc'
    bits_last lk ev e q = last q.hand (more left (omega arith) (omega arith) lk ev.0 e q)

pub ruleset bits = (bits_begin, bits_look, bits_room, bits_step, bits_place, bits_none, bits_last_look, bits_last_room, bits_last)

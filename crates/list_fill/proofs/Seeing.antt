-- The instruction on top of a sight is the one that stands at its place.
use Prim.Native.Nat.{ℕ, zero, suc, ◌+◌, ◌-◌, ◌*◌, ◌/◌, ◌%◌, ◌^◌, ◌≤◌, ◌<◌}
use native.Mathlib.Omega.{arith}
use native.Mathlib.Nat.{zero-add, mod-lt, lt_of_lt_of_le}
use mathlib.Core.Path.{◌≡◌, sym, ap, ◌∙◌}
use mathlib.Core.Bool.{Bool}
use mathlib.Core.List.{List, ◌++◌, append_assoc}
use lib.ListN.{length, drop, length-append}
use lib.Pow.{field as pow-field, pow_pos, pow_mono, shl-shr, shr-shr}
use Rattle.bits.specs.Bits.{bits_n, field}
use Rattle.bits.specs.Window.{Sight}
use Rattle.bits.proofs.Numbers.{length_bits}
use Rattle.tone.specs.Table.{kind, payload, width, InTable}
use Rattle.tone.specs.Writing.{entry_bits}
use Rattle.tone.proofs.Rows.{payload_lt, length_entry_bits, parts}
use Rattle.tone_elements.proofs.Standing.{stands, onward_from}
use Rattle.list_fill.specs.Filling.{entry_seen}

-- ---- its parts

seen_parts : (x : ℕ) → let w = width (x / 2 ^ 61) in (kind (entry_seen x) ≡ x / 2 ^ 61) × (payload (entry_seen x) ≡ x / 2 ^ (61 - w) % 2 ^ w)
unfolding entry_seen
seen_parts x =
    let w = width (x / 2 ^ 61) in
    let p = x / 2 ^ (61 - w) % 2 ^ w in
    parts (x / 2 ^ 61) p (payload_lt (x / 2 ^ 61) p (mod-lt (x / 2 ^ (61 - w)) (pow_pos w)))

-- its kind is the top three bits
pub seen_kind : (x : ℕ) → kind (entry_seen x) ≡ x / 2 ^ 61
seen_kind x = (seen_parts x).0

-- a note's payload is the nine bits behind them
pub seen_note : (x : ℕ) → x / 2 ^ 61 ≡ 1 → payload (entry_seen x) ≡ x / 2 ^ 52 % 512
unfolding width
seen_note x h = (seen_parts x).1 ∙ ap (λ (k : ℕ). x / 2 ^ (61 - width k) % 2 ^ width k) h

-- each kind has some
pub width_some : (k : ℕ) → k ≤ 5 → 1 ≤ width k
unfolding width
width_some zero h = omega arith
width_some (suc zero) h = omega arith
width_some (suc (suc zero)) h = omega arith
width_some (suc (suc (suc zero))) h = omega arith
width_some (suc (suc (suc (suc zero)))) h = omega arith
width_some (suc (suc (suc (suc (suc zero))))) h = omega arith
width_some (suc (suc (suc (suc (suc (suc k)))))) h = absurd (omega arith)

-- n bits behind the top three, as the code takes them
below_top : (x n : ℕ) → n ≤ 61 → x * 2 ^ 3 % 2 ^ 64 / 2 ^ (64 - n) ≡ x / 2 ^ (61 - n) % 2 ^ n
below_top x n h =
    let e : n + (64 - n) ≡ 64 = omega arith in
    let f : 64 - n ≡ 3 + (61 - n) = omega arith in
    ap (λ (k : ℕ). x * 2 ^ 3 % 2 ^ k / 2 ^ (64 - n)) (sym e) ∙ pow-field (x * 2 ^ 3) n (64 - n)
    ∙ ap (λ (k : ℕ). x * 2 ^ 3 / 2 ^ k % 2 ^ n) f
    ∙ ap (λ (y : ℕ). y % 2 ^ n) (sym (shr-shr (x * 2 ^ 3) 3 (61 - n)) ∙ ap (λ (y : ℕ). y / 2 ^ (61 - n)) (shl-shr x 3))

-- they are a payload
pub seen_small : (x : ℕ) {n : ℕ} → n ≤ 14 → x * 2 ^ 3 % 2 ^ 64 / 2 ^ (64 - n) < 65536
seen_small x {n} h = rw (below_top x n (omega arith)) (lt_of_lt_of_le (mod-lt (x / 2 ^ (61 - n)) (pow_pos n)) (pow_mono {j = 16} (omega arith)))

-- the entry, as the code puts it together
pub seen_entry : (x : ℕ) {n : ℕ} → (n ≡ width (x / 2 ^ 61)) × (n ≤ 14) → x / 2 ^ 61 * 65536 + x * 2 ^ 3 % 2 ^ 64 / 2 ^ (64 - n) ≡ entry_seen x
unfolding entry_seen
seen_entry x {n} h =
    ap (λ (p : ℕ). x / 2 ^ 61 * 65536 + p) (below_top x n (omega (arith, h.1)) ∙ ap (λ (k : ℕ). x / 2 ^ (61 - k) % 2 ^ k) h.0)

-- ---- it is the one that stands there

module _ {b : List Bool} (r : List Bool) (e : ℕ) {n x : ℕ} (i : InTable e) (h : b ≡ entry_bits e ++ r) (k : 3 + width (kind e) ≤ n) (s : Sight n b x) where
  here : drop 0 b ≡ bits_n 3 (kind e) ++ (bits_n (width (kind e)) (payload e) ++ r)
  unfolding entry_bits
  here = h ∙ append_assoc (bits_n 3 (kind e)) (bits_n (width (kind e)) (payload e)) r

  long : 3 + width (kind e) ≤ length b
  long = omega (arith, ap length h ∙ length-append (entry_bits e) r, length_entry_bits e)

  top : x / 2 ^ 61 ≡ kind e
  top =
      let f : field b 0 3 ≡ kind e = stands b 0 3 (kind e) (bits_n (width (kind e)) (payload e) ++ r) (omega (arith, i.known)) here in
      let g : field b 0 3 ≡ x / 2 ^ 61 % 2 ^ 3 = s.at 0 3 (omega arith) (omega (arith, long)) in
      omega (arith, f, g, s.small)

  behind : x / 2 ^ (61 - width (kind e)) % 2 ^ width (kind e) ≡ payload e
  behind =
      let w = width (kind e) in
      let d : drop 3 b ≡ bits_n w (payload e) ++ r =
      ap (λ (l : ℕ). drop l b) (sym (zero-add (length (bits_n 3 (kind e))) ∙ length_bits 3 (kind e))) ∙ onward_from b 0 (bits_n 3 (kind e)) (bits_n w (payload e) ++ r) here in
      let o : 64 - (3 + w) ≡ 61 - w = omega arith in
      ap (λ (l : ℕ). x / 2 ^ l % 2 ^ w) (sym o) ∙ sym (s.at 3 w k long) ∙ stands b 3 w (payload e) r i.fits d

  -- an entry that stands at the place of a sight is on top of it
  pub seen_is : entry_seen x ≡ e
  unfolding entry_seen
  seen_is =
      let p : x / 2 ^ (61 - width (x / 2 ^ 61)) % 2 ^ width (x / 2 ^ 61) ≡ payload e = ap (λ (y : ℕ). x / 2 ^ (61 - width y) % 2 ^ width y) top ∙ behind in
      omega (arith, top, p)

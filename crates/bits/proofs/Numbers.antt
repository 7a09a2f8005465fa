-- Bits and the numbers that they spell.
use Prim.Native.Nat.{ℕ, zero, suc, ◌+◌, ◌-◌, ◌*◌, ◌/◌, ◌%◌, ◌^◌, ◌≤◌, ◌<◌}
use native.Mathlib.Omega.{arith}
use native.Mathlib.Nat.{mod-lt, pow-suc, zero-div, zero-mod, one-mul, mod-eq_of_lt, add_comm, add-mul, mul_right_comm, mul-mod_left, add-zero, add-mul-div_right, add-mul-mod_self_right}
use native.Mathlib.Numerals.{one-add}
use mathlib.Core.Path.{◌≡◌, refl, sym, ap, ap₂, ◌∙◌}
use mathlib.Core.Bool.{Bool, true, false}
use mathlib.Core.List.{List, [], ◌∷◌, ◌++◌, append_assoc}
use lib.ListN.{length, take, drop, replicate, length-append, length-drop, take-append-drop}
use lib.Seq.{length-take-le, drop-append-le, take-append-le, drop-drop}
use lib.Pow.{pow_pos, pow-lt, pow-add, high, low, split, shr_lt, shl-shr, shr-shr, mod-pow-add}
use lib.Arith.{digits_lt}
use lib.Bits.{bit_and, and_mask}
use lib.Dec.{eqb}
use Rattle.bits.specs.Bits.{bit, num, bits_n, field}

pub num_lt : (l : List Bool) → num l < 2 ^ length l
num_lt [] = omega arith
num_lt (false ∷ l) = let h : num l < 2 ^ length l = num_lt l in rw (pow-suc 2 (length l)) (omega arith)
num_lt (true ∷ l) = let h : num l < 2 ^ length l = num_lt l in rw (pow-suc 2 (length l)) (omega arith)

pub num_append : (l r : List Bool) → num (l ++ r) ≡ num l * 2 ^ length r + num r
num_append [] r = omega arith
num_append (b ∷ l) r = rw (num_append l r, length-append l r, pow-add 2 (length l) (length r)) (omega arith)

pub length_bits : (w v : ℕ) → length (bits_n w v) ≡ w
unfolding bits_n
length_bits zero v = refl
length_bits (suc w) v = ap suc (length_bits w (v % 2 ^ w))

-- a number below 2 is a bit
bit_eqb : (n : ℕ) → n < 2 → bit (eqb n 1) ≡ n
bit_eqb zero h = refl
bit_eqb (suc zero) h = refl
bit_eqb (suc (suc n)) h = let z : ⊥ = omega arith in absurd z

eqb_bit : (b : Bool) → eqb (bit b) 1 ≡ b
eqb_bit false = refl
eqb_bit true = refl

-- the bits of a number spell it
pub num_bits : (w v : ℕ) → v < 2 ^ w → num (bits_n w v) ≡ v
unfolding bits_n
num_bits zero v h = omega arith
num_bits (suc w) v h =
    rw (length_bits w (v % 2 ^ w), num_bits w (v % 2 ^ w) (mod-lt v (pow_pos w)), bit_eqb (v / 2 ^ w) (shr_lt 1 w (rw (one-add w) h))) (split v w)

-- bits are those of the number that they spell
pub bits_num : (l : List Bool) → bits_n (length l) (num l) ≡ l
unfolding bits_n
bits_num [] = refl
bits_num (b ∷ l) = rw (high (bit b) (length l) (num_lt l), low (bit b) (length l) (num_lt l), eqb_bit b, bits_num l) refl

-- the front of bits is that of the number it spells
pub spelt : (l : List Bool) (n : ℕ) → n ≤ length l → take n l ≡ bits_n n (num (take n l))
spelt l n h = sym (rw (length-take-le n l h) at (bits_num (take n l)))

-- two numbers side by side
pub bits_append : (n a w v : ℕ) → a < 2 ^ n → v < 2 ^ w → bits_n (n + w) (a * 2 ^ w + v) ≡ bits_n n a ++ bits_n w v
bits_append n a w v ha hv =
    let l : List Bool = bits_n n a ++ bits_n w v in
    let e : length l ≡ n + w = length-append (bits_n n a) (bits_n w v) ∙ ap₂ (λ (x y : ℕ). x + y) (length_bits n a) (length_bits w v) in
    let f : num l ≡ a * 2 ^ w + v = num_append (bits_n n a) (bits_n w v) ∙ (rw (num_bits n a ha, num_bits w v hv, length_bits w v)) in
    rw (← e, ← f) (bits_num l)

pub join_lt : (n a w v : ℕ) → a < 2 ^ n → v < 2 ^ w → a * 2 ^ w + v < 2 ^ (n + w)
join_lt n a w v ha hv = rw (pow-add 2 n w) (digits_lt ha hv)

-- ---- zeros

pub zero_bits : (w : ℕ) → bits_n w 0 ≡ replicate w false
unfolding bits_n
zero_bits zero = refl
zero_bits (suc w) = rw (zero-div (2 ^ w), zero-mod (2 ^ w)) (ap (λ (r : List Bool). false ∷ r) (zero_bits w))

-- bits that spell 0 are zeros
pub num_zero : (l : List Bool) → num l ≡ 0 → l ≡ replicate (length l) false
num_zero [] h = refl
num_zero (false ∷ l) h = ap (λ (r : List Bool). false ∷ r) (num_zero l (omega arith))
num_zero (true ∷ l) h = let k : 0 < 2 ^ length l = pow_pos (length l) in let z : ⊥ = omega arith in absurd z

-- ---- fields

pub field_lt : (l : List Bool) (at w : ℕ) → at + w ≤ length l → field l at w < 2 ^ w
unfolding field
field_lt l at w h = rw (length-take-le w (drop at l) (rw (length-drop at l) (omega arith))) at (num_lt (take w (drop at l)))

pub field_drop : (l : List Bool) (at o w : ℕ) → field (drop at l) o w ≡ field l (at + o) w
unfolding field
field_drop l at o w = ap (λ (r : List Bool). num (take w r)) (drop-drop o at l)

-- the field's bits are those of its number
pub field_bits : (l : List Bool) (at w : ℕ) → at + w ≤ length l → take w (drop at l) ≡ bits_n w (field l at w)
unfolding field
field_bits l at w h = spelt (drop at l) w (rw (length-drop at l) (omega arith))

-- a field of a front
pub field_front : (o w : ℕ) (p q : List Bool) → o + w ≤ length p → field (p ++ q) o w ≡ field p o w
unfolding field
field_front o w p q h =
    let h₁ : o ≤ length p = omega arith in
    let h₂ : w ≤ length (drop o p) = rw (length-drop o p) (omega arith) in
    rw (drop-append-le o p q h₁, take-append-le w (drop o p) q h₂)

-- a field does not depend on what stands past its end
pub field_take : (l : List Bool) (at w k : ℕ) → at + w ≤ k → k ≤ length l → field l at w ≡ field (take k l) at w
field_take l at w k h m =
    let n : at + w ≤ length (take k l) = rw (length-take-le k l m) h in
    ap (λ (x : List Bool). field x at w) (sym (take-append-drop k l)) ∙ field_front at w (take k l) (drop k l) n

-- what stands between a and c
slot : (a b c : List Bool) → num (a ++ b ++ c) / 2 ^ length c % 2 ^ length b ≡ num b
slot a b c = rw (num_append (a ++ b) c, high (num (a ++ b)) (length c) (num_lt c), num_append a b, low (num a) (length b) (num_lt b))

cut : (o w : ℕ) (l : List Bool) → take o l ++ take w (drop o l) ++ drop w (drop o l) ≡ l
cut o w l =
    append_assoc (take o l) (take w (drop o l)) (drop w (drop o l)) ∙ ap (λ (r : List Bool). take o l ++ r) (take-append-drop w (drop o l))
    ∙ take-append-drop o l

-- a field is a quotient and a remainder of the whole number
pub field_num : (l : List Bool) (o w k : ℕ) → o + w + k ≡ length l → field l o w ≡ num l / 2 ^ k % 2 ^ w
unfolding field
field_num l o w k h =
    let hw : length (take w (drop o l)) ≡ w = length-take-le w (drop o l) (rw (length-drop o l) (omega arith)) in
    let hk : length (drop w (drop o l)) ≡ k = length-drop w (drop o l) ∙ ap (λ (n : ℕ). n - w) (length-drop o l) ∙ omega arith in
    sym (rw (hw, hk, cut o w l) at (slot (take o l) (take w (drop o l)) (drop w (drop o l))))

-- ---- in numbers of k bits

-- 1 << w
pub shl_one : (k w : ℕ) → w < k → (1 * 2 ^ w) % 2 ^ k ≡ 2 ^ w
shl_one k w h = rw (one-mul (2 ^ w)) (mod-eq_of_lt (pow-lt h))

-- a mask of w bits
pub mask : (k y w : ℕ) → w < k → (bit_and y ((1 * 2 ^ w) % 2 ^ k - 1) ≡ y % 2 ^ w) × (bit_and y ((1 * 2 ^ w) % 2 ^ k - 1) < 2 ^ w)
mask k y w h = rw (shl_one k w h, and_mask y w) (refl, mod-lt y (pow_pos w))

-- ---- moved up

-- a number that is moved up and down again
pub moved_down : (x k d : ℕ) → k ≤ d → x * 2 ^ k / 2 ^ d ≡ x / 2 ^ (d - k)
moved_down x k d h =
    let e : d ≡ k + (d - k) = omega arith in
    ap (λ (y : ℕ). x * 2 ^ k / 2 ^ y) e ∙ sym (shr-shr (x * 2 ^ k) k (d - k)) ∙ ap (λ (y : ℕ). y / 2 ^ (d - k)) (shl-shr x k)

-- two numbers of n and of c bits side by side, moved up by k: the upper one takes in the first k bits of the lower
module _ (n c x y k : ℕ) (h : k ≤ n) (l : k ≤ c) (s : y < 2 ^ c) where
  -- nothing is carried
  joined : (x * 2 ^ k + y / 2 ^ (c - k)) % 2 ^ n ≡ x * 2 ^ k % 2 ^ n + y / 2 ^ (c - k)
  joined =
      let u = y / 2 ^ (c - k) in
      let j = n - k in
      let ec : k + (c - k) ≡ c = omega arith in
      let en : n ≡ j + k = omega arith in
      let b : u < 2 ^ k = shr_lt k (c - k) (rw ec s) in
      let z : x * 2 ^ k % 2 ^ (j + k) ≡ x % 2 ^ j * 2 ^ k = mod-pow-add (x * 2 ^ k) j k ∙ (rw (shl-shr x k, mul-mod_left x (2 ^ k), add-zero (x % 2 ^ j * 2 ^ k))) in
      rw en (mod-pow-add (x * 2 ^ k + u) j k ∙ (rw (high x k b, low x k b, z)))

  pub joined_lt : x * 2 ^ k % 2 ^ n + y / 2 ^ (c - k) < 2 ^ n
  joined_lt = rw (← joined) (mod-lt (x * 2 ^ k + y / 2 ^ (c - k)) (pow_pos n))

  -- both
  pub moved_pair : (x * 2 ^ c + y) * 2 ^ k % 2 ^ (n + c) ≡ (x * 2 ^ k % 2 ^ n + y / 2 ^ (c - k)) * 2 ^ c + y * 2 ^ k % 2 ^ c
  moved_pair =
      let e : (x * 2 ^ c + y) * 2 ^ k ≡ y * 2 ^ k + x * 2 ^ k * 2 ^ c = add-mul (x * 2 ^ c) y (2 ^ k) ∙ ap (λ (z : ℕ). z + y * 2 ^ k) (mul_right_comm x (2 ^ c) (2 ^ k)) ∙ add_comm (x * 2 ^ k * 2 ^ c) (y * 2 ^ k) in
      let q : (y * 2 ^ k + x * 2 ^ k * 2 ^ c) / 2 ^ c ≡ x * 2 ^ k + y / 2 ^ (c - k) = add-mul-div_right (y * 2 ^ k) (x * 2 ^ k) (pow_pos c) ∙ ap (λ (z : ℕ). z + x * 2 ^ k) (moved_down y k c l) ∙ add_comm (y / 2 ^ (c - k)) (x * 2 ^ k) in
      rw e (mod-pow-add (y * 2 ^ k + x * 2 ^ k * 2 ^ c) n c ∙ (rw (q, joined, add-mul-mod_self_right (y * 2 ^ k) (x * 2 ^ k) (2 ^ c))))

  -- the upper one alone
  pub moved_top : (x * 2 ^ c + y) * 2 ^ k % 2 ^ (n + c) / 2 ^ c ≡ x * 2 ^ k % 2 ^ n + y / 2 ^ (c - k)
  moved_top = rw moved_pair (high (x * 2 ^ k % 2 ^ n + y / 2 ^ (c - k)) c (mod-lt (y * 2 ^ k) (pow_pos c)))

-- Lanes of a number: some of its bits, taken as a number of their own. Several can be told at once.
use Prim.Native.Nat.{ℕ, zero, suc, ◌+◌, ◌-◌, ◌*◌, ◌/◌, ◌%◌, ◌^◌, ◌≤◌, ◌<◌}
use native.Mathlib.Omega.{arith}
use native.Mathlib.Nat.{zero-add, add-mul, mul-suc, add-mod, mul-mod_left, mod-lt, mod-eq_of_lt}
use mathlib.Core.Path.{◌≡◌, refl, sym, ap, ap₂, ◌∙◌}
use mathlib.Core.Bool.{Bool, true, ◌&&◌}
use lib.Dec.{ltb}
use lib.Bits.{bit_and, bit_or, bit_xor, or_zero_r, and_zero_r, and_le_l, and_le_r, and_shr, or_shr, xor_shr, and_mod, or_mod, xor_mod, and_mask}
use lib.Pow.{split, high, shl-shr, shr-shr, shr_lt, pow-add, pow_pos}
use borrow.Author.Tests.{ltb-true}
use Rattle.bits.specs.Window.{fills}
use Rattle.bits.proofs.Choice.{both}

-- the w bits of a number that stand k bits up
abbrev pub lane : ℕ → ℕ → ℕ → ℕ
lane w k x = x / 2 ^ k % 2 ^ w

-- an operation on bits works in each lane apart
module _ (w k a b : ℕ) where
  pub and_lane : lane w k (bit_and a b) ≡ bit_and (lane w k a) (lane w k b)
  and_lane = ap (λ (x : ℕ). x % 2 ^ w) (and_shr a b k) ∙ and_mod (a / 2 ^ k) (b / 2 ^ k) w

  pub or_lane : lane w k (bit_or a b) ≡ bit_or (lane w k a) (lane w k b)
  or_lane = ap (λ (x : ℕ). x % 2 ^ w) (or_shr a b k) ∙ or_mod (a / 2 ^ k) (b / 2 ^ k) w

  pub xor_lane : lane w k (bit_xor a b) ≡ bit_xor (lane w k a) (lane w k b)
  xor_lane = ap (λ (x : ℕ). x % 2 ^ w) (xor_shr a b k) ∙ xor_mod (a / 2 ^ k) (b / 2 ^ k) w

  -- so does a sum, where nothing is carried into the lane or out of it
  sum_lane : a % 2 ^ k + b % 2 ^ k < 2 ^ k → lane w k a + lane w k b < 2 ^ w → lane w k (a + b) ≡ lane w k a + lane w k b
  sum_lane h l =
      let e : a + b ≡ (a / 2 ^ k + b / 2 ^ k) * 2 ^ k + (a % 2 ^ k + b % 2 ^ k) = omega (arith, split a k, split b k, add-mul (a / 2 ^ k) (b / 2 ^ k) (2 ^ k)) in
      ap (λ (x : ℕ). x % 2 ^ w) (ap (λ (x : ℕ). x / 2 ^ k) e ∙ high (a / 2 ^ k + b / 2 ^ k) k h) ∙ add-mod (a / 2 ^ k) (b / 2 ^ k) (2 ^ w) ∙ mod-eq_of_lt l

-- ---- lanes that are not 0

-- nothing is carried from lane to lane, and the bits of `high` are above those of `low`
abbrev pub suits : ℕ → ℕ → ℕ → ℕ → Bool
suits w low high k = ltb (2 * (low % 2 ^ k)) (2 ^ k) && (ltb (2 * lane w k low) (2 ^ w) && ltb (lane w k low) (lane w k high))

module _ (w low high k : ℕ) (s : suits w low high k ≡ true) where
  into : 2 * (low % 2 ^ k) < 2 ^ k
  into = ltb-true (2 * (low % 2 ^ k)) (2 ^ k) (both (ltb (2 * (low % 2 ^ k)) (2 ^ k)) _ s).0

  rest : (ltb (2 * lane w k low) (2 ^ w) && ltb (lane w k low) (lane w k high)) ≡ true
  rest = (both (ltb (2 * (low % 2 ^ k)) (2 ^ k)) _ s).1

  out : 2 * lane w k low < 2 ^ w
  out = ltb-true (2 * lane w k low) (2 ^ w) (both (ltb (2 * lane w k low) (2 ^ w)) _ rest).0

  above : lane w k low < lane w k high
  above = ltb-true (lane w k low) (lane w k high) (both (ltb (2 * lane w k low) (2 ^ w)) _ rest).1

  -- a lane that is 0 stays below its highest bit
  fills_none : (x : ℕ) → lane w k x ≡ 0 → lane w k (fills low x) ≡ lane w k low
  fills_none x z =
      let a = bit_and x low in
      let l = lane w k low in
      let c : a % 2 ^ k ≤ low % 2 ^ k = rw (and_mod x low k) (and_le_r (x % 2 ^ k) (low % 2 ^ k)) in
      let n : lane w k a ≡ 0 = and_lane w k x low ∙ ap (λ (y : ℕ). bit_and y l) z in
      or_lane w k (a + low) x ∙ ap₂ bit_or (sum_lane w k a low (omega (arith, into)) (omega (arith, out)) ∙ ap (λ (y : ℕ). y + l) n ∙ zero-add l) z ∙ or_zero_r l

  -- where the highest bits are all set of what is no more than this in each lane, no lane is 0
  pub none_empty : (x z : ℕ) → lane w k z ≤ lane w k (fills low x) → bit_and z high ≡ high → lane w k x ≡ 0 → ⊥
  none_empty x z l e n =
      let q : bit_and (lane w k z) (lane w k high) ≡ lane w k high = sym (and_lane w k z high) ∙ ap (lane w k) e in
      omega (arith, q, and_le_l (lane w k z) (lane w k high), fills_none x n, above)

-- ---- lanes that have their highest bit, which stands h bits up

-- two bits of which one is set
or_one : (a b : ℕ) → a < 2 → b < 2 → (a ≡ 0 → b ≡ 0 → ⊥) → bit_or a b ≡ 1
or_one zero zero h k n = absurd (n refl refl)
or_one zero (suc zero) h k n = refl
or_one zero (suc (suc b)) h k n = absurd (omega arith)
or_one (suc zero) zero h k n = refl
or_one (suc zero) (suc zero) h k n = refl
or_one (suc zero) (suc (suc b)) h k n = absurd (omega arith)
or_one (suc (suc a)) b h k n = absurd (omega arith)

-- what two numbers have that have it
pub top_and : (h a b : ℕ) → a / 2 ^ h ≡ 1 → b / 2 ^ h ≡ 1 → bit_and a b / 2 ^ h ≡ 1
top_and h a b p q = and_shr a b h ∙ (rw (p, q) refl)

-- it alone is taken out
pub top_mask : (h a : ℕ) → a / 2 ^ h ≡ 1 → bit_and a (2 ^ h) ≡ 2 ^ h
top_mask h a p =
    let one : 1 * 2 ^ h ≡ 2 ^ h = omega arith in
    let q : 2 ^ h / 2 ^ h ≡ 1 = ap (λ (x : ℕ). x / 2 ^ h) (sym one) ∙ shl-shr 1 h in
    let r : 2 ^ h % 2 ^ h ≡ 0 = ap (λ (x : ℕ). x % 2 ^ h) (sym one) ∙ mul-mod_left 1 (2 ^ h) in
    let u : bit_and a (2 ^ h) / 2 ^ h ≡ 1 = top_and h a (2 ^ h) p q in
    let v : bit_and a (2 ^ h) % 2 ^ h ≡ 0 = and_mod a (2 ^ h) h ∙ ap (bit_and (a % 2 ^ h)) r ∙ and_zero_r (a % 2 ^ h) in
    sym (split (bit_and a (2 ^ h)) h) ∙ ap₂ (λ (x y : ℕ). x * 2 ^ h + y) u v ∙ omega arith

module _ (w h low high k : ℕ) (e : w ≡ 1 + h) (s : suits w low high k ≡ true) (ones : lane w k low ≡ 2 ^ h - 1) where
  -- a lane that is not 0 gets it
  pub fills_top : (x : ℕ) → (lane w k x ≡ 0 → ⊥) → lane w k (fills low x) / 2 ^ h ≡ 1
  fills_top x n =
      let a = bit_and x low in
      let v = lane w k x in
      let t = v % 2 ^ h + (2 ^ h - 1) in
      let c : a % 2 ^ k ≤ low % 2 ^ k = rw (and_mod x low k) (and_le_r (x % 2 ^ k) (low % 2 ^ k)) in
      let m : lane w k a ≡ v % 2 ^ h = and_lane w k x low ∙ ap (bit_and v) ones ∙ and_mask v h in
      let l : v % 2 ^ h < 2 ^ h = mod-lt v (pow_pos h) in
      let two : 2 ^ (1 + h) ≡ 2 * 2 ^ h = pow-add 2 1 h in
      let all : 2 ^ w ≡ 2 * 2 ^ h = ap (λ (j : ℕ). 2 ^ j) e ∙ two in
      let out' : lane w k a + lane w k low < 2 ^ w = omega (arith, m, ones, l, all) in
      let u : lane w k (a + low) ≡ t = sum_lane w k a low (omega (arith, into w low high k s)) out' ∙ ap₂ (λ (y z : ℕ). y + z) m ones in
      let v' : v < 2 ^ (1 + h) = rw (← e) (mod-lt (x / 2 ^ k) (pow_pos w)) in
      let t' : t < 2 ^ (1 + h) = rw two (omega (arith, l)) in
      let f : lane w k (fills low x) / 2 ^ h ≡ bit_or (t / 2 ^ h) (v / 2 ^ h) = ap (λ (y : ℕ). y / 2 ^ h) (or_lane w k (a + low) x ∙ ap (λ (y : ℕ). bit_or y v) u) ∙ or_shr t v h in
      f ∙ or_one (t / 2 ^ h) (v / 2 ^ h) (shr_lt 1 h t') (shr_lt 1 h v') (λ p q.
      let i : 0 * 2 ^ h + v % 2 ^ h ≡ v = rw q at (split v h) in
      let j : 0 * 2 ^ h + t % 2 ^ h ≡ t = rw p at (split t h) in
      let b : t % 2 ^ h < 2 ^ h = mod-lt t (pow_pos h) in
      n (omega (arith, i, j, b, l)))

-- numbers that are alike in each of c lanes are the same
pub lanes_same : (w c x y : ℕ) → x < 2 ^ (w * c) → y < 2 ^ (w * c) → ((k : ℕ) → k < c → lane w (w * k) x ≡ lane w (w * k) y) → x ≡ y
lanes_same w zero x y h l f =
    let z : w * 0 ≡ 0 = omega arith in
    let h' : x < 2 ^ 0 = rw z at h in
    let l' : y < 2 ^ 0 = rw z at l in
    omega (arith, h', l')
lanes_same w (suc c) x y h l f =
    let e : w * suc c ≡ w * c + w = mul-suc w c in
    let z : w * 0 ≡ 0 = omega arith in
    let first : x % 2 ^ w ≡ y % 2 ^ w = whole x ∙ ap (λ (k : ℕ). lane w k x) (sym z) ∙ f 0 (omega arith) ∙ ap (λ (k : ℕ). lane w k y) z ∙ sym (whole y) in
    let more : x / 2 ^ w ≡ y / 2 ^ w = lanes_same w c (x / 2 ^ w) (y / 2 ^ w) (shr_lt (w * c) w (rw e at h)) (shr_lt (w * c) w (rw e at l)) (λ k b. up x k ∙ f (suc k) (omega arith) ∙ sym (up y k)) in
    sym (split x w) ∙ ap₂ (λ (a b : ℕ). a * 2 ^ w + b) more first ∙ split y w
  where
    whole : (x : ℕ) → x % 2 ^ w ≡ lane w 0 x
    whole x = let o : x / 1 ≡ x = omega arith in ap (λ (a : ℕ). a % 2 ^ w) (sym o)

    up : (x k : ℕ) → lane w (w * k) (x / 2 ^ w) ≡ lane w (w * suc k) x
    up x k = let e : w + w * k ≡ w * suc k = omega (arith, mul-suc w k) in ap (λ (a : ℕ). a % 2 ^ w) (shr-shr x w (w * k) ∙ ap (λ (j : ℕ). x / 2 ^ j) e)

-- of two numbers what both have is in each lane no more than either
module _ (w k a b : ℕ) where
  pub and_lane_l : lane w k (bit_and a b) ≤ lane w k a
  and_lane_l = rw (and_lane w k a b) (and_le_l (lane w k a) (lane w k b))

  pub and_lane_r : lane w k (bit_and a b) ≤ lane w k b
  and_lane_r = rw (and_lane w k a b) (and_le_r (lane w k a) (lane w k b))

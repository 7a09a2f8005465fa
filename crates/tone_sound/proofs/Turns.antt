-- What turning does to bits.
use Prim.Native.Nat.{ℕ, ◌+◌, ◌-◌, ◌*◌, ◌/◌, ◌%◌, ◌^◌, ◌≤◌, ◌<◌}
use native.Mathlib.Omega.{arith}
use native.Mathlib.Nat.{add_comm, add-zero, add_assoc, add-mul, mul_assoc, mul-mod_left, mod-lt}
use mathlib.Core.Path.{◌≡◌, refl, sym, ap, ap₂, subst, ◌∙◌}
use mathlib.Core.Bool.{Bool}
use mathlib.Core.List.{List}
use lib.ListN.{length, drop}
use lib.Arith.{digits_lt}
use lib.Pow.{pow-add, pow_pos, shl-shr, shr-shr, shr_lt, split, high, low, mod-pow-add}
use mir.Val.{Fits}
use mir.Syntax.{w64}
use Rattle.bits.specs.Bits.{field as field'}
use Rattle.bits.specs.Window.{Sight}
use Rattle.bits.proofs.Looking.{sight_on}
use Rattle.tone_sound.specs.Turning.{turn}

-- ---- what stays, and what comes round

-- those that stay move up, and nothing stands below them
stays : (a n x : ℕ) → x * 2 ^ n % 2 ^ (a + n) ≡ x % 2 ^ a * 2 ^ n
stays a n x =
    mod-pow-add (x * 2 ^ n) a n
    ∙ ap₂ (λ (u v : ℕ). u % 2 ^ a * 2 ^ n + v) (shl-shr x n) (mul-mod_left x (2 ^ n))
    ∙ add-zero (x % 2 ^ a * 2 ^ n)

turn_is : (a n x : ℕ) → a + n ≡ 64 → turn n x ≡ x % 2 ^ a * 2 ^ n + x / 2 ^ a
unfolding turn
turn_is a n x e =
    let d : 64 - n ≡ a = omega arith in
    ap₂ (λ (u v : ℕ). x * 2 ^ n % 2 ^ u + x / 2 ^ v) (sym e) d ∙ ap (λ (u : ℕ). u + x / 2 ^ a) (stays a n x)

comes_round : (a n x : ℕ) → a + n ≡ 64 → x < 2 ^ 64 → x / 2 ^ a < 2 ^ n
comes_round a n x e h = let d : n + a ≡ 64 = omega arith in shr_lt n a (rw d h)

-- a number and what is below it
below_all : (a n u v : ℕ) → u < 2 ^ a → v < 2 ^ n → u * 2 ^ n + v < 2 ^ (a + n)
below_all a n u v h l = rw (pow-add 2 a n) (digits_lt h l)

pub turn_lt : (n x : ℕ) → n ≤ 64 → x < 2 ^ 64 → turn n x < 2 ^ 64
turn_lt n x l h =
    let a : ℕ = 64 - n in
    let e : a + n ≡ 64 = omega arith in
    let b : x % 2 ^ a * 2 ^ n + x / 2 ^ a < 2 ^ (a + n) = below_all a n (x % 2 ^ a) (x / 2 ^ a) (mod-lt x (pow_pos a)) (comes_round a n x e h) in
    rw (turn_is a n x e) (subst (λ (u : ℕ). x % 2 ^ a * 2 ^ n + x / 2 ^ a < 2 ^ u) e b)

-- lowest is what came round
pub turn_low : (a n x : ℕ) → a + n ≡ 64 → x < 2 ^ 64 → turn n x % 2 ^ n ≡ x / 2 ^ a
turn_low a n x e h = ap (λ (u : ℕ). u % 2 ^ n) (turn_is a n x e) ∙ low (x % 2 ^ a) n (comes_round a n x e h)

-- what `turned` computes
pub turn_fits : (n x : ℕ) → n ≤ 63 → x < 2 ^ 64 → Fits w64 (x * 2 ^ n % 2 ^ 64 + x / 2 ^ (64 - n))
unfolding turn
turn_fits n x l k = record { fits = turn_lt n x (omega arith) k }

pub turn_said : (n x : ℕ) → x * 2 ^ n % 2 ^ 64 + x / 2 ^ (64 - n) ≡ turn n x
unfolding turn
turn_said n x = refl

-- turned by b and then by a: c bits stay in place, l₀; a bits come round, l₁; b bits come round ahead of them, h
module _ (a b c x : ℕ) (e : c + (a + b) ≡ 64) (k : x < 2 ^ 64) where
  abbrev l₀ : ℕ
  l₀ = x % 2 ^ c

  abbrev l₁ : ℕ
  l₁ = x / 2 ^ c % 2 ^ a

  abbrev h : ℕ
  h = x / 2 ^ (a + c)

  abbrev first : ℕ
  first = l₁ * 2 ^ (c + b) + (l₀ * 2 ^ b + h)

  small : l₀ * 2 ^ b + h < 2 ^ (c + b)
  small = below_all c b l₀ h (mod-lt x (pow_pos c)) (comes_round (a + c) b x (omega arith) k)

  turned_first : turn b x ≡ first
  turned_first =
      turn_is (a + c) b x (omega arith)
      ∙ ap (λ (u : ℕ). u * 2 ^ b + h) (mod-pow-add x a c)
      ∙ ap (λ (u : ℕ). u + h) (add-mul (l₁ * 2 ^ c) l₀ (2 ^ b) ∙ ap (λ (u : ℕ). u + l₀ * 2 ^ b) (mul_assoc l₁ (2 ^ c) (2 ^ b) ∙ ap (λ (u : ℕ). l₁ * u) (sym (pow-add 2 c b))))
      ∙ add_assoc (l₁ * 2 ^ (c + b)) (l₀ * 2 ^ b) h

  -- what comes round in all
  round : x / 2 ^ c ≡ h * 2 ^ a + l₁
  round = sym (split (x / 2 ^ c) a) ∙ ap (λ (u : ℕ). u * 2 ^ a + l₁) (shr-shr x c a ∙ ap (λ (u : ℕ). x / 2 ^ u) (add_comm c a))

  both_turns : turn a (turn b x) ≡ turn (a + b) x
  both_turns =
      ap (turn a) turned_first
      ∙ turn_is (c + b) a first (omega arith)
      ∙ ap₂ (λ (u v : ℕ). u * 2 ^ a + v) (low l₁ (c + b) small) (high l₁ (c + b) small)
      ∙ ap (λ (u : ℕ). u + l₁) (add-mul (l₀ * 2 ^ b) h (2 ^ a) ∙ ap (λ (u : ℕ). u + h * 2 ^ a) (mul_assoc l₀ (2 ^ b) (2 ^ a) ∙ ap (λ (u : ℕ). l₀ * u) (sym (pow-add 2 b a) ∙ ap (λ (u : ℕ). 2 ^ u) (add_comm b a))))
      ∙ add_assoc (l₀ * 2 ^ (a + b)) (h * 2 ^ a) l₁
      ∙ ap (λ (u : ℕ). l₀ * 2 ^ (a + b) + u) (sym round)
      ∙ sym (turn_is c (a + b) x e)

-- turned twice is turned by both
pub turn_turn : (a b x : ℕ) → a + b ≤ 64 → x < 2 ^ 64 → turn a (turn b x) ≡ turn (a + b) x
turn_turn a b x g k = both_turns a b (64 - (a + b)) x (omega arith) k

-- ---- a sight that is turned on

-- what is below k bits does not show above them
below_hidden : (hi lo k e : ℕ) → lo < 2 ^ k → k ≤ e → (hi * 2 ^ k + lo) / 2 ^ e ≡ hi * 2 ^ k / 2 ^ e
below_hidden hi lo k e h l =
    let d : k + (e - k) ≡ e = omega arith in
    ap (λ (u : ℕ). (hi * 2 ^ k + lo) / 2 ^ u) (sym d)
    ∙ sym (shr-shr (hi * 2 ^ k + lo) k (e - k))
    ∙ ap (λ (u : ℕ). u / 2 ^ (e - k)) (high hi k h ∙ sym (shl-shr hi k))
    ∙ shr-shr (hi * 2 ^ k) k (e - k)
    ∙ ap (λ (u : ℕ). hi * 2 ^ k / 2 ^ u) d

-- turned by k, it sees what is left behind k bits
pub sight_turned : {n k x : ℕ} {b : List Bool} → Sight n b x → n ≤ 64 → k ≤ n → k ≤ length b → Sight (n - k) (drop k b) (turn k x)
sight_turned {n} {k} {x} {b} s h l long = record { at = go; small = turn_lt k x (omega arith) s.small }
  where
    a : ℕ
    a = 64 - k

    on : Sight (n - k) (drop k b) (x * 2 ^ k % 2 ^ 64)
    on = sight_on s h l long

    go : (o w : ℕ) → o + w ≤ n - k → o + w ≤ length (drop k b) → field' (drop k b) o w ≡ turn k x / 2 ^ (64 - (o + w)) % 2 ^ w
    go o w f g =
        let e : a + k ≡ 64 = omega arith in
        let m : x * 2 ^ k % 2 ^ 64 ≡ x % 2 ^ a * 2 ^ k = ap (λ (u : ℕ). x * 2 ^ k % 2 ^ u) (sym e) ∙ stays a k x in
        on.at o w f g
        ∙ ap (λ (u : ℕ). u / 2 ^ (64 - (o + w)) % 2 ^ w) m
        ∙ ap (λ (u : ℕ). u % 2 ^ w) (sym (below_hidden (x % 2 ^ a) (x / 2 ^ a) k (64 - (o + w)) (comes_round a k x e s.small) (omega arith)))
        ∙ ap (λ (u : ℕ). u / 2 ^ (64 - (o + w)) % 2 ^ w) (sym (turn_is a k x e))

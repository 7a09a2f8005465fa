-- The bits at a place, seen through a few octets at once.
use Rattle.std.specs.Prelude.{ℕ, ◌+◌, ◌-◌, ◌*◌, ◌/◌, ◌%◌, ◌^◌, ◌≤◌, ◌<◌, ◌≡◌, Bool, List, [], ◌∷◌, ◌++◌, length, get_or, drop}
use Rattle.std.specs.Int.Bits.{bit_and, bit_or}
use Rattle.bits.specs.Bits.{field}

-- the four octets at i, 0 past the end
abbrev pub four : List ℕ → ℕ → List ℕ
four m i = get_or m i 0 ∷ get_or m (i + 1) 0 ∷ get_or m (i + 2) 0 ∷ get_or m (i + 3) 0 ∷ []

-- the eight octets at i
abbrev pub eight : List ℕ → ℕ → List ℕ
eight m i = four m i ++ four m (i + 4)

-- x holds the first 24 of the bits b: each field of them is a quotient and a remainder
pub record Look (b : List Bool) (x : ℕ) : Type 0 where
  pub at : (o w : ℕ) → o + w ≤ 24 → o + w ≤ length b → field b o w ≡ x / 2 ^ (24 - (o + w)) % 2 ^ w
  pub small : x < 16777216

-- x holds the first n of the bits b on top of 64
pub record Sight (n : ℕ) (b : List Bool) (x : ℕ) : Type 0 where
  pub at : (o w : ℕ) → o + w ≤ n → o + w ≤ length b → field b o w ≡ x / 2 ^ (64 - (o + w)) % 2 ^ w
  pub small : x < 2 ^ 64

-- two numbers hold the first 121 of the bits b: what stands behind the first k of them is put together from both
pub record Sights (b : List Bool) (first second : ℕ) : Type 0 where
  pub front : Sight 64 b first
  pub behind : (k n : ℕ) → k ≤ 63 → n ≤ 64 → k + n ≤ 121 → k ≤ length b → Sight n (drop k b) (first * 2 ^ k % 2 ^ 64 + second / 2 ^ (64 - k))
  pub small : second < 2 ^ 64

-- a number of lanes of which `low` has all bits but the highest: with this the highest bit of a lane is set where the lane is not 0
abbrev pub fills : ℕ → ℕ → ℕ
fills low x = bit_or (bit_and x low + low) x

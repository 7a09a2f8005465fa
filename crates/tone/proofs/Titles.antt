-- The characters of a title: which are allowed, and how they stand in its octets.
use Prim.Native.Nat.{ℕ, suc, ◌+◌, ◌*◌, ◌≤◌}
use native.Mathlib.Omega.{arith}
use mathlib.Core.Path.{◌≡◌, refl, ap, ◌∙◌}
use mathlib.Core.Bool.{Bool, true, false, ◌&&◌}
use mathlib.Core.List.{List, [], ◌∷◌, ◌++◌}
use lib.ListN.{length, get_or}
use borrow.Author.Tests.{le-leb, lt-leb}
use Rattle.tone.specs.Tone.{per_character, characters, codes, allowed_character, all_allowed, allowed_title}

-- ---- which numbers are allowed: each number is in one of these four rows

module _ (c : ℕ) where
  -- 0 to 31 are refused
  pub refused_low : c ≤ 31 → allowed_character c ≡ false
  unfolding allowed_character
  refused_low h = rw (le-leb c 31 h)

  -- 32 to 126 are allowed
  pub allowed_low : 32 ≤ c → c ≤ 126 → allowed_character c ≡ true
  unfolding allowed_character
  allowed_low h k = rw (lt-leb c 31 h, lt-leb 127 c (omega arith))

  -- 127 to 159 are refused
  pub refused_high : 127 ≤ c → c ≤ 159 → allowed_character c ≡ false
  unfolding allowed_character
  refused_high h k = rw (lt-leb c 31 (omega arith), le-leb 127 c h, le-leb c 159 k)

  -- 160 and all above are allowed
  pub allowed_high : 160 ≤ c → allowed_character c ≡ true
  unfolding allowed_character
  allowed_high h = rw (lt-leb c 31 (omega arith), le-leb 127 c (omega arith), lt-leb c 159 h)

-- ---- under UNICODE the number is judged and not its octets

-- where the high octet is not 0, the low one is anything
pub high_decides : (high low : ℕ) → 1 ≤ high → allowed_character (high * 256 + low) ≡ true
high_decides high low h = allowed_high (high * 256 + low) (omega arith)

-- ---- their numbers

-- there are as many as there are characters
pub codes_counted : (unicode : Bool) (title : List ℕ) → length (codes unicode title) ≡ characters unicode title
codes_counted false title = omega arith
codes_counted true [] = refl
codes_counted true (half ∷ []) = refl
codes_counted true (high ∷ low ∷ title) = ap suc (codes_counted true title) ∙ omega arith

-- the number of a character that stands alone
abbrev pub value : Bool → List ℕ → ℕ
value true c = get_or c 0 0 * 256 + get_or c 1 0
value false c = get_or c 0 0

-- a character ahead of others
pub codes_append : (unicode : Bool) (c rest : List ℕ) → length c ≡ per_character unicode → codes unicode (c ++ rest) ≡ value unicode c ∷ codes unicode rest
codes_append true [] rest h = let z : ⊥ = omega arith in absurd z
codes_append true (x ∷ []) rest h = let z : ⊥ = omega arith in absurd z
codes_append true (x ∷ y ∷ []) rest h = refl
codes_append true (x ∷ y ∷ u ∷ c) rest h = let z : ⊥ = omega arith in absurd z
codes_append false [] rest h = let z : ⊥ = omega arith in absurd z
codes_append false (x ∷ []) rest h = refl
codes_append false (x ∷ y ∷ c) rest h = let z : ⊥ = omega arith in absurd z

-- is allowed if it is and they are
pub allowed_append : (unicode : Bool) (c rest : List ℕ) → length c ≡ per_character unicode → allowed_title unicode (c ++ rest) ≡ (allowed_character (value unicode c) && allowed_title unicode rest)
allowed_append unicode c rest h = ap all_allowed (codes_append unicode c rest h)

-- The ones of octets.
use Prim.Native.Nat.{ℕ, zero, suc, ◌+◌, ◌*◌, ◌≤◌, ◌<◌}
use native.Mathlib.Omega.{arith}
use native.Mathlib.Nat.{add_assoc, add-suc, add-zero}
use native.Mathlib.Numerals.{add-one}
use mathlib.Core.Path.{◌≡◌, refl, sym, ap, ◌∙◌}
use mathlib.Core.List.{List, [], ◌∷◌, ◌++◌}
use lib.ListN.{length, get_or, take, drop}
use lib.Seq.{take-add, drop-cons}
use lib.Count.{ones, ones_cat, ones-le}
use mir.Val.{Fits}
use mir.Syntax.{w8}
use Rattle.bits.specs.Bits.{Octets}
use Rattle.bitmap.specs.Image.{ones_of}

-- ---- ones of a row of octets

pub ones_append : (a b : List ℕ) → ones_of (a ++ b) ≡ ones_of a + ones_of b
unfolding ones_of
ones_append [] b = omega arith
ones_append (x ∷ a) b = ap (λ (n : ℕ). ones x + n) (ones_append a b) ∙ sym (add_assoc (ones x) (ones_of a) (ones_of b))

-- no octet has more than eight
pub ones_most : (m : List ℕ) → Octets m → ones_of m ≤ 8 * length m
unfolding ones_of
ones_most [] h = omega arith
ones_most (x ∷ m) h = omega (arith, ones-le 8 x h.0, ones_most m h.1)

-- so many octets more
pub ones_take : (i n : ℕ) (m : List ℕ) → ones_of (take (i + n) m) ≡ ones_of (take i m) + ones_of (take n (drop i m))
ones_take i n m = ap ones_of (take-add i n m) ∙ ones_append (take i m) (take n (drop i m))

-- one octet more
pub ones_drop : (i : ℕ) (m : List ℕ) → i < length m → ones_of (drop i m) ≡ ones (get_or m i 0) + ones_of (drop (i + 1) m)
unfolding ones_of
ones_drop i m h = rw (drop-cons m i 0 h, add-one i) refl

-- ---- octets as one number, the first one lowest

abbrev word : List ℕ → ℕ
word [] = 0
word (x ∷ m) = word m * 256 + x

-- it has the ones of all of them
ones_word : (m : List ℕ) → Octets m → ones (word m) ≡ ones_of m
unfolding ones_of ones
ones_word [] h = refl
ones_word (x ∷ m) h = ones_cat 8 (word m) x h.0 ∙ ap (λ (n : ℕ). n + ones x) (ones_word m h.1) ∙ omega arith

-- ---- eight octets at once

-- the first of some octets, and the others
one_more : (n i k : ℕ) (s : List ℕ) → i + k < length s → take (suc n) (drop (i + k) s) ≡ get_or s (i + k) 0 ∷ take n (drop (i + suc k) s)
one_more n i k s h = rw (drop-cons s (i + k) 0 h, add-suc i k) refl

eight : (s : List ℕ) (i : ℕ) → i + 8 ≤ length s
    → take 8 (drop i s) ≡ get_or s i 0 ∷ get_or s (i + 1) 0 ∷ get_or s (i + 2) 0 ∷ get_or s (i + 3) 0 ∷ get_or s (i + 4) 0 ∷ get_or s (i + 5) 0 ∷ get_or s (i + 6) 0 ∷ get_or s (i + 7) 0 ∷ []
eight s i h =
    let z : take 8 (drop i s) ≡ get_or s i 0 ∷ take 7 (drop (i + 1) s) = rw (add-zero i) at (one_more 7 i 0 s (omega arith)) in
    z
    ∙ (rw (
      one_more 6 i 1 s (omega arith),
      one_more 5 i 2 s (omega arith),
      one_more 4 i 3 s (omega arith),
      one_more 3 i 4 s (omega arith),
      one_more 2 i 5 s (omega arith),
      one_more 1 i 6 s (omega arith),
      one_more 0 i 7 s (omega arith),
    ) refl)

below : {x y : ℕ} → x ≡ y → Fits w8 y → x < 256
below e f = omega (arith, e, f)

-- the eight octets at i, as a number and as a list
module _ (s : List ℕ) (i : ℕ) (w : (j : ℕ) → Fits w8 (get_or s j 0)) {a b c d e f g h : ℕ} (l : i + 8 ≤ length s) (ha : a ≡ get_or s i 0) (hb : b ≡ get_or s (i + 1) 0)
    (hc : c ≡ get_or s (i + 2) 0) (hd : d ≡ get_or s (i + 3) 0) (he : e ≡ get_or s (i + 4) 0) (hf : f ≡ get_or s (i + 5) 0) (hg : g ≡ get_or s (i + 6) 0)
    (hh : h ≡ get_or s (i + 7) 0) where
  octets : Octets (a ∷ b ∷ c ∷ d ∷ e ∷ f ∷ g ∷ h ∷ [])
  octets = (below ha (w i), (below hb (w (i + 1)), (below hc (w (i + 2)), (below hd (w (i + 3)), (below he (w (i + 4)), (below hf (w (i + 5)), (below hg (w (i + 6)), (below hh (w (i + 7)), tt))))))))

  -- what `count_eight` computes
  pub eight_ones : ones (a + b * 256 + c * 65536 + d * 16777216 + e * 4294967296 + f * 1099511627776 + g * 281474976710656 + h * 72057594037927936) ≡ ones_of (take 8 (drop i s))
  eight_ones =
      let v : a + b * 256 + c * 65536 + d * 16777216 + e * 4294967296 + f * 1099511627776 + g * 281474976710656 + h * 72057594037927936 ≡ word (a ∷ b ∷ c ∷ d ∷ e ∷ f ∷ g ∷ h ∷ []) = omega arith in
      let t : a ∷ b ∷ c ∷ d ∷ e ∷ f ∷ g ∷ h ∷ [] ≡ take 8 (drop i s) = rw (eight s i l, ha, hb, hc, hd, he, hf, hg, hh) refl in
      ap ones v ∙ ones_word (a ∷ b ∷ c ∷ d ∷ e ∷ f ∷ g ∷ h ∷ []) octets ∙ ap ones_of t

  pub eight_most : ones (a + b * 256 + c * 65536 + d * 16777216 + e * 4294967296 + f * 1099511627776 + g * 281474976710656 + h * 72057594037927936) ≤ 64
  eight_most =
      let v : a + b * 256 + c * 65536 + d * 16777216 + e * 4294967296 + f * 1099511627776 + g * 281474976710656 + h * 72057594037927936 ≡ word (a ∷ b ∷ c ∷ d ∷ e ∷ f ∷ g ∷ h ∷ []) = omega arith in
      rw (v, ones_word (a ∷ b ∷ c ∷ d ∷ e ∷ f ∷ g ∷ h ∷ []) octets) (ones_most (a ∷ b ∷ c ∷ d ∷ e ∷ f ∷ g ∷ h ∷ []) octets)

-- ---- octets

pub octet_at : (m : List ℕ) → Octets m → (i : ℕ) → get_or m i 0 < 256
octet_at [] h i = omega arith
octet_at (x ∷ m) h zero = h.0
octet_at (x ∷ m) h (suc i) = octet_at m h.1 i

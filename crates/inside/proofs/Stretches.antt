-- Stretches back to back: what is cut by lengths and joined again is what there was, and the other way round.
use Prim.Native.Nat.{ℕ, zero, suc, ◌+◌, ◌≤◌, ◌<◌}
use native.Mathlib.Omega.{arith}
use mathlib.Core.Path.{◌≡◌, refl, sym, ap, ap₂, ◌∙◌}
use mathlib.Core.List.{List, [], ◌∷◌, ◌++◌, append_assoc}
use lib.ListN.{length, get_or, take, drop, length-append, length-drop}
use lib.Seq.{length-take-le, take-add, drop-drop, take-append_seam, drop-append_seam}
use Rattle.bits.specs.Bits.{Octets}
use Rattle.bits.proofs.Octets.{octets_drop}
use Rattle.inside.specs.Inside.{join, lengths, sum, cut}

module _ {A : Type 0} where
  -- ---- lengths

  -- stretches that are joined are as long as their lengths add up to
  pub length_join : (ss : List (List A)) → length (join ss) ≡ sum (lengths ss)
  length_join [] = refl
  length_join (s ∷ ss) = length-append s (join ss) ∙ ap (λ (n : ℕ). length s + n) (length_join ss)

  -- as many stretches as lengths
  pub length_cut : (ns : List ℕ) (l : List A) → length (cut ns l) ≡ length ns
  length_cut [] l = refl
  length_cut (n ∷ ns) l = ap suc (length_cut ns (drop n l))

  -- where the lengths do not go beyond what is cut, the stretches have these lengths
  pub lengths_cut : (ns : List ℕ) (l : List A) → sum ns ≤ length l → lengths (cut ns l) ≡ ns
  lengths_cut [] l h = refl
  lengths_cut (n ∷ ns) l h =
      ap₂ (λ (x : ℕ) (xs : List ℕ). x ∷ xs) (length-take-le n l (omega arith)) (lengths_cut ns (drop n l) (rw (length-drop n l) (omega arith)))

  -- the lengths of the first n stretches add up to where they end
  pub sum_ahead : (n : ℕ) (ss : List (List A)) → sum (take n (lengths ss)) ≡ length (join (take n ss))
  sum_ahead zero ss = refl
  sum_ahead (suc n) [] = refl
  sum_ahead (suc n) (s ∷ ss) = ap (λ (k : ℕ). length s + k) (sum_ahead n ss) ∙ sym (length-append s (join (take n ss)))

  -- stretches behind stretches
  pub join_append : (ss ts : List (List A)) → join (ss ++ ts) ≡ join ss ++ join ts
  join_append [] ts = refl
  join_append (s ∷ ss) ts = ap (λ (l : List A). s ++ l) (join_append ss ts) ∙ sym (append_assoc s (join ss) (join ts))

  -- ---- there and back

  -- joined again, they are the front of what was cut
  pub join_cut : (ns : List ℕ) (l : List A) → join (cut ns l) ≡ take (sum ns) l
  join_cut [] l = refl
  join_cut (n ∷ ns) l = ap (λ (r : List A). take n l ++ r) (join_cut ns (drop n l)) ∙ sym (take-add n (sum ns) l)

  -- what is joined, with anything behind it, is cut into the same stretches
  pub cut_join : (ss : List (List A)) (rest : List A) → cut (lengths ss) (join ss ++ rest) ≡ ss
  cut_join [] rest = refl
  cut_join (s ∷ ss) rest =
      let e : (s ++ join ss) ++ rest ≡ s ++ (join ss ++ rest) = append_assoc s (join ss) rest in
      ap₂ (λ (x : List A) (xs : List (List A)). x ∷ xs)
      (ap (take (length s)) e ∙ take-append_seam s (join ss ++ rest))
      (ap (λ (l : List A). cut (lengths ss) (drop (length s) l)) e ∙ ap (cut (lengths ss)) (drop-append_seam s (join ss ++ rest)) ∙ cut_join ss rest)

  -- ---- the nth of them

  -- it has the nth length, and starts where those ahead of it end
  pub nth_cut : (ns : List ℕ) (l : List A) (i : ℕ) → i < length ns → get_or (cut ns l) i [] ≡ take (get_or ns i 0) (drop (sum (take i ns)) l)
  nth_cut [] l i h = absurd (omega arith)
  nth_cut (n ∷ ns) l zero h = refl
  nth_cut (n ∷ ns) l (suc i) h =
      nth_cut ns (drop n l) i (omega arith) ∙ ap (take (get_or ns i 0)) (drop-drop (sum (take i ns)) n l)

-- ---- stretches of octets

-- each stretch is of octets
abbrev pub AllOctets : List (List ℕ) → Type 0
AllOctets [] = Unit {0}
AllOctets (m ∷ ms) = Octets m × AllOctets ms

octets_take : (n : ℕ) (l : List ℕ) → Octets l → Octets (take n l)
octets_take zero l o = tt
octets_take (suc n) [] o = tt
octets_take (suc n) (x ∷ l) o = (o.0, octets_take n l o.1)

-- octets are cut into stretches of octets
pub octets_cut : (ns l : List ℕ) → Octets l → AllOctets (cut ns l)
octets_cut [] l o = tt
octets_cut (n ∷ ns) l o = (octets_take n l o, octets_cut ns (drop n l) (octets_drop n l o))

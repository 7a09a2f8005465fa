-- Octets to bits and back.
use Prim.Native.Nat.{ℕ, zero, suc, ◌+◌, ◌-◌, ◌*◌, ◌<◌}
use native.Mathlib.Omega.{arith}
use mathlib.Core.Path.{◌≡◌, refl, sym, ap, ap₂, ◌∙◌}
use mathlib.Core.Bool.{Bool}
use mathlib.Core.List.{List, [], ◌∷◌, ◌++◌, append_assoc}
use lib.ListN.{length, get_or, take, drop, length-append, length-drop, take-append-drop}
use lib.Seq.{length-take-le, take_all, take_at, drop_at, drop-append-add, drop-nil, drop-drop}
use mir.Val.{Fits}
use mir.Syntax.{w8}
use Rattle.bits.specs.Bits.{num, bits_n, bits_of, octets, Octets}
use Rattle.bits.proofs.Numbers.{length_bits, num_bits, bits_num, num_lt}

pub length_bits_of : (m : List ℕ) → length (bits_of m) ≡ 8 * length m
length_bits_of [] = refl
length_bits_of (x ∷ m) = length-append (bits_n 8 x) (bits_of m) ∙ (rw (length_bits 8 x, length_bits_of m) (omega arith))

pub bits_of_append : (a b : List ℕ) → bits_of (a ++ b) ≡ bits_of a ++ bits_of b
bits_of_append [] b = refl
bits_of_append (x ∷ a) b =
    ap (λ (r : List Bool). bits_n 8 x ++ r) (bits_of_append a b) ∙ sym (append_assoc (bits_n 8 x) (bits_of a) (bits_of b))

pub drop_bits_of : (i : ℕ) (m : List ℕ) → drop (8 * i) (bits_of m) ≡ bits_of (drop i m)
drop_bits_of zero m = refl
drop_bits_of (suc i) [] = drop-nil (8 * suc i)
drop_bits_of (suc i) (x ∷ m) =
    let e : 8 * suc i ≡ length (bits_n 8 x) + 8 * i = rw (length_bits 8 x) (omega arith) in
    rw (e, drop-append-add (bits_n 8 x) (bits_of m) (8 * i)) (drop_bits_of i m)

pub length_octets : (k : ℕ) (l : List Bool) → length (octets k l) ≡ k
length_octets zero l = refl
length_octets (suc k) l = ap suc (length_octets k (drop 8 l))

-- the bits of octets that were made of bits are those bits
pub bits_octets : (k : ℕ) (l : List Bool) → length l ≡ 8 * k → bits_of (octets k l) ≡ l
bits_octets zero [] h = refl
bits_octets zero (x ∷ l) h = let z : ⊥ = omega arith in absurd z
bits_octets (suc k) l h =
    let e : length (take 8 l) ≡ 8 = length-take-le 8 l (omega arith) in
    let b : bits_n 8 (num (take 8 l)) ≡ take 8 l = rw e at (bits_num (take 8 l)) in
    ap₂ (λ (x y : List Bool). x ++ y) b (bits_octets k (drop 8 l) (length-drop 8 l ∙ omega arith)) ∙ take-append-drop 8 l

-- and the other way round
pub octets_bits : (m : List ℕ) → Octets m → octets (length m) (bits_of m) ≡ m
octets_bits [] h = refl
octets_bits (x ∷ m) h =
    let t : take 8 (bits_n 8 x ++ bits_of m) ≡ bits_n 8 x = take_at (bits_n 8 x) (bits_of m) 8 (length_bits 8 x) in
    let d : drop 8 (bits_n 8 x ++ bits_of m) ≡ bits_of m = drop_at (bits_n 8 x) (bits_of m) 8 (length_bits 8 x) in
    ap₂ (λ (y : ℕ) (r : List ℕ). y ∷ r) (ap num t ∙ num_bits 8 x h.0) (ap (octets (length m)) d ∙ octets_bits m h.1)

-- what bits make are octets
pub octets_octets : (k : ℕ) (l : List Bool) → length l ≡ 8 * k → Octets (octets k l)
octets_octets zero l h = tt
octets_octets (suc k) l h =
    let e : length (take 8 l) ≡ 8 = length-take-le 8 l (omega arith) in
    (rw e at (num_lt (take 8 l)), octets_octets k (drop 8 l) (length-drop 8 l ∙ omega arith))

-- octets with the same bits are the same
pub bits_of_inj : (m n : List ℕ) → Octets m → Octets n → bits_of m ≡ bits_of n → m ≡ n
bits_of_inj m n hm hn e =
    let l : length m ≡ length n = omega (arith, sym (length_bits_of m) ∙ ap length e ∙ length_bits_of n) in
    sym (octets_bits m hm) ∙ ap₂ octets l e ∙ octets_bits n hn

-- one octet of those that bits make
pub get_d_octets : (k : ℕ) (l : List Bool) (j : ℕ) → j < k → get_or (octets k l) j 0 ≡ num (take 8 (drop (8 * j) l))
get_d_octets zero l j h = let z : ⊥ = omega arith in absurd z
get_d_octets (suc k) l zero h = refl
get_d_octets (suc k) l (suc j) h =
    let e : 8 * suc j ≡ 8 + 8 * j = omega arith in
    get_d_octets k (drop 8 l) j (omega arith) ∙ ap (λ (x : List Bool). num (take 8 x)) (drop-drop (8 * j) 8 l ∙ ap (λ (x : ℕ). drop x l) (sym e))

-- ---- which lists are octets

-- what a slice of octets holds
pub octets_of_lem : (m : List ℕ) → ((i : ℕ) → Fits w8 (get_or m i 0)) → Octets m
octets_of_lem [] h = tt
octets_of_lem (x ∷ m) h = ((h 0).fits, octets_of_lem m (λ i. h (suc i)))

pub octets_take : (n : ℕ) (m : List ℕ) → Octets m → Octets (take n m)
octets_take zero m h = tt
octets_take (suc n) [] h = tt
octets_take (suc n) (x ∷ m) h = (h.0, octets_take n m h.1)

pub octets_drop : (n : ℕ) (m : List ℕ) → Octets m → Octets (drop n m)
octets_drop zero m h = h
octets_drop (suc n) [] h = tt
octets_drop (suc n) (x ∷ m) h = octets_drop n m h.1

pub octets_append : (m n : List ℕ) → Octets m → Octets n → Octets (m ++ n)
octets_append [] n h k = k
octets_append (x ∷ m) n h k = (h.0, octets_append m n h.1 k)

-- ---- parts

-- the part from a place up to the end is all that follows
pub rest : (k : ℕ) (m : List ℕ) → take (length m - k) (drop k m) ≡ drop k m
rest k m = take_all (length m - k) (drop k m) (omega (arith, length-drop k m))

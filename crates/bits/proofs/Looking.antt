-- The bits at a place of a message are bits of the few octets there.
use Prim.Native.Nat.{ℕ, suc, ◌+◌, ◌-◌, ◌*◌, ◌/◌, ◌%◌, ◌^◌, ◌≤◌, ◌<◌}
use native.Mathlib.Omega.{arith}
use native.Mathlib.Nat.{add-zero, zero-add, add_assoc, mod-lt, zero-div, zero-mod, eq-or-lt_of_le}
use mathlib.Core.Path.{◌≡◌, refl, sym, ap, ap₂, ◌∙◌}
use mathlib.Core.Bool.{Bool}
use mathlib.Core.Logic.{◌⊎◌, inl, inr}
use mathlib.Core.List.{List, [], ◌∷◌, ◌++◌, append-nil}
use lib.ListN.{replicate, length-take, length-drop, take-append-drop, length, get_or, take, drop, length-append}
use lib.Seq.{length-take-le, take-suc, take-add, drop-drop, drop-cons, get_or-drop}
use lib.Pow.{field as pow-field, pow_pos, high, shr_le, shr_lt, shl_exact, shr-shr, mod-mod-pow}
use lib.Dec.{lit≤}
use mir.Val.{Fits}
use mir.Syntax.{w8, w64}
use Rattle.bits.specs.Bits.{num, bits_n, bits_of, field, octets_before, octets_to, filler_to}
use Rattle.bits.specs.Window.{four, eight, Look, Sight, Sights}
use Rattle.bits.proofs.Numbers.{moved_down, join_lt, joined_lt, moved_pair, moved_top, length_bits, field_drop, field_front, field_take, field_num, num_append, num_bits, num_lt}
use Rattle.bits.proofs.Octets.{length_bits_of, bits_of_append, drop_bits_of}

-- a field within the first n octets, whatever follows those
front : (n : ℕ) (m r : List ℕ) (o w : ℕ) → o + w ≤ 8 * n → o + w ≤ 8 * length m → field (bits_of m) o w ≡ field (bits_of (take n m ++ r)) o w
front n m r o w h k =
    let l : o + w ≤ length (bits_of (take n m)) = rw (length_bits_of (take n m), length-take n m) (omega arith) in
    let e : bits_of m ≡ bits_of (take n m) ++ bits_of (drop n m) = ap bits_of (sym (take-append-drop n m)) ∙ bits_of_append (take n m) (drop n m) in
    rw (e, bits_of_append (take n m) r, field_front o w (bits_of (take n m)) (bits_of (drop n m)) l, field_front o w (bits_of (take n m)) (bits_of r) l)

-- zeros for those of n octets that are past the end
abbrev padding : ℕ → List ℕ → List ℕ
padding n m = replicate (n - length m) 0

first_four : (m : List ℕ) → four m 0 ≡ take 4 m ++ padding 4 m
first_four [] = refl
first_four (x ∷ []) = refl
first_four (x ∷ y ∷ []) = refl
first_four (x ∷ y ∷ z ∷ []) = refl
first_four (x ∷ y ∷ z ∷ u ∷ m) = let e : 4 - length (x ∷ y ∷ z ∷ u ∷ m) ≡ 0 = omega arith in rw e refl

four_drop : (m : List ℕ) (i : ℕ) → four (drop i m) 0 ≡ four m i
four_drop m i = simp (get_or-drop, add-zero)

first_eight : (m : List ℕ) → eight m 0 ≡ take 8 m ++ padding 8 m
first_eight [] = refl
first_eight (a ∷ []) = refl
first_eight (a ∷ b ∷ []) = refl
first_eight (a ∷ b ∷ c ∷ []) = refl
first_eight (a ∷ b ∷ c ∷ d ∷ []) = refl
first_eight (a ∷ b ∷ c ∷ d ∷ e ∷ []) = refl
first_eight (a ∷ b ∷ c ∷ d ∷ e ∷ f ∷ []) = refl
first_eight (a ∷ b ∷ c ∷ d ∷ e ∷ f ∷ g ∷ []) = refl
first_eight (a ∷ b ∷ c ∷ d ∷ e ∷ f ∷ g ∷ h ∷ m) = let z : 8 - length (a ∷ b ∷ c ∷ d ∷ e ∷ f ∷ g ∷ h ∷ m) ≡ 0 = omega arith in rw z refl

eight_drop : (m : List ℕ) (i : ℕ) → eight (drop i m) 0 ≡ eight m i
eight_drop m i = simp (get_or-drop, add-zero, zero-add, add_assoc)

-- a field at a place is a field of the first n octets there, whatever follows those
within : (n : ℕ) (m : List ℕ) (i o w : ℕ) (t : List ℕ) {r : List ℕ} → take n (drop i m) ++ t ≡ r → o + w ≤ 8 * n → 8 * i + o + w ≤ 8 * length m
    → field (bits_of m) (8 * i + o) w ≡ field (bits_of r) o w
within n m i o w t e h k =
    let l : o + w ≤ 8 * length (drop i m) = rw (length-drop i m) (omega arith) in
    sym (field_drop (bits_of m) (8 * i) o w)
    ∙ ap (λ (b : List Bool). field b o w) (drop_bits_of i m)
    ∙ front n (drop i m) t o w h l
    ∙ ap (λ (x : List ℕ). field (bits_of x) o w) e

pub num_four : (x y z u : ℕ) → x < 256 → y < 256 → z < 256 → u < 256 → num (bits_of (x ∷ y ∷ z ∷ u ∷ [])) ≡ x * 16777216 + y * 65536 + z * 256 + u
num_four x y z u hx hy hz hu = simp (num_append, length-append, length_bits, num_bits, hx, hy, hz, hu) (omega arith)

-- what `word` computes
pub word_is : {a b c d x y z u : ℕ} → Fits w8 a → Fits w8 b → Fits w8 c → Fits w8 d → x ≡ a → y ≡ b → z ≡ c → u ≡ d
    → x * 16777216 + y * 65536 + z * 256 + u ≡ num (bits_of (a ∷ b ∷ c ∷ d ∷ []))
word_is {a} {b} {c} {d} fa fb fc fd ea eb ec ed = rw (ea, eb, ec, ed) (sym (num_four a b c d fa.fits fb.fits fc.fits fd.fits))

-- what `near_end` computes
pub window_is : (m : List ℕ) (i : ℕ) {x y z u : ℕ} → (x ≡ get_or m i 0) × (x < 256) → (y ≡ get_or m (i + 1) 0) × (y < 256) → (z ≡ get_or m (i + 2) 0) × (z < 256)
    → (u ≡ get_or m (i + 3) 0) × (u < 256) → x * 16777216 + y * 65536 + z * 256 + u ≡ num (bits_of (four m i))
window_is m i {x} {y} {z} {u} hx hy hz hu = rw (← hx.0, ← hy.0, ← hz.0, ← hu.0) (sym (num_four x y z u hx.1 hy.1 hz.1 hu.1))

num_two : (x y : ℕ) → x < 256 → y < 256 → num (bits_of (x ∷ y ∷ [])) ≡ x * 256 + y
num_two x y hx hy = simp (num_append, length-append, length_bits, num_bits, hx, hy) (omega arith)

-- two octets are enough for one at any place
first_two : (m : List ℕ) → get_or m 0 0 ∷ get_or m 1 0 ∷ [] ≡ take 2 m ++ padding 2 m
first_two [] = refl
first_two (x ∷ []) = refl
first_two (x ∷ y ∷ m) = let e : 2 - length (x ∷ y ∷ m) ≡ 0 = omega arith in rw e refl

-- what `octet_at` computes
pub octet_is : (m : List ℕ) (at i : ℕ) {x y : ℕ} → at + 16 ≤ 8 * length m → i ≡ at / 8 → (x ≡ get_or m i 0) × (x < 256) → (y ≡ get_or m (i + 1) 0) × (y < 256)
    → (x * 256 + y) / 2 ^ (8 - at % 8) % 256 ≡ field (bits_of m) at 8
octet_is m at i {x} {y} h ei hx hy =
    let f = at % 8 in
    let p : 8 * i + f ≡ at = omega arith in
    let d : get_or (drop i m) 0 0 ∷ get_or (drop i m) 1 0 ∷ [] ≡ x ∷ y ∷ [] = rw (get_or-drop i m 0 0, get_or-drop i m 1 0, add-zero i, hx.0, hy.0) refl in
    let s : f + 8 + (8 - f) ≡ length (bits_of (x ∷ y ∷ [])) = rw (length_bits_of (x ∷ y ∷ [])) (omega arith) in
    sym (ap (λ (q : ℕ). field (bits_of m) q 8) (sym p)
    ∙ within 2 m i f 8 (padding 2 (drop i m)) (sym (first_two (drop i m)) ∙ d) (omega arith) (omega arith)
    ∙ field_num (bits_of (x ∷ y ∷ [])) f 8 (8 - f) s
    ∙ ap (λ (q : ℕ). q / 2 ^ (8 - f) % 2 ^ 8) (num_two x y hx.1 hy.1))

-- a field of the low o + w + q digits
low_field : (y o w q : ℕ) {t : ℕ} → o + w + q ≡ t → y % 2 ^ t / 2 ^ q % 2 ^ w ≡ y / 2 ^ q % 2 ^ w
low_field y o w q e = rw (← e, pow-field y (o + w) q, mod-mod-pow (y / 2 ^ q) o w)

-- the bits that are left from a place on
pub length_left_lem : (m : List ℕ) (at : ℕ) → length (drop at (bits_of m)) ≡ 8 * length m - at
length_left_lem m at = length-drop at (bits_of m) ∙ ap (λ (n : ℕ). n - at) (length_bits_of m)

-- x holds the first n of the bits b on top of c
record Held (c n : ℕ) (b : List Bool) (x : ℕ) : Type 0 where
  at : (o w : ℕ) → o + w ≤ n → o + w ≤ length b → field b o w ≡ x / 2 ^ (c - (o + w)) % 2 ^ w
  small : x < 2 ^ c

-- on top of 64 it is a sight
on_64 : {n x : ℕ} {b : List Bool} → Held 64 n b x → Sight n b x
on_64 s = record { at = s.at; small = s.small }

-- a field of a number of n bits that was moved up by r
moved_field : (n x r o w : ℕ) → r + o + w ≤ n → x * 2 ^ r % 2 ^ n / 2 ^ (n - (o + w)) % 2 ^ w ≡ x / 2 ^ (n - (r + o + w)) % 2 ^ w
moved_field n x r o w h =
    let e : n - (o + w) - r ≡ n - (r + o + w) = omega arith in
    low_field (x * 2 ^ r) o w (n - (o + w)) {t = n} (omega arith) ∙ ap (λ (y : ℕ). y % 2 ^ w) (moved_down x r (n - (o + w)) (omega arith) ∙ ap (λ (y : ℕ). x / 2 ^ y) e)

-- the first k bits at a place, out of octets r of which n stand there, moved by s to the top
held_at : (c n : ℕ) (m : List ℕ) (at i k s : ℕ) (t : List ℕ) {r : List ℕ} {x : ℕ} → at ≤ 8 * length m → i ≡ at / 8 → take n (drop i m) ++ t ≡ r → k + at % 8 ≤ 8 * n → n ≤ length r
    → s + 8 * length r ≡ c + at % 8 → x ≡ num (bits_of r) → Held c k (drop at (bits_of m)) (x * 2 ^ s % 2 ^ c)
held_at c n m at i k s t {r} {x} h ei er hk hn hs e = record { at = go; small = mod-lt (x * 2 ^ s) (pow_pos c) }
  where
    go : (o w : ℕ) → o + w ≤ k → o + w ≤ length (drop at (bits_of m)) → field (drop at (bits_of m)) o w ≡ x * 2 ^ s % 2 ^ c / 2 ^ (c - (o + w)) % 2 ^ w
    go o w l g =
        let f = at % 8 + o in
        let q = c - (s + o + w) in
        let len : length (drop at (bits_of m)) ≡ 8 * length m - at = length_left_lem m at in
        let p : 8 * i + f ≡ at + o = omega arith in
        let z : f + w + q ≡ length (bits_of r) = rw (length_bits_of r) (omega arith) in
        field_drop (bits_of m) at o w
        ∙ ap (λ (y : ℕ). field (bits_of m) y w) (sym p)
        ∙ within n m i f w t er (omega arith) (omega arith)
        ∙ field_num (bits_of r) f w q z
        ∙ ap (λ (y : ℕ). y / 2 ^ q % 2 ^ w) (sym e)
        ∙ sym (moved_field c x s o w (omega arith))

-- what is left behind k bits
held_on : {c n k x : ℕ} {b : List Bool} → Held c n b x → n ≤ c → k ≤ n → k ≤ length b → Held c (n - k) (drop k b) (x * 2 ^ k % 2 ^ c)
held_on {c} {n} {k} {x} {b} s h l long = record { at = go; small = mod-lt (x * 2 ^ k) (pow_pos c) }
  where
    go : (o w : ℕ) → o + w ≤ n - k → o + w ≤ length (drop k b) → field (drop k b) o w ≡ x * 2 ^ k % 2 ^ c / 2 ^ (c - (o + w)) % 2 ^ w
    go o w f g =
        let len = length-drop k b in
        let e : k + o + w ≡ k + (o + w) = omega arith in
        field_drop b k o w ∙ s.at (k + o) w (omega arith) (omega arith) ∙ sym (moved_field c x k o w (omega arith))

-- the first of them, on top of c of the c + d
held_top : (c d k : ℕ) {n x : ℕ} {b : List Bool} → Held (c + d) n b x → k ≤ n → k ≤ c → Held c k b (x / 2 ^ d)
held_top c d k {n} {x} {b} s h l = record { at = go; small = shr_lt c d s.small }
  where
    go : (o w : ℕ) → o + w ≤ k → o + w ≤ length b → field b o w ≡ x / 2 ^ d / 2 ^ (c - (o + w)) % 2 ^ w
    go o w f g =
        let e : c + d - (o + w) ≡ d + (c - (o + w)) = omega arith in
        s.at o w (omega arith) g ∙ ap (λ (y : ℕ). x / 2 ^ y % 2 ^ w) e ∙ ap (λ (y : ℕ). y % 2 ^ w) (sym (shr-shr x d (c - (o + w))))

-- what `look` computes
pub look_is : (m : List ℕ) (at i : ℕ) {x : ℕ} → at ≤ 8 * length m → i ≡ at / 8 → x ≡ num (bits_of (four m i)) → Look (drop at (bits_of m)) (x / 2 ^ (8 - at % 8) % 16777216)
look_is m at i {x} h ei e =
    let t : x * 2 ^ (at % 8) % 2 ^ 32 / 2 ^ 8 ≡ x / 2 ^ (8 - at % 8) % 2 ^ 24 = pow-field (x * 2 ^ (at % 8)) 24 8 ∙ ap (λ (y : ℕ). y % 2 ^ 24) (moved_down x (at % 8) 8 (omega arith)) in
    let s = rw t at (held_top 24 8 24 (held_at 32 4 m at i 25 (at % 8) (padding 4 (drop i m)) h ei (sym (first_four (drop i m)) ∙ four_drop m i) (omega arith) (lit≤ tt) (omega arith) e) (lit≤ tt) (lit≤ tt)) in
    record { at = s.at; small = s.small }

-- a field of the message, through a look at a place
pub seen : (m : List ℕ) (at o w : ℕ) {x : ℕ} → Look (drop at (bits_of m)) x → o + w ≤ 24 → at + o + w ≤ 8 * length m
    → field (bits_of m) (at + o) w ≡ x / 2 ^ (24 - (o + w)) % 2 ^ w
seen m at o w l h k = sym (field_drop (bits_of m) at o w) ∙ l.at o w h (rw (length_left_lem m at) (omega arith))

-- ---- eight octets at once

-- the number of octets side by side
num_both : (a b : List ℕ) → num (bits_of (a ++ b)) ≡ num (bits_of a) * 2 ^ (8 * length b) + num (bits_of b)
num_both a b = ap num (bits_of_append a b) ∙ num_append (bits_of a) (bits_of b) ∙ (rw (length_bits_of b))

-- eight octets are two words
pub eight_is : (m : List ℕ) (i : ℕ) {x y : ℕ} → x ≡ num (bits_of (four m i)) → y ≡ num (bits_of (four m (i + 4))) → x * 2 ^ 32 % 2 ^ 64 + y ≡ num (bits_of (eight m i))
unfolding bits_n
eight_is m i {x} {y} hx hy =
    let l : x < 2 ^ 32 = rw (hx, ← length_bits_of (four m i)) (num_lt (bits_of (four m i))) in
    ap (λ (z : ℕ). z + y) (shl_exact {a = x} 32 32 64 l (lit≤ tt)) ∙ sym (num_both (four m i) (four m (i + 4)) ∙ (rw (← hx, ← hy)))

-- the second word, as the code loads it
pub eight_loaded : (m : List ℕ) (i : ℕ) {x y : ℕ} → x ≡ num (bits_of (four m i)) → y ≡ num (bits_of (get_or m (i + 4) 0 ∷ get_or m (i + 5) 0 ∷ get_or m (i + 6) 0 ∷ get_or m (i + 7) 0 ∷ []))
    → x * 2 ^ 32 % 2 ^ 64 + y ≡ num (bits_of (eight m i))
eight_loaded m i hx hy = eight_is m i hx (rw (add_assoc i 4 1, add_assoc i 4 2, add_assoc i 4 3) hy)

-- what `sight` computes
pub sight_is : (m : List ℕ) (at i : ℕ) {x : ℕ} → at ≤ 8 * length m → i ≡ at / 8 → x ≡ num (bits_of (eight m i)) → Sight 57 (drop at (bits_of m)) (x * 2 ^ (at % 8) % 2 ^ 64)
sight_is m at i h ei e = on_64 (held_at 64 8 m at i 57 (at % 8) (padding 8 (drop i m)) h ei (sym (first_eight (drop i m)) ∙ eight_drop m i) (omega arith) (lit≤ tt) (omega arith) e)

-- what `inner_sight` computes
pub inner_is : (m : List ℕ) (at i : ℕ) {x : ℕ} → at / 8 + 8 ≤ length m → i ≡ at / 8 → (x ≡ num (bits_of (eight m i))) × (x < 2 ^ 64) → Sight 57 (drop at (bits_of m)) (x * 2 ^ (at % 8) % 2 ^ 64)
inner_is m at i h ei e = sight_is m at i (omega arith) ei e.0

-- eight octets that are there
first_there : (m : List ℕ) (i : ℕ) → i + 8 ≤ length m → take 8 (drop i m) ≡ eight m i
first_there m i h =
    let l : length (drop i m) ≡ length m - i = length-drop i m in
    let z : 8 - length (drop i m) ≡ 0 = omega arith in
    sym (append-nil (take 8 (drop i m))) ∙ ap (λ (k : ℕ). take 8 (drop i m) ++ replicate k 0) (sym z) ∙ sym (first_eight (drop i m)) ∙ eight_drop m i

-- nine of them
abbrev nine : List ℕ → ℕ → List ℕ
nine m i = eight m i ++ (get_or m (i + 8) 0 ∷ [])

first_nine : (m : List ℕ) (i : ℕ) → i + 9 ≤ length m → take 9 (drop i m) ≡ nine m i
first_nine m i h = let l : length (drop i m) ≡ length m - i = length-drop i m in take-suc (drop i m) 8 0 (omega arith) ∙ (rw (first_there m i (omega arith), get_or-drop i m 8 0))

pub full_ninth : {y : ℕ} (k : ℕ) → y < 256 → Fits w64 (y / 2 ^ k)
full_ninth {y} k h = record { fits = omega (arith, shr_le y k) }

-- what `full_sight` computes
module _ (m : List ℕ) (at i : ℕ) {x : ℕ} (h : at + 64 ≤ 8 * length m) (ei : i ≡ at / 8) (ex : (x ≡ num (bits_of (eight m i))) × (x < 2 ^ 64)) where
  pub full_even : at % 8 ≡ 0 → Sight 64 (drop at (bits_of m)) x
  full_even z =
      let e : x * 2 ^ 0 % 2 ^ 64 ≡ x = omega (arith, ex.1) in
      rw e at (on_64 (held_at 64 8 m at i 64 0 (padding 8 (drop i m)) (omega arith) ei (sym (first_eight (drop i m)) ∙ eight_drop m i) (omega arith) (lit≤ tt) (omega arith) ex.0))

  module _ {y : ℕ} (z : at % 8 ≡ 0 → ⊥) (ey : (y ≡ get_or m (i + 8) 0) × (y < 256)) where
    pub full_fits : Fits w64 (x * 2 ^ (at % 8) % 2 ^ 64 + y / 2 ^ (8 - at % 8))
    full_fits = record { fits = joined_lt 64 8 x y (at % 8) (omega arith) (omega arith) ey.1 }

    pub full_there : i + 8 < length m
    full_there = omega arith

    pub full_odd : Sight 64 (drop at (bits_of m)) (x * 2 ^ (at % 8) % 2 ^ 64 + y / 2 ^ (8 - at % 8))
    full_odd =
        let b = get_or m (i + 8) 0 in
        let n : num (bits_of (b ∷ [])) ≡ b = ap num (append-nil (bits_n 8 b)) ∙ num_bits 8 b (rw (← ey.0) ey.1) in
        let e : x * 2 ^ 8 + y ≡ num (bits_of (nine m i)) = sym (num_both (eight m i) (b ∷ []) ∙ (rw (n, ← ex.0, ← ey.0))) in
        let t : (x * 2 ^ 8 + y) * 2 ^ (at % 8) % 2 ^ 72 / 2 ^ 8 ≡ x * 2 ^ (at % 8) % 2 ^ 64 + y / 2 ^ (8 - at % 8) = moved_top 64 8 x y (at % 8) (omega arith) (omega arith) ey.1 in
        on_64 (rw t at (held_top 64 8 64 (held_at 72 9 m at i 65 (at % 8) [] (omega arith) ei (append-nil (take 9 (drop i m)) ∙ first_nine m i (omega arith)) (omega arith) (lit≤ tt) (omega arith) e) (lit≤ tt) (lit≤ tt)))

-- sixteen octets that are there
first_sixteen : (m : List ℕ) (i : ℕ) → i + 16 ≤ length m → take 16 (drop i m) ≡ eight m i ++ eight m (i + 8)
first_sixteen m i h = take-add 8 8 (drop i m) ∙ ap₂ (λ (u v : List ℕ). u ++ v) (first_there m i (omega arith)) (ap (take 8) (drop-drop 8 i m) ∙ first_there m (i + 8) (omega arith))

-- two numbers that are one of 128 bits
sights_of : {b : List Bool} {x y : ℕ} → Held 128 121 b (x * 2 ^ 64 + y) → y < 2 ^ 64 → Sights b x y
sights_of {b} {x} {y} s h = record {
  front = on_64 (rw (high x 64 h) at (held_top 64 64 64 s (lit≤ tt) (lit≤ tt)));
  behind = go;
  small = h;
}
  where
    go : (k n : ℕ) → k ≤ 63 → n ≤ 64 → k + n ≤ 121 → k ≤ length b → Sight n (drop k b) (x * 2 ^ k % 2 ^ 64 + y / 2 ^ (64 - k))
    go k n l f t g = on_64 (rw (moved_top 64 64 x y k (omega arith) (omega arith) h) at (held_top 64 64 n (held_on s (lit≤ tt) (omega arith) g) (omega arith) f))

-- 64 bits and the 57 behind them
module _ {b : List Bool} {x y : ℕ} (s : Sight 64 b x) (t : Sight 57 (drop 64 b) y) (h : 121 ≤ length b) where
  -- all 121 as one number
  num_joined : num (take 121 b) ≡ (x * 2 ^ 64 + y) / 2 ^ 7
  unfolding field
  num_joined =
      let long = length-drop 64 b in
      let ex : num (take 64 b) ≡ x = s.at 0 64 (lit≤ tt) (omega arith) ∙ omega (arith, s.small) in
      let ey : num (take 57 (drop 64 b)) ≡ y / 2 ^ 7 = t.at 0 57 (lit≤ tt) (omega (arith, long)) ∙ omega (arith, t.small) in
      let l : length (take 57 (drop 64 b)) ≡ 57 = length-take-le 57 (drop 64 b) (omega (arith, long)) in
      ap num (take-add 64 57 b) ∙ num_append (take 64 b) (take 57 (drop 64 b)) ∙ (rw (ex, ey, l) (omega arith))

  pub sights_joined : Sights b x y
  sights_joined = sights_of (record { at = go; small = join_lt 64 x 64 y s.small t.small }) t.small
    where
      go : (o w : ℕ) → o + w ≤ 121 → o + w ≤ length b → field b o w ≡ (x * 2 ^ 64 + y) / 2 ^ (128 - (o + w)) % 2 ^ w
      go o w f g =
          let k = 121 - (o + w) in
          let l : o + w + k ≡ length (take 121 b) = omega (arith, length-take-le 121 b h) in
          let e : 7 + k ≡ 128 - (o + w) = omega arith in
          field_take b o w 121 f h
          ∙ field_num (take 121 b) o w k l
          ∙ ap (λ (z : ℕ). z / 2 ^ k % 2 ^ w) num_joined
          ∙ ap (λ (z : ℕ). z % 2 ^ w) (shr-shr (x * 2 ^ 64 + y) 7 k ∙ ap (λ (z : ℕ). (x * 2 ^ 64 + y) / 2 ^ z) e)

-- the code's two shifts are one, which by 64 would not be allowed
two_shifts : (y k : ℕ) → k ≤ 63 → y / 2 / 2 ^ (63 - k) ≡ y / 2 ^ (64 - k)
two_shifts y k h = let e : 1 + (63 - k) ≡ 64 - k = omega arith in shr-shr y 1 (63 - k) ∙ ap (λ (z : ℕ). y / 2 ^ z) e

-- what `sight_behind` computes
module _ (x y k : ℕ) (h : k ≤ 63) where
  pub behind_fits : Fits w64 y → Fits w64 (x * 2 ^ k % 2 ^ 64 + y / 2 / 2 ^ (63 - k))
  behind_fits s = record { fits = rw (two_shifts y k h) (joined_lt 64 64 x y k (omega arith) (omega arith) s.fits) }

  pub behind_is : x * 2 ^ k % 2 ^ 64 + y / 2 / 2 ^ (63 - k) ≡ x * 2 ^ k % 2 ^ 64 + y / 2 ^ (64 - k)
  behind_is = rw (two_shifts y k h)

-- what `two_sights` computes
pub two_fit : (x y at : ℕ) → y < 2 ^ 64 → Fits w64 (x * 2 ^ (at % 8) % 2 ^ 64 + y / 2 / 2 ^ (63 - at % 8))
two_fit x y at h = behind_fits x y (at % 8) (omega arith) (record { fits = h })

pub two_are : (m : List ℕ) (at i : ℕ) {x y : ℕ} → at / 8 + 16 ≤ length m → i ≡ at / 8 → (x ≡ num (bits_of (eight m i))) × (x < 2 ^ 64) → (y ≡ num (bits_of (eight m (i + 8)))) × (y < 2 ^ 64)
    → Sights (drop at (bits_of m)) (x * 2 ^ (at % 8) % 2 ^ 64 + y / 2 / 2 ^ (63 - at % 8)) (y * 2 ^ (at % 8) % 2 ^ 64)
two_are m at i {x} {y} h ei ex ey =
    let e : x * 2 ^ 64 + y ≡ num (bits_of (eight m i ++ eight m (i + 8))) = sym (num_both (eight m i) (eight m (i + 8)) ∙ (rw (← ex.0, ← ey.0))) in
    let s = held_at 128 16 m at i 121 (at % 8) [] (omega arith) ei (append-nil (take 16 (drop i m)) ∙ first_sixteen m i (omega arith)) (omega arith) (lit≤ tt) (omega arith) e in
    let t = rw (moved_pair 64 64 x y (at % 8) (omega arith) (omega arith) ey.1) at s in
    rw (two_shifts y (at % 8) (omega arith)) (sights_of t (mod-lt (y * 2 ^ (at % 8)) (pow_pos 64)))

-- what `through_octet` computes: the octet where the place stands and the first whole one, which may be the same
pub through_is : (m : List ℕ) (at i j : ℕ) {x y : ℕ} → octets_to at < length m → i ≡ octets_before at → j ≡ octets_to at → (x ≡ get_or m i 0) × (x < 256) → (y ≡ get_or m j 0) × (y < 256)
    → Sight (filler_to at + 8) (drop at (bits_of m)) ((x * 256 + y) * 2 ^ (48 + at % 8) % 2 ^ 64)
through_is m at i j {x} {y} h ei ej hx hy =
    let c = some (eq-or-lt_of_le (omega arith)) in
    on_64 (held_at 64 c.0 m at i (filler_to at + 8) (48 + at % 8) c.1 (omega arith) ei c.2 c.3 c.4 (omega arith) (sym (num_two x y hx.1 hy.1)))
  where
    -- how many of the two stand there one behind the other, and what follows those
    some : (i ≡ j) ⊎ (i < j) → (n : ℕ) × (t : List ℕ) × (take n (drop i m) ++ t ≡ x ∷ y ∷ []) × (filler_to at + 8 + at % 8 ≤ 8 * n) × (n ≤ 2)
    some (inl e) = (1, y ∷ [], rw (drop-cons m i 0 (omega arith), hx.0) refl, omega arith, lit≤ tt)
    some (inr l) =
        let n : j ≡ suc i = omega arith in
        (2, [], rw (drop-cons m i 0 (omega arith), drop-cons m (suc i) 0 (omega arith), hx.0, hy.0, n) refl, omega arith, lit≤ tt)

-- what is left of a sight behind k bits
pub sight_on : {n k x : ℕ} {b : List Bool} → Sight n b x → n ≤ 64 → k ≤ n → k ≤ length b → Sight (n - k) (drop k b) (x * 2 ^ k % 2 ^ 64)
sight_on s h l long = on_64 (held_on (record { at = s.at; small = s.small }) h l long)

-- a sight of 0 has zeros alone
pub sight_zero : {n x : ℕ} {b : List Bool} (o w : ℕ) → Sight n b x → x ≡ 0 → o + w ≤ n → o + w ≤ length b → field b o w ≡ 0
sight_zero o w s z h k = s.at o w h k ∙ (rw (z, zero-div (2 ^ (64 - (o + w))), zero-mod (2 ^ w)) refl)

pub ruleset fulls = (full_ninth, full_even, full_fits, full_there, full_odd)

pub ruleset pairs = (two_fit, two_are, behind_fits, behind_is)

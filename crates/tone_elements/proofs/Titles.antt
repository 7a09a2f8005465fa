-- What each return of the functions that judge a title's characters shows.
use Prim.Native.Nat.{ℕ, zero, suc, ◌+◌, ◌-◌, ◌*◌, ◌/◌, ◌%◌, ◌^◌, ◌≤◌, ◌<◌}
use native.Mathlib.Omega.{arith}
use native.Mathlib.Nat.{suc-mul, add-mul, mul-le-mul, lt_of_le_of_lt, lt_of_lt_of_le, div-eq_of_lt, zero-mod, mod-lt, mod-eq_of_lt}
use mathlib.Core.Path.{◌≡◌, refl, sym, ap, ap₂, subst, ◌∙◌}
use mathlib.Core.Logic.{⊎_elim}
use mathlib.Core.Bool.{Bool, true, false, not, ◌&&◌, ◌||◌, false≢true}
use mathlib.Core.List.{List, ◌∷◌}
use lib.ListN.{length, drop}
use lib.Bits.{bit_and, bit_or, bit_xor, or_zero_r, and_le_r, and_shr, and_mask, or_add_and, xor_add_and, or_lt}
use lib.Dec.{T, eqb, leb, ltb, ltb→lt, lit<, lit≤}
use lib.Pow.{shr-shr, shr_le, pow_mono, pow_pos, high, low, ones_split, ones_lt}
use borrow.Author.Tests.{eqb-true, eq-eqb, leb-true, leb-false, ltb-true, ltb-false, lt-ltb, le-ltb}
use mir.Val.{Fits, bits}
use mir.Syntax.{Width, w64}
use Rattle.bits.specs.Choice.{pick}
use Rattle.bits.specs.Bits.{bits_of, field}
use Rattle.bits.specs.Places.{octet_count}
use Rattle.bits.specs.Window.{Sight, fills}
use Rattle.bits.proofs.Below.{passes, at_each}
use Rattle.bits.proofs.Choice.{both}
use Rattle.bits.proofs.Lanes.{lane, or_lane, and_lane, xor_lane, and_lane_l, and_lane_r, suits, none_empty, top_and, top_mask, fills_top, lanes_same}
use Rattle.bits.proofs.Looking.{length_left_lem}
use Rattle.bits.proofs.Numbers.{field_drop}
use Rattle.bits.proofs.Octets.{length_bits_of}
use Rattle.tone.specs.Tone.{per_character, character_bits, allowed_character}
use Rattle.tone.specs.Reading.{Got, got, element, any_of, character, text}
use Rattle.tone.proofs.Exact.{element_good, element_inside}
use Rattle.tone.proofs.Fronts.{or_true}
use Rattle.tone.proofs.Titles.{refused_low, allowed_low, refused_high, allowed_high}
use Rattle.std.specs.Prelude.{Ok, Err}
use Rattle.bits.specs.Refusals.{on}
use Rattle.bits.specs.declared.refusal.Ground.TheVariants.{Character}
use Rattle.bits.specs.declared.refusal.Refusal.{Refusal}
use Rattle.tone_elements.specs.declared.Seen.{Seen}
use Rattle.tone_elements.specs.Answers.{Within, seen_as, seen_of, characters_of, Sure, Complete, BothAllowed, AllowedAt}
use Rattle.tone_elements.proofs.Steps.{Step, read, seen_there, seen_bad, told_as, step_cong, step_map, characters_as}
use Rattle.tone_elements.proofs.Walks.{one_less}
use Rattle.tone_elements.proofs.Openings.{cut_there, good_there, bad_there}

-- ---- one character

module _ {c : ℕ} where
  pub character_low : c ≤ 31 → false ≡ allowed_character c
  character_low h = sym (refused_low c h)

  pub character_between : 31 < c → c < 127 → true ≡ allowed_character c
  character_between h k = sym (allowed_low c h (omega arith))

  pub character_high : 127 ≤ c → ltb 159 c ≡ allowed_character c
  character_high h = go (leb c 159) refl
    where
      go : (t : Bool) → leb c 159 ≡ t → ltb 159 c ≡ allowed_character c
      go true e = let k = leb-true c 159 e in le-ltb 159 c k ∙ sym (refused_high c h k)
      go false e = let k = leb-false c 159 e in lt-ltb 159 c k ∙ sym (allowed_high c k)

-- what is due of a character
abbrev due : Bool → List ℕ → ℕ → Got ℕ
due unicode m at = element (character_bits unicode) allowed_character 21 (bits_of m) at

module _ (m : List ℕ) (at : ℕ) (unicode : Bool) {s : Step} {b : ℕ} (hb : (b ≡ character_bits unicode) × (b ≤ 16) × (1 ≤ b)) (q : s ≡ seen_of (any_of b (bits_of m) at)) where
  wide : s ≡ seen_of (any_of (character_bits unicode) (bits_of m) at)
  wide = q ∙ ap (λ (w : ℕ). seen_of (any_of w (bits_of m) at)) hb.0

  pub character_cut : {r : Refusal} → s ≡ Err r → Err r ≡ seen_of (due unicode m at)
  character_cut g = let b = cut_there (character_bits unicode) 21 allowed_character m at wide g in rw b.there (told_as b.number b.at b.told)

  module _ {v : Seen ℕ} {t : Bool} (g : s ≡ Ok v) (e : t ≡ allowed_character v.value) where
    pub character_good : t ≡ true → Ok v ≡ seen_of (due unicode m at)
    character_good h = rw (good_there (character_bits unicode) 21 allowed_character m at wide g (sym e ∙ h))

    pub character_bad : {r : Refusal} → r ≡ on Character at → t ≡ false → Err r ≡ seen_of (due unicode m at)
    character_bad f h = rw (f, bad_there (character_bits unicode) 21 allowed_character m at wide g (sym e ∙ h))

pub ruleset characters = (character_low, character_between, character_high, character_cut, character_good, character_bad)

-- ---- so many characters, one by one

-- one character more, with c octets ahead of it
text_step : (unicode : Bool) (n c : ℕ) (m : List ℕ) (p : ℕ) {v q : ℕ} → due unicode m p ≡ got v q
    → seen_as (λ t. c + length t) (text unicode (suc n) (bits_of m) p) ≡ seen_as (λ t. c + per_character unicode + length t) (text unicode n (bits_of m) q)
unfolding text character
text_step true n c m p {v} {q} h =
    rw h (step_map (λ t. c + length t) (λ t. v / 256 ∷ v % 256 ∷ t) (text true n (bits_of m) q) ∙ step_cong (text true n (bits_of m) q) (λ t. omega arith))
text_step false n c m p {v} {q} h =
    rw h (step_map (λ t. c + length t) (λ t. v ∷ t) (text false n (bits_of m) q) ∙ step_cong (text false n (bits_of m) q) (λ t. omega arith))

-- with `more` of the n characters at `at` to come at p
pub record TextWalk (m : List ℕ) (unicode : Bool) (n at p more : ℕ) : Type 0 where
  pub inside : p ≤ 8 * length m
  pub fewer : more ≤ n
  pub goes : seen_as length (text unicode n (bits_of m) at) ≡ seen_as (λ t. (n - more) * per_character unicode + length t) (text unicode more (bits_of m) p)

pub text_begins : (m : List ℕ) (unicode : Bool) (n at : ℕ) → at ≤ 8 * length m → TextWalk m unicode n at at n
text_begins m unicode n at h =
    record { inside = h; fewer = omega arith; goes = step_cong (text unicode n (bits_of m) at) (λ t. none unicode (length t)) }
  where
    none : (unicode : Bool) (k : ℕ) → k ≡ (n - n) * per_character unicode + k
    none true k = omega arith
    none false k = omega arith

module _ {m : List ℕ} {unicode : Bool} {n at p more : ℕ} (w : TextWalk m unicode n at p more) where
  pub text_done : {o f : ℕ} → (o ≡ per_character unicode) × (o ≤ 2) × (1 ≤ o) → p ≡ f → more ≤ 0 → read (octet_count (n * o)) f ≡ characters_of (text unicode n (bits_of m) at)
  unfolding text
  text_done {o} {f} ho e h =
      let z : more ≡ 0 = omega arith in
      characters_as (text unicode n (bits_of m) at) (read (n * o) f) (w.goes ∙ (rw (z, e, ho.0) (ap (λ (x : ℕ). read x f) (whole unicode))))
    where
      whole : (unicode : Bool) → (n - 0) * per_character unicode + 0 ≡ n * per_character unicode
      whole true = omega arith
      whole false = omega arith

  module _ (h : 0 < more) where
    goes_on : {v q : ℕ} → due unicode m p ≡ got v q → TextWalk m unicode n at q (more - 1)
    goes_on {v} {q} d =
        record {
          inside = rw (← length_bits_of m) (element_inside (character_bits unicode) allowed_character 21 (bits_of m) p d);
          fewer = omega (arith, w.fewer);
          goes = w.goes ∙ ap (λ (x : ℕ). seen_as (λ t. (n - more) * per_character unicode + length t) (text unicode x (bits_of m) p)) (one_less more h)
              ∙ text_step unicode (more - 1) ((n - more) * per_character unicode) m p d
              ∙ step_cong (text unicode (more - 1) (bits_of m) q) (λ t. ap (λ (x : ℕ). x + length t) (more_octets unicode));
        }
      where
        more_octets : (unicode : Bool) → (n - more) * per_character unicode + per_character unicode ≡ (n - (more - 1)) * per_character unicode
        more_octets true = omega (arith, w.fewer)
        more_octets false = omega (arith, w.fewer)

    module _ {s : Step} (q : s ≡ seen_of (due unicode m p)) where
      pub text_bad : {r : Refusal} → s ≡ Err r → Err r ≡ characters_of (text unicode n (bits_of m) at)
      unfolding text character
      text_bad {r} g =
          let b = seen_bad (λ v. v) (due unicode m p) (sym g ∙ q) in
          characters_as (text unicode n (bits_of m) at) (Err r) (w.goes ∙ (rw (one_less more h, b.there) (sym (told_as b.number b.at b.told))))

      pub text_on : {v : Seen ℕ} → s ≡ Ok v → TextWalk m unicode n at v.next.0 (more - 1)
      text_on g = goes_on (seen_there (due unicode m p) (sym g ∙ q))

-- all of them, where they are there and allowed
text_all : (m : List ℕ) (unicode : Bool) (n at p k : ℕ) → TextWalk m unicode n at p k → p + k * character_bits unicode ≤ 8 * length m → AllowedAt m p unicode k
    → TextWalk m unicode n at (p + k * character_bits unicode) 0
text_all m unicode n at p zero w h a = let z : p + 0 * character_bits unicode ≡ p = omega arith in rw z w
text_all m unicode n at p (suc k) w h a =
    let b = character_bits unicode in
    let e : p + b + k * b ≡ p + suc k * b = omega (arith, suc-mul k b) in
    let z : p + 0 * b ≡ p = omega arith in
    let here : p + b ≤ length (bits_of m) = rw (length_bits_of m) (omega (arith, e)) in
    let one : due unicode m p ≡ got (field (bits_of m) p b) (p + b) = element_good b allowed_character 21 (bits_of m) p here (rw z at (a.each 0 (omega arith))) in
    let less : suc k - 1 ≡ k = omega arith in
    let next : TextWalk m unicode n at (p + b) k = rw less at (goes_on w (omega arith) one) in
    rw (← e) (text_all m unicode n at (p + b) k next (rw e h) (record { there = rw e a.there; each = λ i l. rw (behind p b i) at (a.each (suc i) (omega arith)) }))
  where
    behind : (p b i : ℕ) → p + suc i * b ≡ p + b + i * b
    behind p b i = omega (arith, suc-mul i b)

-- a product fits where that of the bounds does
pub product_fits : (w : Width) (n b p q : ℕ) → n ≤ p → b ≤ q → T (ltb (p * q) (2 ^ bits w)) → Fits w (n * b)
product_fits w n b p q h k t = record { fits = lt_of_le_of_lt (mul-le-mul h k) (ltb→lt (p * q) (2 ^ bits w) t) }

-- the same, where those that are done are counted
pub counting_begins : (m : List ℕ) (unicode : Bool) (n at : ℕ) → at ≤ 8 * length m → TextWalk m unicode n at at (n - 0)
counting_begins m unicode n at h = let z : n ≡ n - 0 = omega arith in subst (λ (k : ℕ). TextWalk m unicode n at at k) z (text_begins m unicode n at h)

module _ {m : List ℕ} {unicode : Bool} {n at p i : ℕ} (w : TextWalk m unicode n at p (n - i)) where
  pub counting_done : {o f : ℕ} → (o ≡ per_character unicode) × (o ≤ 2) × (1 ≤ o) → p ≡ f → n ≤ i → read (octet_count (n * o)) f ≡ characters_of (text unicode n (bits_of m) at)
  counting_done ho e h = text_done w ho e (omega arith)

  module _ (h : i < n) {s : Step} (q : s ≡ seen_of (due unicode m p)) where
    pub counting_bad : {r : Refusal} → s ≡ Err r → Err r ≡ characters_of (text unicode n (bits_of m) at)
    counting_bad g = text_bad w (omega arith) q g

    pub counting_more : {v : Seen ℕ} → s ≡ Ok v → TextWalk m unicode n at v.next.0 (n - (i + 1))
    counting_more {v} g = let z : n - i - 1 ≡ n - (i + 1) = omega arith in subst (λ (k : ℕ). TextWalk m unicode n at v.next.0 k) z (text_on w (omega arith) q g)

pub ruleset lettering = (counting_begins, counting_done, counting_bad, counting_more, product_fits)

-- ---- so many characters, told at once

-- a character is allowed, or has no bit of `some`, or is 127
abbrev parted : ℕ → ℕ → Bool
parted some c = allowed_character c || (eqb (bit_and c some) 0 || eqb (bit_xor c 127) 0)

-- so one that has such a bit and is not 127 is allowed
module _ (some : ℕ) (p : passes (parted some) 160 ≡ true) where
  told : (c : ℕ) → (bit_and c some ≡ 0 → ⊥) → (bit_xor c 127 ≡ 0 → ⊥) → allowed_character c ≡ true
  told c h k = go (leb c 159) refl
    where
      neither : parted some c ≡ true → allowed_character c ≡ true
      neither e =
          ⊎_elim (λ a. a) (λ b. ⊎_elim (λ x. absurd (h (eqb-true (bit_and c some) 0 x))) (λ x. absurd (k (eqb-true (bit_xor c 127) 0 x))) (or_true (eqb (bit_and c some) 0) (eqb (bit_xor c 127) 0) b))
          (or_true (allowed_character c) (eqb (bit_and c some) 0 || eqb (bit_xor c 127) 0) e)

      go : (t : Bool) → leb c 159 ≡ t → allowed_character c ≡ true
      go true e = let l = leb-true c 159 e in neither (at_each (parted some) 160 p c (omega arith))
      go false e = allowed_high c (leb-false c 159 e)

-- and back: one that is allowed has such a bit and is not 127
abbrev kept : ℕ → ℕ → Bool
kept some c = pick (allowed_character c) (not (eqb (bit_and c some) 0) && not (eqb (bit_xor c 127) 0)) true

-- a test that does not pass
failed : (a b : ℕ) → not (eqb a b) ≡ true → a ≡ b → ⊥
failed a b h e = let z : ◌≡◌ {A = Bool} true false = sym h ∙ ap not (eq-eqb a b e) in let y : ◌≡◌ {A = ℕ} 0 1 = cc in omega (arith, y)

-- each number of one octet that is allowed
kept_below : (some c : ℕ) → passes (kept some) 256 ≡ true → c < 256 → allowed_character c ≡ true → (bit_and c some ≡ 0 → ⊥) × (bit_xor c 127 ≡ 0 → ⊥)
kept_below some c p l a =
    let t : kept some c ≡ (not (eqb (bit_and c some) 0) && not (eqb (bit_xor c 127) 0)) = rw a refl in
    let b = both (not (eqb (bit_and c some) 0)) (not (eqb (bit_xor c 127) 0)) (sym t ∙ at_each (kept some) 256 p c l) in
    (failed (bit_and c some) 0 b.0, failed (bit_xor c 127) 0 b.1)

-- under UNICODE a number with a high octet has such a bit, and is not 127
kept_above : (c : ℕ) → 256 ≤ c → c < 65536 → (bit_and c 0xFF60 ≡ 0 → ⊥) × (bit_xor c 127 ≡ 0 → ⊥)
kept_above c h l = (
  (λ e.
      let a : bit_and c 0xFF60 / 2 ^ 8 ≡ c / 2 ^ 8 % 2 ^ 8 = and_shr c 0xFF60 8 ∙ and_mask (c / 2 ^ 8) 8 in
      omega (arith, e, a)),
  λ e. omega (arith, e, xor_add_and c 127, and_le_r c 127),
)

-- the numbers that tell lanes at once do so in the lane that stands k bits up
abbrev tells : ℕ → ℕ → ℕ → ℕ → ℕ → ℕ → ℕ → Bool
tells w low high some other here k = suits w low high k && (eqb (lane w k some) here && eqb (lane w k other) 127)

-- what `lanes_fine` computes
abbrev fine : ℕ → ℕ → ℕ → ℕ → ℕ
fine low some other x = bit_and (fills low (bit_and x some)) (fills low (bit_xor x other))

module _ (w low high some other here : ℕ) (p : passes (parted here) 160 ≡ true) where
  lane_allowed : (x k z : ℕ) → tells w low high some other here k ≡ true → lane w k z ≤ lane w k (fine low some other x) → bit_and z high ≡ high → allowed_character (lane w k x) ≡ true
  lane_allowed x k z t l e =
      let a = both (suits w low high k) _ t in
      let b = both (eqb (lane w k some) here) _ a.1 in
      let u = fills low (bit_and x some) in
      let v = fills low (bit_xor x other) in
      let n = none_empty w low high k a.0 (bit_and x some) z (omega (arith, and_lane_l w k u v)) e in
      let o = none_empty w low high k a.0 (bit_xor x other) z (omega (arith, and_lane_r w k u v)) e in
      let f : lane w k (bit_and x some) ≡ bit_and (lane w k x) here = and_lane w k x some ∙ ap (λ (y : ℕ). bit_and (lane w k x) y) (eqb-true (lane w k some) here b.0) in
      let g : lane w k (bit_xor x other) ≡ bit_xor (lane w k x) 127 = xor_lane w k x other ∙ ap (λ (y : ℕ). bit_xor (lane w k x) y) (eqb-true (lane w k other) 127 b.1) in
      told here p (lane w k x) (λ q. n (f ∙ q)) (λ q. o (g ∙ q))

  -- of two numbers, in all of c lanes
  lanes_allowed : (c x y : ℕ) → passes (λ k. tells w low high some other here (w * k)) c ≡ true → ((k : ℕ) → w * k + w ≤ 64 → k < c)
      → bit_and (bit_and (fine low some other x) (fine low some other y)) high ≡ high → BothAllowed w x y
  lanes_allowed c x y t f e =
      let u = fine low some other x in
      let v = fine low some other y in
      let here = at_each (λ k. tells w low high some other here (w * k)) c t in
      record {
        first = λ k h. lane_allowed x (w * k) (bit_and u v) (here k (f k h)) (and_lane_l w (w * k) u v) e;
        second = λ k h. lane_allowed y (w * k) (bit_and u v) (here k (f k h)) (and_lane_r w (w * k) u v) e;
      }

-- and back: of allowed characters each lane gets its highest bit, h bits up
module _ (w h low high some other here : ℕ) (e : w ≡ 1 + h) (keeps : (c : ℕ) → c < 2 ^ w → allowed_character c ≡ true → (bit_and c here ≡ 0 → ⊥) × (bit_xor c 127 ≡ 0 → ⊥)) where
  -- what is computed of the numbers in the lane that stands k bits up
  abbrev shows : ℕ → Bool
  shows k = tells w low high some other here k && (eqb (lane w k low) (2 ^ h - 1) && eqb (lane w k high) (2 ^ h))

  -- so does a lane with an allowed character
  lane_fine : (x k : ℕ) → shows k ≡ true → allowed_character (lane w k x) ≡ true → lane w k (fine low some other x) / 2 ^ h ≡ 1
  lane_fine x k t a =
      let b = both (tells w low high some other here k) _ t in
      let d = both (suits w low high k) _ b.0 in
      let f = both (eqb (lane w k some) here) _ d.1 in
      let g = both (eqb (lane w k low) (2 ^ h - 1)) _ b.1 in
      let n = keeps (lane w k x) (mod-lt (x / 2 ^ k) (pow_pos w)) a in
      let ones = eqb-true (lane w k low) (2 ^ h - 1) g.0 in
      let p : lane w k (bit_and x some) ≡ bit_and (lane w k x) here = and_lane w k x some ∙ ap (λ (y : ℕ). bit_and (lane w k x) y) (eqb-true (lane w k some) here f.0) in
      let q : lane w k (bit_xor x other) ≡ bit_xor (lane w k x) 127 = xor_lane w k x other ∙ ap (λ (y : ℕ). bit_xor (lane w k x) y) (eqb-true (lane w k other) 127 f.1) in
      let u = fills_top w h low high k e d.0 ones (bit_and x some) (λ z. n.0 (sym p ∙ z)) in
      let v = fills_top w h low high k e d.0 ones (bit_xor x other) (λ z. n.1 (sym q ∙ z)) in
      ap (λ (y : ℕ). y / 2 ^ h) (and_lane w k (fills low (bit_and x some)) (fills low (bit_xor x other))) ∙ top_and h (lane w k (fills low (bit_and x some))) (lane w k (fills low (bit_xor x other))) u v

  -- so do all of c lanes of two numbers
  lanes_fine_both : (c x y : ℕ) → passes (λ k. shows (w * k)) c ≡ true → w * c ≡ 64 → high < 2 ^ 64 → ((k : ℕ) → k < c → w * k + w ≤ 64) → BothAllowed w x y
      → bit_and (bit_and (fine low some other x) (fine low some other y)) high ≡ high
  lanes_fine_both c x y t m l f a =
      let u = fine low some other x in
      let v = fine low some other y in
      lanes_same w c (bit_and (bit_and u v) high) high (rw m (omega (arith, and_le_r (bit_and u v) high))) (rw m l) (λ k b.
      let s = at_each (λ k. shows (w * k)) c t k b in
      let p = lane_fine x (w * k) s (a.first k (f k b)) in
      let q = lane_fine y (w * k) s (a.second k (f k b)) in
      let r : lane w (w * k) (bit_and u v) / 2 ^ h ≡ 1 = ap (λ (z : ℕ). z / 2 ^ h) (and_lane w (w * k) u v) ∙ top_and h (lane w (w * k) u) (lane w (w * k) v) p q in
      let g = both (eqb (lane w (w * k) low) (2 ^ h - 1)) _ (both (tells w low high some other here (w * k)) _ s).1 in
      let o = eqb-true (lane w (w * k) high) (2 ^ h) g.1 in
      and_lane w (w * k) (bit_and u v) high ∙ ap (bit_and (lane w (w * k) (bit_and u v))) o ∙ top_mask h (lane w (w * k) (bit_and u v)) r ∙ sym o)

-- a sum of which neither part exceeds `low`
pub lanes_fit : (x low : ℕ) → low < 2 ^ 63 → Fits w64 (bit_and x low + low)
lanes_fit x low h = record { fits = omega (arith, and_le_r x low) }

-- each allowed character of one octet is kept, and each of two
octets_kept : (c : ℕ) → c < 256 → allowed_character c ≡ true → (bit_and c 0x60 ≡ 0 → ⊥) × (bit_xor c 127 ≡ 0 → ⊥)
unfolding allowed_character
octets_kept c = kept_below 0x60 c refl

pairs_kept : (c : ℕ) → c < 65536 → allowed_character c ≡ true → (bit_and c 0xFF60 ≡ 0 → ⊥) × (bit_xor c 127 ≡ 0 → ⊥)
unfolding allowed_character
pairs_kept c l a = go (ltb c 256) refl
  where
    go : (t : Bool) → ltb c 256 ≡ t → (bit_and c 0xFF60 ≡ 0 → ⊥) × (bit_xor c 127 ≡ 0 → ⊥)
    go true e = kept_below 0xFF60 c refl (ltb-true c 256 e) a
    go false e = kept_above c (ltb-false c 256 e) l

-- `both_allowed` says so of each character of two numbers
module _ {x y u v : ℕ} {unicode : Bool} where
  pub holds_pairs : unicode ≡ true → u ≡ fine 0x7FFF7FFF7FFF7FFF 0xFF60FF60FF60FF60 0x007F007F007F007F x → v ≡ fine 0x7FFF7FFF7FFF7FFF 0xFF60FF60FF60FF60 0x007F007F007F007F y
      → Sure (eqb (bit_and (bit_and u v) 0x8000800080008000) 0x8000800080008000) (BothAllowed (character_bits unicode) x y)
  unfolding allowed_character
  holds_pairs e eu ev = record {
    so = λ t. rw e (lanes_allowed 16 0x7FFF7FFF7FFF7FFF 0x8000800080008000 0xFF60FF60FF60FF60 0x007F007F007F007F 0xFF60 refl 4 x y refl (λ k h. omega arith)
        (ap₂ (λ (a b : ℕ). bit_and (bit_and a b) 0x8000800080008000) (sym eu) (sym ev) ∙ eqb-true _ _ t));
  }

  pub holds_octets : unicode ≡ false → u ≡ fine 0x7F7F7F7F7F7F7F7F 0x6060606060606060 0x7F7F7F7F7F7F7F7F x → v ≡ fine 0x7F7F7F7F7F7F7F7F 0x6060606060606060 0x7F7F7F7F7F7F7F7F y
      → Sure (eqb (bit_and (bit_and u v) 0x8080808080808080) 0x8080808080808080) (BothAllowed (character_bits unicode) x y)
  unfolding allowed_character
  holds_octets e eu ev = record {
    so = λ t. rw e (lanes_allowed 8 0x7F7F7F7F7F7F7F7F 0x8080808080808080 0x6060606060606060 0x7F7F7F7F7F7F7F7F 0x60 refl 8 x y refl (λ k h. omega arith)
        (ap₂ (λ (a b : ℕ). bit_and (bit_and a b) 0x8080808080808080) (sym eu) (sym ev) ∙ eqb-true _ _ t));
  }

  -- and wherever each is allowed
  pub passes_pairs : unicode ≡ true → u ≡ fine 0x7FFF7FFF7FFF7FFF 0xFF60FF60FF60FF60 0x007F007F007F007F x → v ≡ fine 0x7FFF7FFF7FFF7FFF 0xFF60FF60FF60FF60 0x007F007F007F007F y
      → Complete (eqb (bit_and (bit_and u v) 0x8000800080008000) 0x8000800080008000) (BothAllowed (character_bits unicode) x y)
  unfolding allowed_character
  passes_pairs e eu ev = record {
    passes = λ a. eq-eqb _ _ (ap₂ (λ (a b : ℕ). bit_and (bit_and a b) 0x8000800080008000) eu ev
        ∙ lanes_fine_both 16 15 0x7FFF7FFF7FFF7FFF 0x8000800080008000 0xFF60FF60FF60FF60 0x007F007F007F007F 0xFF60 refl pairs_kept 4 x y refl refl (lit< tt) (λ k h. omega arith)
        (subst (λ (b : Bool). BothAllowed (character_bits b) x y) e a));
  }

  pub passes_octets : unicode ≡ false → u ≡ fine 0x7F7F7F7F7F7F7F7F 0x6060606060606060 0x7F7F7F7F7F7F7F7F x → v ≡ fine 0x7F7F7F7F7F7F7F7F 0x6060606060606060 0x7F7F7F7F7F7F7F7F y
      → Complete (eqb (bit_and (bit_and u v) 0x8080808080808080) 0x8080808080808080) (BothAllowed (character_bits unicode) x y)
  unfolding allowed_character
  passes_octets e eu ev = record {
    passes = λ a. eq-eqb _ _ (ap₂ (λ (a b : ℕ). bit_and (bit_and a b) 0x8080808080808080) eu ev
        ∙ lanes_fine_both 8 7 0x7F7F7F7F7F7F7F7F 0x8080808080808080 0x6060606060606060 0x7F7F7F7F7F7F7F7F 0x60 refl octets_kept 8 x y refl refl (lit< tt) (λ k h. omega arith)
        (subst (λ (b : Bool). BothAllowed (character_bits b) x y) e a));
  }

pub ruleset holding = (lanes_fit, holds_pairs, holds_octets, passes_pairs, passes_octets)

-- ---- those that a number holds

-- how many characters 64 bits are
abbrev per_row : Bool → ℕ
per_row unicode = pick unicode 4 8

row_bits : (unicode : Bool) → per_row unicode * character_bits unicode ≡ 64
row_bits true = refl
row_bits false = refl

-- where character i of them stands
lane_place : (unicode : Bool) (i : ℕ) → i < per_row unicode → i * character_bits unicode + character_bits unicode + character_bits unicode * (per_row unicode - 1 - i) ≡ 64
lane_place true i h = omega arith
lane_place false i h = omega arith

-- characters in c times 64 bits
rows_most : (unicode : Bool) (n c : ℕ) → n * character_bits unicode ≤ 64 * c → n ≤ c * per_row unicode
rows_most true n c h = omega arith
rows_most false n c h = omega arith

rows_least : (unicode : Bool) (n c : ℕ) → 64 * c ≤ n * character_bits unicode → c * per_row unicode ≤ n
rows_least true n c h = omega arith
rows_least false n c h = omega arith

-- n characters at a place are allowed where those of a number are that holds the bits there
held : (m : List ℕ) (at : ℕ) (unicode : Bool) (n : ℕ) {k x : ℕ} → let w = character_bits unicode in Sight k (drop at (bits_of m)) x → n * w ≤ k → n * w ≤ 64 → at + n * w ≤ 8 * length m
    → ((j : ℕ) → w * j + w ≤ 64 → allowed_character (lane w (w * j) x) ≡ true) → AllowedAt m at unicode n
held m at unicode n {k} {x} sees f r l h = record { there = l; each = one }
  where
    one : (i : ℕ) → i < n → allowed_character (field (bits_of m) (at + i * character_bits unicode) (character_bits unicode)) ≡ true
    one i c =
        let w = character_bits unicode in
        let q = per_row unicode - 1 - i in
        let e = lane_place unicode i (omega (arith, rows_most unicode n 1 (omega arith))) in
        let b : i * w + w ≤ n * w = rw (suc-mul i w) at (mul-le-mul {n₁ = suc i} {m₁ = w} {n₂ = n} {m₂ = w} c (omega arith)) in
        let d : 64 - (i * w + w) ≡ w * q = omega (arith, e) in
        let g = sym (field_drop (bits_of m) at (i * w) w) ∙ sees.at (i * w) w (omega (arith, b)) (rw (length_left_lem m at) (omega (arith, b))) ∙ ap (λ (y : ℕ). lane w y x) d in
        rw g (h q (omega (arith, e)))

-- a sight of which all bits below the first s are ones
abbrev ones_below : ℕ → ℕ → ℕ
ones_below s x = bit_or x (18446744073709551615 / 2 ^ s)

-- holds the first s bits
ones_sight : {b : List Bool} {x : ℕ} (s : ℕ) → s ≤ 57 → Sight 57 b x → Sight s b (ones_below s x)
ones_sight {b} {x} s h sees = record { at = go; small = or_lt 64 x (18446744073709551615 / 2 ^ s) sees.small (lt_of_le_of_lt (shr_le 18446744073709551615 s) (lit< tt)) }
  where
    go : (o w : ℕ) → o + w ≤ s → o + w ≤ length b → field b o w ≡ lane w (64 - (o + w)) (ones_below s x)
    go o w l n =
        let k = 64 - (o + w) in
        let below = 18446744073709551615 / 2 ^ s in
        let z : lane w k below ≡ 0 = ap (λ (y : ℕ). y % 2 ^ w) (shr-shr 18446744073709551615 s k ∙ div-eq_of_lt (lt_of_lt_of_le (lit< tt) (pow_mono {i = 64} {j = s + k} (omega arith)))) ∙ zero-mod (2 ^ w) in
        sees.at o w (omega arith) n ∙ sym (or_lane w k x below ∙ ap (bit_or (lane w k x)) z ∙ or_zero_r (lane w k x))

-- `few_allowed` says so of the characters in a sight
pub few_hold : (m : List ℕ) (at : ℕ) (unicode : Bool) (n : ℕ) {s x : ℕ} {r : Bool} → (s ≡ n * character_bits unicode) × (s ≤ 240)
    → (n ≤ 15) × (n * character_bits unicode ≤ 56) × (at + n * character_bits unicode ≤ 8 * length m) → Sight 57 (drop at (bits_of m)) x
    → Sure r (BothAllowed (character_bits unicode) (ones_below s x) (ones_below s x)) → Sure r (AllowedAt m at unicode n)
few_hold m at unicode n {s = s} hs l sees h = record {
  so = λ t. held m at unicode n (ones_sight s (omega (arith, hs.0, l.1)) sees) (omega (arith, hs.0)) (omega (arith, l.1)) l.2 (h.so t).first;
}

-- ---- and back: where each character is allowed, so is each lane

-- a lane of 64 bits is one of so many characters
lane_index : (unicode : Bool) (i : ℕ) → character_bits unicode * i + character_bits unicode ≤ 64 → i < per_row unicode
lane_index true i h = omega arith
lane_index false i h = omega arith

-- a lane of a number that holds the bits behind j of n characters
lane_told : (m : List ℕ) (at : ℕ) (unicode : Bool) (n j : ℕ) {k x p : ℕ} → let w = character_bits unicode in p ≡ at + j * w → Sight k (drop p (bits_of m)) x → AllowedAt m at unicode n
    → (i q : ℕ) → q + i + 1 ≡ per_row unicode → q * w + w ≤ k → j + q < n → allowed_character (lane w (w * i) x) ≡ true
lane_told m at unicode n j {x = x} {p = p} e sees a i q f h l =
    let w = character_bits unicode in
    let c : per_row unicode - 1 - q ≡ i = omega (arith, f) in
    let d : q * w + w + w * i ≡ 64 = rw c at (lane_place unicode q (omega (arith, f))) in
    let g : 64 - (q * w + w) ≡ w * i = omega (arith, d) in
    let y : p + q * w ≡ at + (j + q) * w = omega (arith, e, add-mul j q w) in
    let b : (j + q) * w + w ≤ n * w = rw (suc-mul (j + q) w) at (mul-le-mul {n₁ = suc (j + q)} {m₁ = w} {n₂ = n} {m₂ = w} l (omega arith)) in
    let z = sym (field_drop (bits_of m) p (q * w) w) ∙ sees.at (q * w) w h (rw (length_left_lem m p) (omega (arith, y, b, a.there))) ∙ ap (λ (v : ℕ). lane w v x) g in
    rw (sym z ∙ ap (λ (v : ℕ). field (bits_of m) v w) y) (a.each (j + q) l)

-- w of the ones that stand a bits up
ones_part : (a w : ℕ) → a + w ≤ 64 → 18446744073709551615 / 2 ^ a % 2 ^ w ≡ 2 ^ w - 1
ones_part a w h =
    let b = 64 - a in
    let e : b + a ≡ 64 = omega arith in
    let f : b - w + w ≡ b = omega arith in
    let u : 18446744073709551615 / 2 ^ a ≡ 2 ^ b - 1 = ap (λ (j : ℕ). (2 ^ j - 1) / 2 ^ a) (sym e) ∙ ap (λ (y : ℕ). y / 2 ^ a) (ones_split b a) ∙ high (2 ^ b - 1) a (ones_lt a) in
    ap (λ (y : ℕ). y % 2 ^ w) (u ∙ ap (λ (j : ℕ). 2 ^ j - 1) (sym f) ∙ ones_split (b - w) w) ∙ low (2 ^ (b - w) - 1) w (ones_lt w)

-- whatever is put together with ones is ones
or_ones : (w a : ℕ) → a < 2 ^ w → bit_or a (2 ^ w - 1) ≡ 2 ^ w - 1
or_ones w a h = omega (arith, or_add_and a (2 ^ w - 1), and_mask a w, mod-eq_of_lt h)

-- a character of ones is allowed
ones_allowed : (unicode : Bool) → allowed_character (2 ^ character_bits unicode - 1) ≡ true
ones_allowed true = allowed_high 65535 (lit≤ tt)
ones_allowed false = allowed_high 255 (lit≤ tt)

-- the lanes below n characters are ones
below_told : (unicode : Bool) (n x i : ℕ) → let w = character_bits unicode in n * w + w * i + w ≤ 64 → allowed_character (lane w (w * i) (ones_below (n * w) x)) ≡ true
below_told unicode n x i h =
    let w = character_bits unicode in
    let y = 18446744073709551615 / 2 ^ (n * w) in
    let e : lane w (w * i) y ≡ 2 ^ w - 1 = ap (λ (v : ℕ). v % 2 ^ w) (shr-shr 18446744073709551615 (n * w) (w * i)) ∙ ones_part (n * w + w * i) w h in
    let f : lane w (w * i) (ones_below (n * w) x) ≡ 2 ^ w - 1 = or_lane w (w * i) x y ∙ ap (bit_or (lane w (w * i) x)) e ∙ or_ones w (lane w (w * i) x) (mod-lt (x / 2 ^ (w * i)) (pow_pos w)) in
    rw f (ones_allowed unicode)

-- where n characters end, a lane begins
lanes_left : (unicode : Bool) (n i q : ℕ) → let w = character_bits unicode in q + i + 1 ≡ per_row unicode → n ≤ q → n * w + w * i + w ≤ 64
lanes_left true n i q e h = omega arith
lanes_left false n i q e h = omega arith

-- `few_allowed` passes where they are allowed
pub few_pass : (m : List ℕ) (at : ℕ) (unicode : Bool) (n : ℕ) {s x : ℕ} {r : Bool} → (s ≡ n * character_bits unicode) × (s ≤ 240)
    → (n ≤ 15) × (n * character_bits unicode ≤ 56) × (at + n * character_bits unicode ≤ 8 * length m) → Sight 57 (drop at (bits_of m)) x
    → Complete r (BothAllowed (character_bits unicode) (ones_below s x) (ones_below s x)) → Complete r (AllowedAt m at unicode n)
few_pass m at unicode n {s} {x} hs l sees h = record { passes = λ a. h.passes (record { first = each a; second = each a }) }
  where
    w : ℕ
    w = character_bits unicode

    each : AllowedAt m at unicode n → (i : ℕ) → character_bits unicode * i + character_bits unicode ≤ 64 → allowed_character (lane (character_bits unicode) (character_bits unicode * i) (ones_below s x)) ≡ true
    each a i k = go (ltb q n) refl
      where
        q : ℕ
        q = per_row unicode - 1 - i

        index : q + i + 1 ≡ per_row unicode
        index = omega (arith, lane_index unicode i k)

        go : (t : Bool) → ltb q n ≡ t → allowed_character (lane (character_bits unicode) (character_bits unicode * i) (ones_below s x)) ≡ true
        go true t =
            let c = ltb-true q n t in
            let b : q * w + w ≤ n * w = rw (suc-mul q w) at (mul-le-mul {n₁ = suc q} {m₁ = w} {n₂ = n} {m₂ = w} c (omega arith)) in
            let o : at ≡ at + 0 * w = omega arith in
            let z : 0 + q < n = omega (arith, c) in
            lane_told m at unicode n 0 o (ones_sight s (omega (arith, hs.0, l.1)) sees) a i q index (omega (arith, hs.0, b)) z
        go false t = rw hs.0 (below_told unicode n x i (lanes_left unicode n i q index (ltb-false q n t)))

-- the bits of so many
pub span_pairs : {unicode : Bool} (n : ℕ) → unicode ≡ true → 16 * n ≡ n * character_bits unicode
span_pairs n u = rw u (omega arith)

pub span_octets : {unicode : Bool} (n : ℕ) → unicode ≡ false → 8 * n ≡ n * character_bits unicode
span_octets n u = rw u (omega arith)

pub ruleset spans = (few_hold, few_pass, span_pairs, span_octets)

-- ---- those that rows of 64 bits hold

-- a row's characters
row_holds : (m : List ℕ) (at : ℕ) (unicode : Bool) {x : ℕ} → let w = character_bits unicode in at + 64 ≤ 8 * length m → Sight 64 (drop at (bits_of m)) x
    → ((j : ℕ) → w * j + w ≤ 64 → allowed_character (lane w (w * j) x) ≡ true) → AllowedAt m at unicode (per_row unicode)
row_holds m at unicode l sees h = let e = row_bits unicode in held m at unicode (per_row unicode) sees (omega (arith, e)) (omega (arith, e)) (omega (arith, e)) h

-- where a row stands of which j characters are ahead
row_place : (unicode : Bool) (n c j : ℕ) → j ≡ n - c * per_row unicode → n * character_bits unicode - 64 * c ≡ j * character_bits unicode
row_place true n c j e = omega arith
row_place false n c j e = omega arith

-- character i, which such a row holds
in_row : (m : List ℕ) (at : ℕ) (unicode : Bool) (j k i : ℕ) {p : ℕ} → let w = character_bits unicode in p ≡ at + j * w → AllowedAt m p unicode k → j ≤ i → i < j + k → allowed_character (field (bits_of m) (at + i * w) w) ≡ true
in_row m at unicode j k i e a h l =
    let w = character_bits unicode in
    let s : j + (i - j) ≡ i = omega arith in
    let d : at + j * w + (i - j) * w ≡ at + i * w = omega (arith, add-mul j (i - j) w, ap (λ (x : ℕ). x * w) s) in
    rw d at (rw e at (a.each (i - j) (omega arith)))

-- the first row and the last hold up to 128 bits of characters
module _ (m : List ℕ) (at : ℕ) (unicode : Bool) (n : ℕ) {all x y : ℕ} {r : Bool} (e : (all ≡ n * character_bits unicode) × (all ≤ 240)) (h : (n ≤ 15) × (64 ≤ n * character_bits unicode) × (at + n * character_bits unicode ≤ 8 * length m))
    (first : Sight 64 (drop at (bits_of m)) x) (last : Sight 64 (drop (at + (all - 64)) (bits_of m)) y) (s : Sure r (BothAllowed (character_bits unicode) x y)) (t : r ≡ true) where
  abbrev p : ℕ
  p = per_row unicode

  abbrev w : ℕ
  w = character_bits unicode

  -- of the characters in the first row and in the last
  front : (i : ℕ) → i < p → allowed_character (field (bits_of m) (at + i * w) w) ≡ true
  front i l = (row_holds m at unicode (omega (arith, h.1, h.2)) first (s.so t).first).each i l

  back : (i : ℕ) → n - p ≤ i → i < n → allowed_character (field (bits_of m) (at + i * w) w) ≡ true
  back i k l =
      let b = row_holds m (at + (all - 64)) unicode (omega (arith, e.0, h.1, h.2)) last (s.so t).second in
      in_row m at unicode (n - p) p i (omega (arith, e.0, row_place unicode n 1 (n - p) (omega arith))) b k (omega (arith, rows_least unicode n 1 (omega (arith, h.1))))

  pub two_rows : all ≤ 128 → Sure true (AllowedAt m at unicode n)
  two_rows k = record { so = λ _. record { there = h.2; each = λ i l. go i l (ltb i p) refl } }
    where
      go : (i : ℕ) → i < n → (b : Bool) → ltb i p ≡ b → allowed_character (field (bits_of m) (at + i * w) w) ≡ true
      go i l true b = front i (ltb-true i p b)
      go i l false b = back i (omega (arith, ltb-false i p b, rows_most unicode n 2 (omega (arith, e.0)))) l

  -- with the second and the last but one all of them
  pub four_rows : {x' y' : ℕ} {r' : Bool} → 128 < all → Sight 64 (drop (at + 64) (bits_of m)) x' → Sight 64 (drop (at + (all - 128)) (bits_of m)) y'
      → Sure r' (BothAllowed (character_bits unicode) x' y') → Sure r' (AllowedAt m at unicode n)
  four_rows {r' = r'} k second third s' = record { so = λ t'. record { there = h.2; each = λ i l. go t' i l (ltb i p) (ltb i (2 * p)) (ltb i (n - p)) refl refl refl } }
    where
      least : 2 * p ≤ n
      least = rows_least unicode n 2 (omega (arith, e.0))

      most : n ≤ 4 * p
      most = rows_most unicode n 4 (omega (arith, e.0, e.1))

      go : r' ≡ true → (i : ℕ) → i < n → (a b c : Bool) → ltb i p ≡ a → ltb i (2 * p) ≡ b → ltb i (n - p) ≡ c → allowed_character (field (bits_of m) (at + i * w) w) ≡ true
      go t' i l true b c ea eb ec = front i (ltb-true i p ea)
      go t' i l false true c ea eb ec =
          in_row m at unicode p p i (omega (arith, row_bits unicode)) (row_holds m (at + 64) unicode (omega (arith, e.0, h.2)) second (s'.so t').first) (ltb-false i p ea) (omega (arith, ltb-true i (2 * p) eb))
      go t' i l false false true ea eb ec =
          in_row m at unicode (n - 2 * p) p i (omega (arith, e.0, row_place unicode n 2 (n - 2 * p) (omega arith))) (row_holds m (at + (all - 128)) unicode (omega (arith, e.0, h.2)) third (s'.so t').second)
          (omega (arith, ltb-false i (2 * p) eb, most)) (omega (arith, ltb-true i (n - p) ec, least))
      go t' i l false false false ea eb ec = back i (ltb-false i (n - p) ec) l

-- and back: rows that hold characters which are allowed
module _ (m : List ℕ) (at : ℕ) (unicode : Bool) (n : ℕ) {all : ℕ} (e : (all ≡ n * character_bits unicode) × (all ≤ 240)) (h : (n ≤ 15) × (64 ≤ n * character_bits unicode) × (at + n * character_bits unicode ≤ 8 * length m)) where
  -- the row behind j characters
  row_told : (a : AllowedAt m at unicode n) (j p : ℕ) {x : ℕ} → p ≡ at + j * character_bits unicode → j + per_row unicode ≤ n → Sight 64 (drop p (bits_of m)) x
      → (i : ℕ) → character_bits unicode * i + character_bits unicode ≤ 64 → allowed_character (lane (character_bits unicode) (character_bits unicode * i) x) ≡ true
  row_told a j p f l sees i k =
      let w = character_bits unicode in
      let q = per_row unicode - 1 - i in
      let c = lane_index unicode i k in
      let g : q + i + 1 ≡ per_row unicode = omega (arith, c) in
      let d : q * w + w ≤ 64 = omega (arith, lane_place unicode q (omega (arith, c))) in
      lane_told m at unicode n j f sees a i q g d (omega (arith, g, l))

  -- where the first row and the last do not pass, one is not
  pub two_pass : {x y : ℕ} {r : Bool} → Sight 64 (drop at (bits_of m)) x → Sight 64 (drop (at + (all - 64)) (bits_of m)) y → Complete r (BothAllowed (character_bits unicode) x y) → r ≡ false → Complete false (AllowedAt m at unicode n)
  two_pass {x} {y} first last s t = record { passes = λ a. absurd (false≢true (sym t ∙ s.passes (ends_told a))) }
    where
      ends_told : AllowedAt m at unicode n → BothAllowed (character_bits unicode) x y
      ends_told a =
          let l = rows_least unicode n 1 (omega (arith, h.1)) in
          record {
            first = row_told a 0 at (omega arith) (omega (arith, l)) first;
            second = row_told a (n - per_row unicode) (at + (all - 64)) (omega (arith, e.0, row_place unicode n 1 (n - per_row unicode) (omega arith))) (omega (arith, l)) last;
          }

  -- where they do, the two between them tell
  pub four_pass : {x y : ℕ} {r : Bool} → 128 < all → Sight 64 (drop (at + 64) (bits_of m)) x → Sight 64 (drop (at + (all - 128)) (bits_of m)) y → Complete r (BothAllowed (character_bits unicode) x y) → Complete r (AllowedAt m at unicode n)
  four_pass k second third s = record {
    passes = λ a.
        let l = rows_least unicode n 2 (omega (arith, e.0)) in
        s.passes (record {
          first = row_told a (per_row unicode) (at + 64) (omega (arith, row_bits unicode)) (omega (arith, l)) second;
          second = row_told a (n - 2 * per_row unicode) (at + (all - 128)) (omega (arith, e.0, row_place unicode n 2 (n - 2 * per_row unicode) (omega arith))) (omega (arith, l)) third;
        });
  }

-- where the test passes, it does so in any case
pub always : {P : Type 0} → Complete true P
always = record { passes = λ _. refl }

-- where the test does not pass, nothing is said
pub unsure : {P : Type 0} → Sure false P
unsure = record { so = λ e. absurd (false≢true e) }

pub ruleset rows = (two_rows, four_rows, two_pass, four_pass, always, unsure)

-- ---- all of them

pub all_none : (m : List ℕ) (at : ℕ) (unicode : Bool) (n : ℕ) → n ≡ 0 → Within m at → Sure true (AllowedAt m at unicode n)
all_none m at unicode n e i = rw e (record { so = λ _. record { there = omega (arith, i.inside); each = λ j l. absurd (omega arith) } })

module _ (m : List ℕ) (at : ℕ) (unicode : Bool) (n : ℕ) {s r : ℕ} (hs : (s ≡ n * character_bits unicode) × (s ≤ 240)) (hr : r + at ≡ 8 * length m) (h : s ≤ r) where
  pub all_few : s < 64 → n * character_bits unicode ≤ 56
  all_few k = go unicode hs.0
    where
      go : (u : Bool) → s ≡ n * character_bits u → n * character_bits u ≤ 56
      go true e = omega arith
      go false e = omega arith

  pub all_there : at + n * character_bits unicode ≤ 8 * length m
  all_there = rw (← hs.0) (omega arith)

  pub all_many : 64 ≤ s → 64 ≤ n * character_bits unicode
  all_many k = rw (← hs.0) k

-- fewer bits are left than they have
pub all_cut : (m : List ℕ) (at : ℕ) (unicode : Bool) (n : ℕ) {s r : ℕ} → (s ≡ n * character_bits unicode) × (s ≤ 240) → r + at ≡ 8 * length m → r < s → Complete false (AllowedAt m at unicode n)
all_cut m at unicode n hs hr h = record { passes = λ a. absurd (omega (arith, hs.0, hr, h, a.there)) }

pub ruleset alls = (all_none, all_few, all_there, all_many, all_cut, always, unsure)

-- so they are read
pub text_told : (m : List ℕ) (at : ℕ) (unicode : Bool) (n : ℕ) {s o : ℕ} {t : Bool} → (s ≡ n * character_bits unicode) × (s ≤ 240) → (o ≡ per_character unicode) × (o ≤ 2) × (1 ≤ o) → Within m at
    → Sure t (AllowedAt m at unicode n) → t ≡ true → read (octet_count (n * o)) (at + s) ≡ characters_of (text unicode n (bits_of m) at)
text_told m at unicode n hs ho i a t =
    text_done (text_all m unicode n at at n (text_begins m unicode n at i.inside) (a.so t).there (a.so t)) ho (ap (λ (x : ℕ). at + x) (sym hs.0)) (omega arith)

pub ruleset texts = (text_told, product_fits)

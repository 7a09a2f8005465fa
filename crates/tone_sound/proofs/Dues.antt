-- What a value that was read says of the bits that it was read from.
use Prim.Native.Nat.{ℕ, zero, suc, ◌+◌, ◌-◌, ◌*◌, ◌/◌, ◌%◌, ◌^◌, ◌≤◌, ◌<◌}
use native.Mathlib.Omega.{arith}
use native.Mathlib.Nat.{suc-mul}
use mathlib.Core.Path.{◌≡◌, refl, sym, ap, ap₂, subst, ◌∙◌}
use mathlib.Core.Bool.{Bool, true, false, ◌||◌}
use mathlib.Core.List.{List, [], ◌∷◌, ◌++◌}
use mathlib.Core.Logic.{⊎_elim}
use lib.ListN.{length, drop}
use lib.Dec.{leb, ltb, eqb}
use lib.Pow.{split, shr-shr}
use borrow.Author.Tests.{ltb-false, le-leb, leb-true, eq-eqb, eqb-true}
use Rattle.bits.specs.Choice.{pick}
use Rattle.bits.specs.Bits.{bits_of, field}
use Rattle.bits.specs.Window.{Sight}
use Rattle.bits.proofs.Choice.{pick_elim, both}
use Rattle.bits.proofs.Numbers.{field_drop}
use Rattle.bits.proofs.Looking.{length_left_lem}
use Rattle.bits.proofs.Octets.{length_bits_of}
use Rattle.tone.specs.Table.{entry, width, allowed, is_instruction}
use Rattle.tone.specs.Tone.{character_bits, allowed_character}
use Rattle.tone.specs.Writing.{programming, unicode_part, sound}
use Rattle.tone.specs.Reading.{Got, got, bad, onward, element, filled, whether_unicode, sound_part, parts, command, character, text, instruction_due, body_due}
use Rattle.tone.proofs.Fronts.{or_true}
use Rattle.tone_tell.specs.Telling.{begins, bits_on, fault_on}
use Rattle.tone_elements.specs.Answers.{AllowedAt}
use Rattle.tone_elements.proofs.Seeing.{instruction_width}
use Rattle.tone_elements.proofs.Steps.{onward_got, onward_made}

-- ---- one element

module _ (w : ℕ) (fine : ℕ → Bool) (number : ℕ) (l : List Bool) (at : ℕ) where
  -- what is so of an element that was read
  abbrev Read : Got ℕ → Type 0
  Read (got a p) = (at + w ≤ length l) × (a ≡ field l at w) × (p ≡ at + w) × (fine a ≡ true)
  Read (bad n p e) = Unit {0}

  -- it was read, or nothing is said
  either : Read (element w fine number l at)
  unfolding element
  either =
      pick_elim Read (ltb (length l) (at + w)) (λ _. tt) (λ h.
      pick_elim Read (fine (field l at w)) (λ f. (ltb-false (length l) (at + w) h, refl, refl, f)) (λ _. tt))

  -- its bits are there, they spell it, and it is fine
  pub element_read : {a p : ℕ} → element w fine number l at ≡ got a p → (at + w ≤ length l) × (a ≡ field l at w) × (p ≡ at + w) × (fine a ≡ true)
  element_read {a} {p} e = subst Read e either

-- in a sight that shows it o bits in
pub element_seen : (m : List ℕ) (at : ℕ) {k x : ℕ} → Sight k (drop at (bits_of m)) x → (q o w : ℕ) → (fine : ℕ → Bool) (number : ℕ) {a p : ℕ} → q ≡ at + o → o + w ≤ k → element w fine number (bits_of m) q ≡ got a p
    → (q + w ≤ 8 * length m) × (a ≡ x / 2 ^ (64 - (o + w)) % 2 ^ w) × (p ≡ q + w) × (fine a ≡ true)
element_seen m at {k} {x} s q o w fine number e h r =
    let g = element_read w fine number (bits_of m) q r in
    let l : q + w ≤ 8 * length m = rw (← length_bits_of m) g.0 in
    let f : field (bits_of m) q w ≡ x / 2 ^ (64 - (o + w)) % 2 ^ w = ap (λ (y : ℕ). field (bits_of m) y w) e ∙ sym (field_drop (bits_of m) at o w) ∙ s.at o w h (rw (length_left_lem m at) (omega arith)) in
    (l, g.1 ∙ f, g.2, g.3)

-- ---- an instruction

-- none has more payload bits than a note
is_narrow : (k : ℕ) → is_instruction k ≡ true → width k ≤ 9
is_narrow k h = instruction_width k (leb-true 1 k (both (leb 1 k) (leb k 5) h).0)

-- ten bits that begin one of the table: a note, a style, and another
note_begins : (y : ℕ) → y / 128 ≡ 1 → y / 8 % 16 ≤ 12 → y % 8 ≤ 5 → begins y ≡ true
note_begins y h k l = rw (eq-eqb (y / 128) 1 h, le-leb (y / 8 % 16) 12 k, le-leb (y % 8) 5 l) refl

style_begins : (y : ℕ) → y / 128 ≡ 3 → y / 32 % 4 ≤ 2 → begins y ≡ true
style_begins y h k = rw (h, le-leb (y / 32 % 4) 2 k) refl

-- an instruction of the table on top of x is told by its first ten bits
table_told : (x k c : ℕ) → x < 2 ^ 64 → k ≡ x / 2 ^ 61 → is_instruction k ≡ true → c ≡ x / 2 ^ (64 - (3 + width k)) % 2 ^ width k → allowed k c ≡ true
    → (begins (x / 2 ^ 54) ≡ true) × (3 + width k ≡ bits_on x)
unfolding width allowed bits_on
table_told x zero c h e i d f = let z : ◌≡◌ {A = ℕ} 0 1 = cc in absurd (omega (arith, z))
table_told x (suc zero) c h e i d f =
    let b = both (leb (c / 32) 12) (leb (c / 4 % 8) 5) f in
    let v = leb-true (c / 32) 12 b.0 in
    let u = leb-true (c / 4 % 8) 5 b.1 in
    let c' : c ≡ x / 2 ^ 52 % 512 = d in
    (note_begins (x / 2 ^ 54) (omega (arith, e)) (omega (arith, c', v)) (omega (arith, c', u)), rw (← e) refl)
table_told x (suc (suc zero)) c h e i d f = let k : x / 2 ^ 54 / 128 ≡ 2 = omega (arith, e) in (rw k refl, rw (← e) refl)
table_told x (suc (suc (suc zero))) c h e i d f =
    let v = leb-true c 2 f in
    let c' : c ≡ x / 2 ^ 59 % 4 = d in
    (style_begins (x / 2 ^ 54) (omega (arith, e)) (omega (arith, c', v)), rw (← e) refl)
table_told x (suc (suc (suc (suc zero)))) c h e i d f = let k : x / 2 ^ 54 / 128 ≡ 4 = omega (arith, e) in (rw k refl, rw (← e) refl)
table_told x (suc (suc (suc (suc (suc zero))))) c h e i d f = let k : x / 2 ^ 54 / 128 ≡ 5 = omega (arith, e) in (rw k refl, rw (← e) refl)
table_told x (suc (suc (suc (suc (suc (suc k)))))) c h e i d f =
    let n = suc (suc (suc (suc (suc (suc k))))) in
    let l = leb-true n 5 (both (leb 1 n) (leb n 5) i).1 in
    absurd (omega (arith, l))

module _ (m : List ℕ) where
  -- an instruction that was read has no fault in a sight, and the bits that are told there
  pub due_told : (p : ℕ) {k z e q : ℕ} → Sight k (drop p (bits_of m)) z → 12 ≤ k → instruction_due (bits_of m) p ≡ got e q → (fault_on z ≡ 0) × (q ≡ p + bits_on z)
  unfolding instruction_due fault_on
  due_told p {k} {z} s h d =
      let a = onward_got (element 3 is_instruction 6 (bits_of m) p) (λ i t. onward (element (width i) (allowed i) 6 (bits_of m) t) (λ c u. got (entry i c) u) bad) d in
      let i = a.0 in
      let b = onward_made (element (width i) (allowed i) 6 (bits_of m) a.1) (λ c. entry i c) a.3 in
      let f = element_seen m p s p 0 3 is_instruction 6 (omega arith) (omega arith) a.2 in
      let w = is_narrow i f.3 in
      let g = element_seen m p s a.1 3 (width i) (allowed i) 6 f.2 (omega (arith, w)) b.1 in
      let t = table_told z i b.0 s.small (omega (arith, s.small, f.1)) f.3 g.1 g.3 in
      (rw t.0 refl, omega (arith, f.2, g.2, t.1))

  -- one that was read, and then n more
  pub body_first : (n p : ℕ) {b : List ℕ} {r : ℕ} → body_due (suc n) (bits_of m) p ≡ got b r
      → (e : ℕ) × (q : ℕ) × (c : List ℕ) × (instruction_due (bits_of m) p ≡ got e q) × (body_due n (bits_of m) q ≡ got c r)
  unfolding body_due
  body_first n p d =
      let a = onward_got (instruction_due (bits_of m) p) (λ e t. onward (body_due n (bits_of m) t) (λ c u. got (e ∷ c) u) bad) d in
      let c = onward_made (body_due n (bits_of m) a.1) (λ c. a.0 ∷ c) a.3 in
      (a.0, a.1, c.0, a.2, c.1)

-- ---- the command

-- b bits more of a number than those above them
more_bits : (x a b : ℕ) {c d : ℕ} → x / 2 ^ (a + b) ≡ c → x / 2 ^ a % 2 ^ b ≡ d → x / 2 ^ a ≡ c * 2 ^ b + d
more_bits x a b e f = sym (split (x / 2 ^ a) b) ∙ ap₂ (λ (u v : ℕ). u * 2 ^ b + v) (shr-shr x a b ∙ e) f

-- nothing is above the first octet
first_octet : (x : ℕ) {n c : ℕ} → x < 2 ^ 64 → x / 2 ^ 56 % 256 ≡ n → n ≡ c → x / 2 ^ 56 ≡ c
first_octet x h e f = omega (arith, h, e, f)

module _ (m : List ℕ) (at : ℕ) {x : ℕ} (s : Sight 57 (drop at (bits_of m)) x) where
  -- a part and its filler bit that were read o bits in
  filled_seen : (q o code : ℕ) {v p : ℕ} → q ≡ at + o → o + 8 ≤ 57 → filled code (bits_of m) q ≡ got v p
      → (x / 2 ^ (64 - (o + 7)) % 2 ^ 7 ≡ code) × (x / 2 ^ (64 - (o + 7 + 1)) % 2 ^ 1 ≡ 0) × (p ≡ at + (o + 8))
  unfolding filled
  filled_seen q o code e h d =
      let a = onward_got (element 7 (eqb code) 3 (bits_of m) q) (λ _ t. element 1 (eqb 0) 8 (bits_of m) t) d in
      let f = element_seen m at s q o 7 (eqb code) 3 e (omega arith) a.2 in
      let g = element_seen m at s a.1 (o + 7) 1 (eqb 0) 8 (omega (arith, f.2)) (omega arith) a.3 in
      (sym f.1 ∙ sym (eqb-true code a.0 f.3), sym g.1 ∙ sym (eqb-true 0 _ g.3), omega (arith, f.2, g.2))

  -- what the first bits are where a command was read
  abbrev pub Called : Bool → ℕ → Type 0
  Called false p = (x / 2 ^ 41 ≡ 75037) × (p ≡ at + 23)
  Called true p = (x / 2 ^ 33 ≡ 27599389) × (p ≡ at + 31)

  -- they are so
  pub command_seen : {u : Bool} {p : ℕ} → command (bits_of m) at ≡ got u p → Called u p
  unfolding command parts whether_unicode sound_part
  command_seen {u} {p} d =
      let l = bits_of m in
      let fine : ℕ → Bool = λ n. eqb n 2 || eqb n 3 in
      let a = onward_got (element 8 fine 3 l at) (λ n q. parts n l q) d in
      let n = a.0 in
      let i = element_seen m at s at 0 8 fine 3 (omega arith) (omega arith) a.2 in
      let b = onward_got (filled programming l a.1) (λ _ q. onward (whether_unicode n l q) (λ w r. sound_part w l r) bad) a.3 in
      let f = filled_seen a.1 8 programming i.2 (omega arith) b.2 in
      let c = onward_got (whether_unicode n l b.1) (λ w r. sound_part w l r) b.3 in
      let g = onward_made (element 7 (eqb sound) 3 l c.1) (λ _. c.0) c.3 in
      let i₁ : x / 2 ^ 56 % 256 ≡ n = sym i.1 in
      let f₁ : x / 2 ^ 49 % 128 ≡ 37 = f.0 in
      let f₂ : x / 2 ^ 48 % 2 ≡ 0 = f.1 in
      subst (λ (w : Bool). Called w p) (sym g.2) (⊎_elim
      (λ t. two (eqb-true n 2 t) i₁ f₁ f₂ f.2 c.2 g.1)
      (λ t. three (eqb-true n 3 t) i₁ f₁ f₂ f.2 c.2 g.1)
      (or_true (eqb n 2) (eqb n 3) i.3))
    where
      -- without UNICODE
      two : {n q r v : ℕ} {w : Bool} → n ≡ 2 → x / 2 ^ 56 % 256 ≡ n → x / 2 ^ 49 % 128 ≡ 37 → x / 2 ^ 48 % 2 ≡ 0 → q ≡ at + 16 → whether_unicode n (bits_of m) q ≡ got w r
          → element 7 (eqb sound) 3 (bits_of m) r ≡ got v p → Called w p
      two {n} {q} {r} {v} {w} e i f g h c d =
          let t : x / 2 ^ 56 ≡ 2 = first_octet x s.small i e in
          let c' : got false q ≡ got w r = rw e at c in
          let ew : false ≡ w = cc in
          let er : q ≡ r = cc in
          let k = element_seen m at s r 16 7 (eqb sound) 3 (sym er ∙ h) (omega arith) d in
          let k₁ : x / 2 ^ 41 % 128 ≡ 29 = sym k.1 ∙ sym (eqb-true sound v k.3) in
          subst (λ (y : Bool). Called y p) ew (more_bits x 41 7 (more_bits x 48 1 (more_bits x 49 7 t f) g) k₁, omega (arith, k.2, er, h))

      -- with UNICODE
      three : {n q r v : ℕ} {w : Bool} → n ≡ 3 → x / 2 ^ 56 % 256 ≡ n → x / 2 ^ 49 % 128 ≡ 37 → x / 2 ^ 48 % 2 ≡ 0 → q ≡ at + 16 → whether_unicode n (bits_of m) q ≡ got w r
          → element 7 (eqb sound) 3 (bits_of m) r ≡ got v p → Called w p
      three {n} {q} {r} {v} {w} e i f g h c d =
          let t : x / 2 ^ 56 ≡ 3 = first_octet x s.small i e in
          let c' : onward (filled unicode_part (bits_of m) q) (λ _ t. got true t) bad ≡ got w r = rw e at c in
          let o = onward_made (filled unicode_part (bits_of m) q) (λ _. true) c' in
          let j = filled_seen q 16 unicode_part h (omega arith) o.1 in
          let j₁ : x / 2 ^ 41 % 128 ≡ 34 = j.0 in
          let j₂ : x / 2 ^ 40 % 2 ≡ 0 = j.1 in
          let k = element_seen m at s r 24 7 (eqb sound) 3 j.2 (omega arith) d in
          let k₁ : x / 2 ^ 33 % 128 ≡ 29 = sym k.1 ∙ sym (eqb-true sound v k.3) in
          subst (λ (y : Bool). Called y p) (sym o.2) (more_bits x 33 7 (more_bits x 40 1 (more_bits x 41 7 (more_bits x 48 1 (more_bits x 49 7 t f) g) j₁) j₂) k₁, omega (arith, k.2, j.2))

-- ---- the title

-- characters that were read are there and allowed
pub text_read : (m : List ℕ) (u : Bool) (n p : ℕ) {t : List ℕ} {q : ℕ} → p ≤ 8 * length m → text u n (bits_of m) p ≡ got t q → AllowedAt m p u n × (q ≡ p + n * character_bits u)
unfolding text character
text_read m u zero p {t} {q} h d = let e : p ≡ q = cc in (record { there = omega arith; each = λ i l. absurd (omega arith) }, omega (arith, e))
text_read m u (suc n) p {t} {q} h d =
    let l = bits_of m in
    let w = character_bits u in
    let made : ℕ → List ℕ = λ c. pick u (c / 256 ∷ c % 256 ∷ []) (c ∷ []) in
    let a = onward_got (onward (element w allowed_character 21 l p) (λ c r. got (made c) r) bad) (λ c r. onward (text u n l r) (λ v z. got (c ++ v) z) bad) d in
    let b = onward_made (element w allowed_character 21 l p) made a.2 in
    let f = element_read w allowed_character 21 l p b.1 in
    let g = onward_made (text u n l a.1) (λ v. a.0 ++ v) a.3 in
    let i : p + w ≤ 8 * length m = rw (← length_bits_of m) f.0 in
    let r = text_read m u n a.1 (rw f.2 i) g.1 in
    let e : p + suc n * w ≡ p + w + n * w = omega (arith, suc-mul n w) in
    let c : allowed_character (field l p w) ≡ true = rw (← f.1) f.3 in
    let more : (j : ℕ) → j < n → allowed_character (field l (p + w + j * w) w) ≡ true = λ j k. subst (λ (y : ℕ). allowed_character (field l (y + j * w) w) ≡ true) f.2 (r.0.each j k) in
    (record { there = omega (arith, e, f.2, r.0.there); each = first w c more }, omega (arith, e, f.2, r.1))
  where
    -- the first character, and those behind it
    first : (w : ℕ) → allowed_character (field (bits_of m) p w) ≡ true → ((j : ℕ) → j < n → allowed_character (field (bits_of m) (p + w + j * w) w) ≡ true)
        → (j : ℕ) → j < suc n → allowed_character (field (bits_of m) (p + j * w) w) ≡ true
    first w c more zero k = let z : p + 0 * w ≡ p = omega arith in rw z c
    first w c more (suc j) k = let z : p + suc j * w ≡ p + w + j * w = omega (arith, suc-mul j w) in rw z (more j (omega arith))

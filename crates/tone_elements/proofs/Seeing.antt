-- An instruction of the table that stands on top of a sight is the one that is due.
use Prim.Native.Nat.{ℕ, zero, suc, ◌+◌, ◌-◌, ◌*◌, ◌/◌, ◌%◌, ◌^◌, ◌≤◌, ◌<◌}
use native.Mathlib.Omega.{arith}
use native.Mathlib.Nat.{add-zero, lt_of_lt_of_le, mod-lt}
use mathlib.Core.Path.{◌≡◌, refl, sym, ap, ◌∙◌}
use mathlib.Core.Bool.{Bool, true}
use mathlib.Core.List.{List}
use lib.ListN.{length, drop}
use lib.Dec.{eqb}
use lib.Pow.{pow_mono, pow_pos}
use borrow.Author.Tests.{ne_eqb, eqb-true, le-leb}
use Rattle.bits.specs.Choice.{pick}
use Rattle.bits.specs.Bits.{bits_of, field}
use Rattle.bits.specs.Window.{Sight}
use Rattle.bits.proofs.Choice.{pick_elim}
use Rattle.bits.proofs.Numbers.{field_drop}
use Rattle.bits.proofs.Octets.{length_bits_of}
use Rattle.bits.proofs.Looking.{length_left_lem}
use Rattle.tone.specs.Table.{entry, kind, note_of, duration_of, width, allowed, is_instruction}
use Rattle.tone.specs.Reading.{got, element, instruction_due}
use Rattle.tone_elements.specs.Answers.{seen_as, note_in}
use Rattle.tone.proofs.Exact.{element_good}
use Rattle.tone_elements.proofs.Steps.{Step, read}
use Rattle.tone_elements.proofs.Elements.{note_width}

-- s is what is due of an instruction at a place, in every message that has 12 bits there, on top of x: none has more
pub record OnTop (at x : ℕ) (s : Step) : Type 0 where
  pub due : (m : List ℕ) (n : ℕ) → 12 ≤ n → Sight n (drop at (bits_of m)) x → at + 12 ≤ 8 * length m → s ≡ seen_as note_in (instruction_due (bits_of m) at)

-- no instruction has more payload bits than a note
pub instruction_width : (k : ℕ) → 1 ≤ k → width k ≤ 9
unfolding width
instruction_width zero h = absurd (omega arith)
instruction_width (suc zero) h = omega arith
instruction_width (suc (suc zero)) h = omega arith
instruction_width (suc (suc (suc zero))) h = omega arith
instruction_width (suc (suc (suc (suc zero)))) h = omega arith
instruction_width (suc (suc (suc (suc (suc zero))))) h = omega arith
instruction_width (suc (suc (suc (suc (suc (suc k)))))) h = omega arith

-- the kind tells whether an entry is a note
note_of_lem : (k p : ℕ) → p < 65536 → note_in (entry k p) ≡ pick (eqb k 1) 1 0
note_of_lem k p h = let e : kind (entry k p) ≡ k = omega arith in rw e refl

-- a note's code in a sight; its value and its duration stand in the sight too
abbrev code : ℕ → ℕ
code x = x / 2 ^ 52 % 2 ^ 9

value_in : (x : ℕ) → note_of (code x) ≡ x / 2 ^ 57 % 16
value_in x = omega arith

duration_in : (x : ℕ) → duration_of (code x) ≡ x / 2 ^ 54 % 8
duration_in x = omega arith

-- a note that the table has
note_good : (x : ℕ) → x / 2 ^ 57 % 16 ≤ 12 → x / 2 ^ 54 % 8 ≤ 5 → allowed 1 (code x) ≡ true
unfolding allowed
note_good x h l = rw (value_in x, duration_in x, le-leb (x / 2 ^ 57 % 16) 12 h, le-leb (x / 2 ^ 54 % 8) 5 l) refl

-- a style's width
style_width : 2 ≡ width 3
unfolding width
style_width = refl

-- style 3 is all that is missing, where it is no note
other_good : (x w : ℕ) → (x / 2 ^ 61 ≡ 1 → ⊥) → (x / 2 ^ 59 ≡ 15 → ⊥) → w ≡ width (x / 2 ^ 61) → allowed (x / 2 ^ 61) (x / 2 ^ (64 - (3 + w)) % 2 ^ w) ≡ true
unfolding allowed
other_good x w h s e =
    rw (ne_eqb (x / 2 ^ 61) 1 h)
    (pick_elim (λ (b : Bool). b ≡ true) (eqb (x / 2 ^ 61) 3)
    (λ t.
    let k = eqb-true (x / 2 ^ 61) 3 t in
    let v : w ≡ 2 = e ∙ ap width k ∙ sym style_width in
    rw v (le-leb (x / 2 ^ 59 % 2 ^ 2) 2 (omega arith)))
    (λ _. refl))

module _ (at x : ℕ) where
  -- in a message with the bits on top of x
  module _ (m : List ℕ) (n : ℕ) (long : 12 ≤ n) (s : Sight n (drop at (bits_of m)) x) (whole : at + 12 ≤ 8 * length m) where
    -- a field of the instruction is a field of x
    part_is : (o w : ℕ) → o + w ≤ 12 → field (bits_of m) (at + o) w ≡ x / 2 ^ (64 - (o + w)) % 2 ^ w
    part_is o w h = sym (field_drop (bits_of m) at o w) ∙ s.at o w (omega arith) (rw (length_left_lem m at) (omega arith))

    id_is : field (bits_of m) at 3 ≡ x / 2 ^ 61
    id_is = let l = s.small in ap (λ (i : ℕ). field (bits_of m) i 3) (sym (add-zero at)) ∙ part_is 0 3 (omega arith) ∙ omega arith

    -- the instruction is not cut short
    bits_there : (w : ℕ) → w ≤ 12 → at + w ≤ length (bits_of m)
    bits_there w h = rw (length_bits_of m) (omega arith)

    rest_there : (w : ℕ) → w ≤ 9 → at + 3 + w ≤ length (bits_of m)
    rest_there w h = rw (length_bits_of m) (omega arith)

    -- an instruction of kind k, w payload bits wide
    module _ (k w : ℕ) (ek : x / 2 ^ 61 ≡ k) (some : 1 ≤ k) (most : k ≤ 5) (ew : w ≡ width k) where
      narrow : w ≤ 9
      narrow = rw ew (instruction_width k some)

      id_good : element 3 is_instruction 6 (bits_of m) at ≡ got k (at + 3)
      id_good =
          let e : field (bits_of m) at 3 ≡ k = id_is ∙ ek in
          rw (element_good 3 is_instruction 6 (bits_of m) at (bits_there 3 (omega arith)) (rw (e, le-leb 1 k some, le-leb k 5 most) refl), e)

      code_is : field (bits_of m) (at + 3) w ≡ x / 2 ^ (64 - (3 + w)) % 2 ^ w
      code_is = part_is 3 w (omega (arith, narrow))

      right_code : allowed k (x / 2 ^ (64 - (3 + w)) % 2 ^ w) ≡ true → read (note_in (entry k (x / 2 ^ (64 - (3 + w)) % 2 ^ w))) (at + 3 + w) ≡ seen_as note_in (instruction_due (bits_of m) at)
      unfolding instruction_due
      right_code f = rw (id_good, ← ew, element_good w (allowed k) 6 (bits_of m) (at + 3) (rest_there w narrow) (rw code_is f), code_is)

  -- ---- a note or a pause, and any other

  pub seen_note : x / 2 ^ 61 ≡ 1 → x / 2 ^ 57 % 16 ≤ 12 → x / 2 ^ 54 % 8 ≤ 5 → OnTop at x (read 1 (at + 12))
  seen_note note value h =
      let v = note_of_lem 1 (code x) (omega arith) in
      let e : at + 3 + 9 ≡ at + 12 = omega arith in
      record { due = λ m n l s w. rw (← v, ← e) (right_code m n l s w 1 9 note (omega arith) (omega arith) note_width (note_good x value h)) }

  pub seen_other : {w : ℕ} → (x / 2 ^ 61 ≡ 1 → ⊥) → (x / 2 ^ 61 ≡ 0 → ⊥) → x / 2 ^ 61 ≤ 5 → (x / 2 ^ 59 ≡ 15 → ⊥) → (w ≡ width (x / 2 ^ 61)) × (w ≤ 14) → OnTop at x (read 0 (at + 3 + w))
  seen_other {w} h z l y ew =
      let p = x / 2 ^ (64 - (3 + w)) % 2 ^ w in
      let small : p < 2 ^ w = mod-lt (x / 2 ^ (64 - (3 + w))) (pow_pos w) in
      let fits : p < 65536 = lt_of_lt_of_le small (pow_mono {j = 16} (omega (arith, ew.1))) in
      let v : note_in (entry (x / 2 ^ 61) p) ≡ 0 = note_of_lem (x / 2 ^ 61) p fits ∙ (rw (ne_eqb (x / 2 ^ 61) 1 h) refl) in
      record { due = λ m n g s t. rw (← v) (right_code m n g s t (x / 2 ^ 61) w refl (omega arith) l ew.0 (other_good x w h y ew.0)) }

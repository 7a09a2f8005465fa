-- What each return of the functions that read an element shows.
use Prim.Native.Nat.{ℕ, zero, suc, ◌+◌, ◌-◌, ◌*◌, ◌/◌, ◌%◌, ◌^◌, ◌≤◌, ◌<◌}
use native.Mathlib.Omega.{arith}
use native.Mathlib.Nat.{add-zero, lt_of_lt_of_le}
use mathlib.Core.Path.{◌≡◌, refl, sym, ap, ◌∙◌}
use mathlib.Core.Bool.{Bool, true, false}
use mathlib.Core.List.{List}
use lib.ListN.{length, drop}
use lib.Dec.{eqb, lit≤}
use lib.Pow.{pow_mono}
use borrow.Author.Tests.{ne_eqb, le-leb, lt-leb}
use mir.Val.{Fits}
use mir.Syntax.{w32}
use Rattle.bits.specs.Bits.{bits_of, field}
use Rattle.bits.specs.Window.{Look}
use Rattle.bits.proofs.Octets.{length_bits_of}
use Rattle.bits.proofs.Looking.{seen}
use Rattle.tone.specs.Table.{width, allowed, is_instruction}
use Rattle.tone.specs.Tone.{recallable}
use Rattle.tone.specs.Reading.{got, element, header_due, instruction_due}
use Rattle.std.specs.Prelude.{Err}
use Rattle.bits.specs.Refusals.{on, refusal}
use Rattle.bits.specs.declared.refusal.Ground.TheVariants.{Code, CutShort}
use Rattle.bits.specs.declared.refusal.Refusal.{Refusal}
use Rattle.tone_elements.specs.Answers.{all_known, seen_of}
use Rattle.tone.proofs.Exact.{element_good, element_bad, element_cut}
use Rattle.tone_elements.proofs.Steps.{read}
use Rattle.tone_elements.proofs.Headers.{any_recalled}

-- r bits are left at a place
module _ (m : List ℕ) (at : ℕ) {r : ℕ} (hr : r + at ≡ 8 * length m) where
  enough : {w : ℕ} → w ≤ r → at + w ≤ length (bits_of m)
  enough h = rw (length_bits_of m) (omega arith)

  short : {w : ℕ} → r < w → length (bits_of m) < at + w
  short h = rw (length_bits_of m) (omega arith)

  -- ---- one element

  pub cut_is : (w : ℕ) (fine : ℕ → Bool) (number : ℕ) → {e : Refusal} → e ≡ on CutShort at → r < w → Err e ≡ seen_of (element w fine number (bits_of m) at)
  cut_is w fine number q h = rw (q, element_cut w fine number (bits_of m) at (short h))

  -- x is what was seen there
  module _ {x : ℕ} (lk : Look (drop at (bits_of m)) x) where
    first_field : (w : ℕ) → w ≤ 24 → w ≤ r → field (bits_of m) at w ≡ x / 2 ^ (24 - (0 + w)) % 2 ^ w
    first_field w h k = ap (λ (n : ℕ). field (bits_of m) n w) (sym (add-zero at)) ∙ seen m at 0 w lk (omega arith) (omega arith)

    module _ (w : ℕ) (fine : ℕ → Bool) (number : ℕ) {v : ℕ} (small : w ≤ 24) (whole : w ≤ r) (hv : (v ≡ x / 2 ^ (24 - (0 + w)) % 2 ^ w) × (v < 2 ^ w)) where
      value : field (bits_of m) at w ≡ v
      value = first_field w small whole ∙ sym hv.0

      pub good_is : fine v ≡ true → read v (at + w) ≡ seen_of (element w fine number (bits_of m) at)
      good_is f = rw (element_good w fine number (bits_of m) at (enough whole) (rw value f), value)

      pub bad_is : {e : Refusal} → e ≡ refusal number at → fine v ≡ false → Err e ≡ seen_of (element w fine number (bits_of m) at)
      bad_is q f = rw (q, element_bad w fine number (bits_of m) at (enough whole) (rw value f))

    -- ---- an id of three bits, and the rest of w

    module _ (h₃ : 3 ≤ r) where
      pub id_is : field (bits_of m) at 3 ≡ x / 2097152
      id_is = let s = lk.small in first_field 3 (omega arith) h₃ ∙ omega arith

      rest_is : (w : ℕ) {v : ℕ} → 3 + w ≤ 24 → 3 + w ≤ r → (v ≡ x / 2 ^ (24 - (3 + w)) % 2 ^ w) × (v < 2 ^ w) → field (bits_of m) (at + 3) w ≡ v
      rest_is w h k hv = seen m at 3 w lk h (omega arith) ∙ sym hv.0

      enough_rest : (w : ℕ) → 3 + w ≤ r → at + 3 + w ≤ length (bits_of m)
      enough_rest w h = rw (length_bits_of m) (omega arith)

      short_rest : (w : ℕ) → r < 3 + w → length (bits_of m) < at + 3 + w
      short_rest w h = rw (length_bits_of m) (omega arith)

      not_instruction : (k : ℕ) → (k ≡ 0) → is_instruction k ≡ false
      not_instruction k h = rw h refl

      above_instruction : (k : ℕ) → 5 < k → is_instruction k ≡ false
      above_instruction k h = rw (le-leb 1 k (omega arith), lt-leb k 5 h)

      is_instruction_lem : (k : ℕ) → 1 ≤ k → k ≤ 5 → is_instruction k ≡ true
      is_instruction_lem k h l = rw (le-leb 1 k h, le-leb k 5 l)

      wrong_id : {e : Refusal} → e ≡ on Code at → is_instruction (x / 2097152) ≡ false → Err e ≡ seen_of (instruction_due (bits_of m) at)
      unfolding instruction_due
      wrong_id q f = rw (q, element_bad 3 is_instruction 6 (bits_of m) at (enough h₃) (rw id_is f))

      pub instruction_zero : {e : Refusal} → e ≡ on Code at → x / 2097152 ≡ 0 → Err e ≡ seen_of (instruction_due (bits_of m) at)
      instruction_zero q h = wrong_id q (not_instruction (x / 2097152) h)

      pub instruction_above : {e : Refusal} → e ≡ on Code at → 5 < x / 2097152 → Err e ≡ seen_of (instruction_due (bits_of m) at)
      instruction_above q h = wrong_id q (above_instruction (x / 2097152) h)

      -- ---- a header, where all parts are known

      pub header_id_lem : {e : Refusal} → e ≡ on Code at → (x / 2097152 ≡ 0 → ⊥) → Err e ≡ seen_of (header_due all_known (bits_of m) at)
      unfolding header_due
      header_id_lem q h =
          rw (q, element_bad 3 (eqb 0) 6 (bits_of m) at (enough h₃) (rw id_is (ne_eqb 0 (x / 2097152) (λ e. h (sym e)))))

      module _ (zero-id : x / 2097152 ≡ 0) where
        head_good : element 3 (eqb 0) 6 (bits_of m) at ≡ got 0 (at + 3)
        head_good = rw (element_good 3 (eqb 0) 6 (bits_of m) at (enough h₃) (rw (id_is, zero-id) refl), id_is, zero-id)

        pub header_cut : {e : Refusal} → e ≡ on CutShort (at + 3) → r < 17 → Err e ≡ seen_of (header_due all_known (bits_of m) at)
        unfolding header_due
        header_cut q h = rw (q, head_good, element_cut 14 (recallable all_known) 7 (bits_of m) (at + 3) (short_rest 14 (omega arith)))

        pub header_good : 17 ≤ r → read (x / 128) (at + 17) ≡ seen_of (header_due all_known (bits_of m) at)
        unfolding header_due
        header_good c =
            let s = lk.small in
            let f : field (bits_of m) (at + 3) 14 ≡ x / 128 = seen m at 3 14 lk (omega arith) (omega arith) ∙ omega arith in
            let e : at + 3 + 14 ≡ at + 17 = omega arith in
            rw (head_good, element_good 14 (recallable all_known) 7 (bits_of m) (at + 3) (enough_rest 14 (omega arith)) (any_recalled (field (bits_of m) (at + 3) 14)), f, e)

    -- an instruction of kind k, w payload bits wide, whose id is there
    module _ {k w : ℕ} (there : at + 3 ≤ 8 * length m) (ek : k ≡ x / 2097152) (some : 1 ≤ k) (most : k ≤ 5) (hw : (w ≡ width k) × (w ≤ 14)) where
      id_there : 3 ≤ r
      id_there = omega arith

      id_good : 3 ≤ r → element 3 is_instruction 6 (bits_of m) at ≡ got k (at + 3)
      id_good h =
          let e : field (bits_of m) at 3 ≡ k = id_is h ∙ sym ek in
          rw (element_good 3 is_instruction 6 (bits_of m) at (enough h) (rw e (is_instruction_lem h k some most)), e)

      pub instruction_cut : {e : Refusal} → e ≡ on CutShort (at + 3) → r < 3 + w → Err e ≡ seen_of (instruction_due (bits_of m) at)
      unfolding instruction_due
      instruction_cut q h = rw (q, id_good id_there, ← hw.0, element_cut w (allowed k) 6 (bits_of m) (at + 3) (short_rest id_there w h))

      module _ {p : ℕ} {b : Bool} (c : 3 + w ≤ r) (hp : (p ≡ x / 2 ^ (24 - (3 + w)) % 2 ^ w) × (p < 2 ^ w)) (hb : b ≡ allowed k p) where
        pub instruction_good : b ≡ true → read (k * 65536 + p) (at + 3 + w) ≡ seen_of (instruction_due (bits_of m) at)
        unfolding instruction_due
        instruction_good f =
            let e = rest_is id_there w (omega arith) c hp in
            rw (id_good id_there, ← hw.0, element_good w (allowed k) 6 (bits_of m) (at + 3) (enough_rest id_there w c) (rw e (sym hb ∙ f)), e)

        pub instruction_code : {e : Refusal} → e ≡ on Code (at + 3) → b ≡ false → Err e ≡ seen_of (instruction_due (bits_of m) at)
        unfolding instruction_due
        instruction_code q f =
            let e = rest_is id_there w (omega arith) c hp in
            rw (q, id_good id_there, ← hw.0, element_bad w (allowed k) 6 (bits_of m) (at + 3) (enough_rest id_there w c) (rw e (sym hb ∙ f)))

  pub instruction_short : {e : Refusal} → e ≡ on CutShort at → r < 3 → Err e ≡ seen_of (instruction_due (bits_of m) at)
  unfolding instruction_due
  instruction_short q h = rw (q, element_cut 3 is_instruction 6 (bits_of m) at (short h))

  pub header_short : {e : Refusal} → e ≡ on CutShort at → r < 3 → Err e ≡ seen_of (header_due all_known (bits_of m) at)
  unfolding header_due
  header_short q h = rw (q, element_cut 3 (eqb 0) 6 (bits_of m) at (short h))

-- the widths as four bits of one number for each
pub width_packed : (k : ℕ) → k ≤ 5 → (4530846 / 2 ^ (4 * k) % 16 ≡ width k) × (4530846 / 2 ^ (4 * k) % 16 ≤ 14)
unfolding width
width_packed zero h = (refl, lit≤ tt)
width_packed (suc zero) h = (refl, lit≤ tt)
width_packed (suc (suc zero)) h = (refl, lit≤ tt)
width_packed (suc (suc (suc zero))) h = (refl, lit≤ tt)
width_packed (suc (suc (suc (suc zero)))) h = (refl, lit≤ tt)
width_packed (suc (suc (suc (suc (suc zero))))) h = (refl, lit≤ tt)
width_packed (suc (suc (suc (suc (suc (suc k)))))) h = absurd (omega arith)

-- a note's width
pub note_width : 9 ≡ width 1
unfolding width
note_width = refl

-- an entry that was read fits 32 bits
pub entry_fits : (kind w p : ℕ) → kind ≤ 5 → w ≤ 14 → p < 2 ^ w → Fits w32 (kind * 65536 + p)
entry_fits kind w p h l k = let q : p < 16384 = lt_of_lt_of_le k (pow_mono {j = 14} l) in record { fits = omega arith }

pub ruleset elements = (cut_is, good_is)

pub ruleset instructions = (instruction_short, instruction_zero, instruction_above, note_width)

pub ruleset payloads = (instruction_cut, instruction_good, instruction_code, entry_fits)

pub ruleset headers = (header_short, header_id_lem, header_cut, header_good)

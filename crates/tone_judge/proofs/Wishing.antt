-- Patterns as they are wished, one after the other.
use Prim.Native.Nat.{ℕ, zero, suc, ◌+◌, ◌-◌, ◌≤◌, ◌<◌}
use native.Mathlib.Omega.{arith}
use native.Mathlib.Nat.{add-zero}
use mathlib.Core.Path.{◌≡◌, refl, sym, ap, ap₂, ◌∙◌}
use mathlib.Core.Bool.{Bool, true, false}
use mathlib.Core.List.{List, [], ◌∷◌, ◌++◌}
use lib.ListN.{length, take, set, length-append}
use lib.Seq.{set_out}
use lib.Dec.{eqb, ltb}
use borrow.Author.Tests.{eq-eqb, ne_eqb, eqb-true, ltb-true, ltb-false}
use Rattle.bits.specs.Choice.{pick}
use Rattle.bits.proofs.Choice.{pick_elim}
use Rattle.tone.specs.Tone.{Pattern, header, cells, pattern_at}
use Rattle.tone.specs.Writing.{entry_bits, table_bits}
use Rattle.tone.proofs.Rows.{table_bits_append}
use Rattle.edit_change.specs.Change.{body_after, with_body}
use Rattle.edit_change.specs.Answers.{ground_of}
use Rattle.edit_change.proofs.Bodies.{length_after}
use Rattle.edit_change.proofs.Grounds.{no_ground}
use Rattle.tone_judge.specs.declared.Wish.{Wish}
use Rattle.tone_judge.specs.declared.Cut.{Cut}
use Rattle.tone_judge.specs.Wishes.{granted, wished, left_at, no_cut, cut_of, cut_in}

-- ---- a body that is granted

-- it stays what it is, a recall or a part of 1 to 255 instructions
pub granted_length : (w : Wish) (b : List ℕ) → length b ≤ 255 → (eqb (length (granted w b)) 0 ≡ eqb (length b) 0) × (length (granted w b) ≤ 255)
granted_length w b h = pick_elim (λ (c : List ℕ). (eqb (length c) 0 ≡ eqb (length b) 0) × (length c ≤ 255)) (eqb (ground_of w.edit w.instruction (length b)) 0) there (λ _. (refl, h))
  where
    there : eqb (ground_of w.edit w.instruction (length b)) 0 ≡ true → (eqb (length (body_after w.edit w.instruction b)) 0 ≡ eqb (length b) 0) × (length (body_after w.edit w.instruction b) ≤ 255)
    there e =
        let f = no_ground w.edit w.instruction (length b) h (eqb-true (ground_of w.edit w.instruction (length b)) 0 e) in
        let n = length_after w.edit w.instruction b f.1.inside in (
          ne_eqb (length (body_after w.edit w.instruction b)) 0 (λ z. omega (arith, n, f.1.least)) ∙ sym (ne_eqb (length b) 0 (λ z. omega (arith, f.0))),
          omega (arith, n, f.1.most),
        )

-- ---- how far a pattern reaches

-- the place behind the pattern that stands at a place
abbrev pub behind_part : ℕ → Pattern → ℕ
behind_part at p = at + length (entry_bits (header p)) + length (table_bits p.body)

pub part_bits : (at : ℕ) (p : Pattern) (ps : List Pattern) → at + length (table_bits (cells (p ∷ ps))) ≡ behind_part at p + length (table_bits (cells ps))
part_bits at p ps =
    let n₁ = length-append (entry_bits (header p)) (table_bits (p.body ++ cells ps)) in
    let n₂ = ap length (table_bits_append p.body (cells ps)) ∙ length-append (table_bits p.body) (table_bits (cells ps)) in
    omega (arith, n₁, n₂)

-- ---- with `left` patterns to come, of which the one named comes where `named` are left

-- the body of the next one, as it is wished
abbrev pub body_wished : Wish → ℕ → ℕ → List ℕ → List ℕ
body_wished w named left b = pick (eqb left named) (granted w b) b

abbrev pub wished_from : Wish → ℕ → ℕ → List Pattern → List Pattern
wished_from w named left [] = []
wished_from w named zero (p ∷ ps) = p ∷ ps
wished_from w named (suc left) (p ∷ ps) = with_body p (body_wished w named (suc left) p.body) ∷ wished_from w named left ps

-- where the wish has cut behind the next one, that stands at a place
abbrev pub cut_past : Wish → ℕ → ℕ → ℕ → Pattern → Cut → Cut
cut_past w named left at p c = pick (eqb left named) (cut_of w at (header p) p.body) c

abbrev pub cut_from : Wish → ℕ → ℕ → ℕ → Cut → List Pattern → Cut
cut_from w named left at c [] = c
cut_from w named zero at c (p ∷ ps) = c
cut_from w named (suc left) at c (p ∷ ps) = cut_from w named left (behind_part at p) (cut_past w named (suc left) at p c) ps

-- the one named does not come
module _ (w : Wish) (named : ℕ) where
  abbrev Past : ℕ → Type 0
  Past left = (j : ℕ) → j < left → suc j ≡ named → ⊥

  wished_past : (left : ℕ) (ps : List Pattern) → Past left → wished_from w named left ps ≡ ps
  wished_past left [] h = refl
  wished_past zero (p ∷ ps) h = refl
  wished_past (suc left) (p ∷ ps) h =
      ap₂ (λ (x : Bool) (y : List Pattern). with_body p (pick x (granted w p.body) p.body) ∷ y) (ne_eqb (suc left) named (h left (omega arith))) (wished_past left ps (λ j l. h j (omega arith)))

  cut_past_lem : (left at : ℕ) (c : Cut) (ps : List Pattern) → Past left → cut_from w named left at c ps ≡ c
  cut_past_lem left at c [] h = refl
  cut_past_lem zero at c (p ∷ ps) h = refl
  cut_past_lem (suc left) at c (p ∷ ps) h =
      cut_past_lem left (behind_part at p) (cut_past w named (suc left) at p c) ps (λ j l. h j (omega arith)) ∙ ap (λ (x : Bool). pick x (cut_of w at (header p) p.body) c) (ne_eqb (suc left) named (h left (omega arith)))

-- it comes at position k
wished_at : (w : Wish) (ps : List Pattern) (k : ℕ) → k < length ps → wished_from w (length ps - k) (length ps) ps ≡ set ps k (with_body (pattern_at ps k) (granted w (pattern_at ps k).body))
wished_at w [] k h = let z : ⊥ = omega arith in absurd z
wished_at w (p ∷ ps) zero h =
    let n : suc (length ps) - 0 ≡ suc (length ps) = omega arith in
    ap (λ (x : ℕ). wished_from w x (suc (length ps)) (p ∷ ps)) n
    ∙ ap₂ (λ (x : Bool) (y : List Pattern). with_body p (pick x (granted w p.body) p.body) ∷ y) (eq-eqb (suc (length ps)) (suc (length ps)) refl) (wished_past w (suc (length ps)) (length ps) ps (λ j l e. omega arith))
wished_at w (p ∷ ps) (suc k) h =
    let n : suc (length ps) - suc k ≡ length ps - k = omega arith in
    ap (λ (x : ℕ). wished_from w x (suc (length ps)) (p ∷ ps)) n
    ∙ ap₂ (λ (x : Bool) (y : List Pattern). with_body p (pick x (granted w p.body) p.body) ∷ y) (ne_eqb (suc (length ps)) (length ps - k) (λ e. omega arith)) (wished_at w ps k (omega arith))

cut_at : (w : Wish) (at : ℕ) (c : Cut) (ps : List Pattern) (k : ℕ) → k < length ps
    → cut_from w (length ps - k) (length ps) at c ps ≡ cut_of w (at + length (table_bits (cells (take k ps)))) (header (pattern_at ps k)) (pattern_at ps k).body
cut_at w at c [] k h = let z : ⊥ = omega arith in absurd z
cut_at w at c (p ∷ ps) zero h =
    let n : suc (length ps) - 0 ≡ suc (length ps) = omega arith in
    ap (λ (x : ℕ). cut_from w x (suc (length ps)) at c (p ∷ ps)) n
    ∙ cut_past_lem w (suc (length ps)) (length ps) (behind_part at p) (cut_past w (suc (length ps)) (suc (length ps)) at p c) ps (λ j l e. omega arith)
    ∙ ap (λ (x : Bool). pick x (cut_of w at (header p) p.body) c) (eq-eqb (suc (length ps)) (suc (length ps)) refl) ∙ ap (λ (x : ℕ). cut_of w x (header p) p.body) (sym (add-zero at))
cut_at w at c (p ∷ ps) (suc k) h =
    let n : suc (length ps) - suc k ≡ length ps - k = omega arith in
    ap (λ (x : ℕ). cut_from w x (suc (length ps)) at c (p ∷ ps)) n
    ∙ cut_at w (behind_part at p) (cut_past w (length ps - k) (suc (length ps)) at p c) ps k (omega arith)
    ∙ ap (λ (x : ℕ). cut_of w x (header (pattern_at ps k)) (pattern_at ps k).body) (sym (part_bits at p (take k ps)))

-- from the start on: what the rules say
module _ (w : Wish) (at : ℕ) (ps : List Pattern) where
  pub wished_is : wished_from w (left_at (length ps) w.pattern) (length ps) ps ≡ wished w ps
  wished_is = go (ltb w.pattern (length ps)) refl
    where
      go : (t : Bool) → ltb w.pattern (length ps) ≡ t → wished_from w (pick t (length ps - w.pattern) 0) (length ps) ps ≡ wished w ps
      go true e = wished_at w ps w.pattern (ltb-true w.pattern (length ps) e)
      go false e = wished_past w 0 (length ps) ps (λ j l z. omega arith) ∙ sym (set_out ps w.pattern (with_body (pattern_at ps w.pattern) (granted w (pattern_at ps w.pattern).body)) (ltb-false w.pattern (length ps) e))

  pub cut_is : cut_from w (left_at (length ps) w.pattern) (length ps) at no_cut ps ≡ cut_in w at ps
  cut_is = go (ltb w.pattern (length ps)) refl
    where
      go : (t : Bool) → ltb w.pattern (length ps) ≡ t
          → cut_from w (pick t (length ps - w.pattern) 0) (length ps) at no_cut ps ≡ pick t (cut_of w (at + length (table_bits (cells (take w.pattern ps)))) (header (pattern_at ps w.pattern)) (pattern_at ps w.pattern).body) no_cut
      go true e = cut_at w at no_cut ps w.pattern (ltb-true w.pattern (length ps) e)
      go false e = cut_past_lem w 0 (length ps) at no_cut ps (λ j l z. omega arith)

-- The four parts as the code remembers them stand for the four bodies.
use Prim.Native.Nat.{ℕ, zero, suc, ◌<◌}
use native.Mathlib.Omega.{arith}
use mathlib.Core.Path.{◌≡◌, refl, sym, ap, subst}
use mathlib.Core.Bool.{Bool, true, false}
use mathlib.Core.List.{List, [], ◌∷◌}
use lib.ListN.{length, get_or, set, get_or-map}
use lib.Seq.{get_or-set_same, set-get_or}
use lib.Dec.{eqb}
use Rattle.std.specs.Prelude.{Option, None, Some}
use Rattle.bits.specs.Choice.{pick}
use Rattle.tone.specs.Tone.{specifier, part_of, pattern, recallable}
use Rattle.tone_elements.specs.Answers.{notes}
use Rattle.list_count.specs.Bodies.{Remembered, unknown, known, recalled, remember}
use Rattle.list_count.specs.Parts.{sounding_part}
use Rattle.list_count.proofs.Bodies.{is_known, known_of}

-- ---- parts of any form

-- each part stands for the body of its place
abbrev pub AllFor : {P : Type 0} → (P → Remembered → Type 0) → List P → List Remembered → Type 0
AllFor For [] [] = Unit {0}
AllFor For [] (r ∷ rs) = ⊥
AllFor For (p ∷ ps) [] = ⊥
AllFor For (p ∷ ps) (r ∷ rs) = For p r × AllFor For ps rs

module _ {P : Type 0} (For : P → Remembered → Type 0) where
  pub parts_length : (ps : List P) (rs : List Remembered) → AllFor For ps rs → length ps ≡ length rs
  parts_length [] [] h = refl
  parts_length [] (r ∷ rs) h = absurd h
  parts_length (p ∷ ps) [] h = absurd h
  parts_length (p ∷ ps) (r ∷ rs) h = ap suc (parts_length ps rs h.1)

  part_at : (none : P) (ps : List P) (rs : List Remembered) → AllFor For ps rs → (i : ℕ) → i < length ps → For (get_or ps i none) (get_or rs i unknown)
  part_at none [] rs h i k = absurd (omega arith)
  part_at none (p ∷ ps) [] h i k = absurd h
  part_at none (p ∷ ps) (r ∷ rs) h zero k = h.0
  part_at none (p ∷ ps) (r ∷ rs) h (suc i) k = part_at none ps rs h.1 i (omega arith)

  part_set : (ps : List P) (rs : List Remembered) → AllFor For ps rs → (i : ℕ) (p : P) (r : Remembered) → For p r → AllFor For (set ps i p) (set rs i r)
  part_set [] [] h i p r k = tt
  part_set [] (y ∷ rs) h i p r k = absurd h
  part_set (x ∷ ps) [] h i p r k = absurd h
  part_set (x ∷ ps) (y ∷ rs) h zero p r k = (k, h.1)
  part_set (x ∷ ps) (y ∷ rs) h (suc i) p r k = (h.0, part_set ps rs h.1 i p r k)

  -- a header and its instructions change both alike
  module _ (none : P) (ps : List P) (rs : List Remembered) (h : ℕ) (b : List ℕ) (own : P) (k : AllFor For ps rs) (size : eqb (length b) 0 ≡ eqb (specifier h) 0) (stands : For own (known b)) where
    pub parts_kept : AllFor For (set ps (part_of h) (sounding_part (get_or ps (part_of h) none) h own)) (remember rs (pattern h b))
    unfolding remember
    parts_kept = rw (← size) (go (eqb (length b) 0))
      where
        go : (t : Bool) → AllFor For (set ps (part_of h) (pick t (get_or ps (part_of h) none) own)) (pick t rs (set rs (part_of h) (known b)))
        go true = subst (λ (l : List P). AllFor For l rs) (sym (set-get_or ps (part_of h) none)) k
        go false = part_set ps rs k (part_of h) own (known b) stands

    -- the part that sounds stands for the body that sounds
    pub part_sounds : length rs ≡ 4 → For (sounding_part (get_or ps (part_of h) none) h own) (get_or (remember rs (pattern h b)) (part_of h) unknown)
    unfolding remember
    part_sounds four = rw (← size) (go (eqb (length b) 0))
      where
        go : (t : Bool) → For (pick t (get_or ps (part_of h) none) own) (get_or (pick t rs (set rs (part_of h) (known b))) (part_of h) unknown)
        go true = part_at none ps rs k (part_of h) (omega (arith, parts_length ps rs k))
        go false = rw (get_or-set_same rs (part_of h) (known b) unknown (omega arith)) stands

-- ---- what sounds is known

-- exactly where its header is allowed
pub known_sounding : (bodies : List Remembered) (h : ℕ) (b : List ℕ) → length bodies ≡ 4 → eqb (length b) 0 ≡ eqb (specifier h) 0 → is_known (get_or (remember bodies (pattern h b)) (part_of h) unknown) ≡ recallable (known_of bodies) h
unfolding remember
known_sounding bodies h b four size = rw (← size) (go (eqb (length b) 0))
  where
    go : (t : Bool) → is_known (get_or (pick t bodies (set bodies (part_of h) (known b))) (part_of h) unknown) ≡ pick t (get_or (known_of bodies) (part_of h) false) true
    go true = sym (get_or-map is_known bodies (part_of h) unknown)
    go false = ap is_known (get_or-set_same bodies (part_of h) (known b) unknown (omega arith))

-- ---- parts that are counted

-- a body, as it is counted
abbrev pub noted_part : Remembered → Option ℕ
noted_part unknown = None
noted_part (known b) = Some (notes b)

-- a part has the notes of its body
abbrev pub Noted : Option ℕ → Remembered → Type 0
Noted p r = p ≡ noted_part r

pub noted_unknown : {p : Option ℕ} (r : Remembered) → Noted p r → p ≡ None → is_known r ≡ false
noted_unknown unknown h e = refl
noted_unknown (known b) h e = let z : ◌≡◌ {A = ℕ} 0 1 = cc in absurd (omega arith)

pub noted_known : {p : Option ℕ} {n : ℕ} (r : Remembered) → Noted p r → p ≡ Some n → (is_known r ≡ true) × (n ≡ notes (recalled r))
noted_known unknown h e = let z : ◌≡◌ {A = ℕ} 0 1 = cc in absurd (omega arith)
noted_known (known b) h e = (refl, cc)

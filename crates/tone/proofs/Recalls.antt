-- A recall is allowed exactly where its id was defined earlier.
use Prim.Native.Nat.{ℕ, zero, suc, ◌≤◌, ◌<◌}
use native.Mathlib.Omega.{arith}
use native.Mathlib.Decide.{ℕ_discrete}
use mathlib.Core.Path.{◌≡◌, refl, sym, ◌∙◌}
use mathlib.Core.Logic.{◌⊎◌, inl, inr, ⊎_elim, ◌↔◌}
use mathlib.Core.Bool.{Bool, true, false}
use mathlib.Core.List.{List, [], ◌∷◌}
use lib.ListN.{length, get_or, set, length-set}
use lib.Seq.{get_or-set_same, get_or-set_other, set-get_or}
use lib.Dec.{eqb}
use borrow.Author.Tests.{eq-eqb, ne_eqb, eqb-true, eqb-false}
use Rattle.bits.specs.Choice.{pick}
use Rattle.bits.proofs.Choice.{pick_elim}
use Rattle.tone.specs.Tone.{Pattern, specifier, part_of, header, none_known, recallable, learn, Sound}
use Rattle.tone.proofs.Rows.{header_small}

-- patterns that are each sound
abbrev pub AllSound : List Pattern → Type 0
AllSound [] = Unit {0}
AllSound (p ∷ ps) = Sound p × AllSound ps

-- some pattern of the list defines an id
abbrev pub Defines : List Pattern → ℕ → Type 0
Defines [] id = ⊥
Defines (p ∷ ps) id = ((p.id ≡ id) × (1 ≤ length p.body)) ⊎ Defines ps id

part_of_lem : (p : Pattern) → Sound p → part_of (header p) ≡ p.id
part_of_lem p s = let a = s.id in let b = s.loop in let c = s.long in omega arith

-- what is known after patterns: what was known, and what they define
pub after : List Bool → List Pattern → List Bool
after known [] = known
after known (p ∷ ps) = after (learn known (header p)) ps

learn_keeps : (known : List Bool) (h : ℕ) → length (learn known h) ≡ length known
learn_keeps known h = pick_elim (λ (l : List Bool). length l ≡ length known) (eqb (specifier h) 0) (λ _. refl) (λ _. length-set known (part_of h) true)

-- behind a header that is allowed its id is known: a definition makes it so, and a recall's was known before
pub learn_set : (known : List Bool) (h : ℕ) → recallable known h ≡ true → learn known h ≡ set known (part_of h) true
learn_set known h allowed = go (eqb (specifier h) 0) allowed
  where
    go : (recall : Bool) → pick recall (get_or known (part_of h) false) true ≡ true → pick recall known (set known (part_of h) true) ≡ set known (part_of h) true
    go true k = sym (rw k at (set-get_or known (part_of h) false))
    go false k = refl

-- one pattern more: an id is known then if it was, or the pattern defines it
learned : (known : List Bool) (p : Pattern) (id : ℕ) → Sound p → length known ≡ 4 → (get_or (learn known (header p)) id false ≡ true) ↔ (((p.id ≡ id) × (1 ≤ length p.body)) ⊎ (get_or known id false ≡ true))
learned known p id s four = go (eqb (specifier (header p)) 0) refl
  where
    e : part_of (header p) ≡ p.id
    e = part_of_lem p s

    n : specifier (header p) ≡ length p.body
    n = (header_small p s).1

    i : p.id < length known
    i = let a = s.id in omega arith

    go : (t : Bool) → eqb (specifier (header p)) 0 ≡ t → (get_or (pick t known (set known (part_of (header p)) true)) id false ≡ true) ↔ (((p.id ≡ id) × (1 ≤ length p.body)) ⊎ (get_or known id false ≡ true))
    go true q =
        let z = eqb-true (specifier (header p)) 0 q in
        (λ h. inr h, λ w. ⊎_elim (λ x. let y : ⊥ = omega (arith, x.1) in absurd y) (λ x. x) w)
    go false q =
        let z = eqb-false (specifier (header p)) 0 q in
        rw e (by (ℕ_discrete id p.id))
      where
        by : Dec (id ≡ p.id) → (get_or (set known p.id true) id false ≡ true) ↔ (((p.id ≡ id) × (1 ≤ length p.body)) ⊎ (get_or known id false ≡ true))
        by (yes d) = (λ h. inl (sym d, omega (arith, eqb-false (specifier (header p)) 0 q, n)), λ w. rw d (get_or-set_same known p.id true false i))
        by (no d) =
            let o = get_or-set_other known p.id id true false d in
            (λ h. inr (sym o ∙ h), λ w. ⊎_elim (λ x. absurd (d (sym x.0))) (λ x. o ∙ x) w)

-- an id is known after patterns exactly if it was known or one of them defines it
pub known_after : (known : List Bool) (ps : List Pattern) (id : ℕ) → AllSound ps → length known ≡ 4 → (get_or (after known ps) id false ≡ true) ↔ (Defines ps id ⊎ (get_or known id false ≡ true))
unfolding after
known_after known [] id h four = (λ x. inr x, λ w. ⊎_elim (λ x. absurd x) (λ x. x) w)
known_after known (p ∷ ps) id h four =
    let l = learned known p id h.0 four in
    let r = known_after (learn known (header p)) ps id h.1 (learn_keeps known (header p) ∙ four) in (
      λ x. ⊎_elim (λ y. inl (inr y)) (λ y. ⊎_elim (λ z. inl (inl z)) (λ z. inr z) (l.0 y)) (r.0 x),
      λ w. r.1 (⊎_elim (λ y. ⊎_elim (λ z. inr (l.1 (inl z))) (λ z. inl z) y) (λ y. inr (l.1 (inr y))) w),
    )

nothing_known : (id : ℕ) → get_or none_known id false ≡ true → ⊥
nothing_known zero h = let z : ◌≡◌ {A = ℕ} 0 1 = cc in omega arith
nothing_known (suc zero) h = let z : ◌≡◌ {A = ℕ} 0 1 = cc in omega arith
nothing_known (suc (suc zero)) h = let z : ◌≡◌ {A = ℕ} 0 1 = cc in omega arith
nothing_known (suc (suc (suc zero))) h = let z : ◌≡◌ {A = ℕ} 0 1 = cc in omega arith
nothing_known (suc (suc (suc (suc id)))) h = let z : ◌≡◌ {A = ℕ} 0 1 = cc in omega arith

-- behind patterns, a recall is allowed exactly if one of them defines its id
pub recall_allowed : (ps : List Pattern) (p : Pattern) → AllSound ps → Sound p → length p.body ≡ 0 → (recallable (after none_known ps) (header p) ≡ true) ↔ Defines ps p.id
recall_allowed ps p h s z =
    let e = part_of_lem p s in
    let k = known_after none_known ps p.id h refl in
    rw (eq-eqb (specifier (header p)) 0 ((header_small p s).1 ∙ z), e)
    (λ x. ⊎_elim (λ y. y) (λ y. absurd (nothing_known p.id y)) (k.0 x), λ w. k.1 (inl w))

-- a definition is always allowed
pub definition_allowed : (known : List Bool) (p : Pattern) → Sound p → 1 ≤ length p.body → recallable known (header p) ≡ true
definition_allowed known p s h =
    let z : specifier (header p) ≡ 0 → ⊥ = λ q. omega (arith, (header_small p s).1) in
    rw (ne_eqb (specifier (header p)) 0 z) refl

-- the first pattern defines: there is nothing yet that it could recall
pub first_defines : (p : Pattern) → Sound p → recallable none_known (header p) ≡ true → 1 ≤ length p.body
unfolding after
first_defines p s h = go (length p.body) refl
  where
    go : (n : ℕ) → length p.body ≡ n → 1 ≤ length p.body
    go zero e = absurd ((recall_allowed [] p tt s e).0 h)
    go (suc n) e = omega (arith, e)

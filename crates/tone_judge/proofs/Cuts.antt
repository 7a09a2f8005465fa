-- A part as it is wished, and where the wish cuts it.
use Prim.Native.Nat.{ℕ, ◌+◌, ◌-◌, ◌%◌, ◌≤◌}
use native.Mathlib.Omega.{arith}
use mathlib.Core.Path.{◌≡◌, refl, sym, ap, subst, ◌∙◌}
use mathlib.Core.Bool.{Bool, true, false}
use mathlib.Core.List.{List, ◌++◌}
use lib.ListN.{length, take, drop, length-append, length-drop}
use lib.Seq.{drop-drop, take-add}
use borrow.Author.Tests.{eq-eqb, ne_eqb}
use Rattle.std.specs.Prelude.{Result, is_err, ⊤}
use Rattle.bits.specs.declared.BitPlace.{BitPlace}
use Rattle.bits.specs.declared.refusal.Ground.{Ground}
use Rattle.tone.specs.Writing.{table_bits}
use Rattle.tone.proofs.Rows.{table_bits_append}
use Rattle.tone_elements.specs.Answers.{notes}
use Rattle.tone_elements.proofs.Walks.{notes_more, notes_most}
use Rattle.edit_change.specs.Change.{carried, removed, body_after}
use Rattle.edit_change.specs.Answers.{ground_of, ground_as}
use Rattle.edit_change.proofs.Bodies.{Fits}
use Rattle.edit_change.proofs.Grounds.{no_ground, ground_some, ground_none_is}
use Rattle.tone_judge.specs.declared.Wish.{Wish}
use Rattle.tone_judge.specs.declared.Cut.{Cut}
use Rattle.tone_judge.specs.declared.Own.{Own}
use Rattle.tone_judge.specs.declared.Gone.{Gone}
use Rattle.tone_elements.specs.Standing.{body_in, behind_in, BodyAt, PartAt}
use Rattle.tone_judge.specs.Wishes.{grants, place_in, OwnOf, Owned}
use Rattle.tone_judge.proofs.Overs.{Standing, known_of, drop_stands, may_go, went_to, went_notes, notes_cut}

-- ---- cutting a part

module _ (w : Wish) {m : List ℕ} (h : BitPlace) (cell : ℕ) {own : ℕ} (s : PartAt m h.0 cell own) {g : Result ⊤ Ground} (q : g ≡ ground_as (ground_of w.edit w.instruction (cell % 256))) {t : Bool} (u : t ≡ is_err g) where
  abbrev b : List ℕ
  b = body_in m (h.0 + 17) (cell % 256)

  stands : Standing m (h.0 + 17) b
  stands = (known_of s.stands).stands

  size : length b ≡ cell % 256
  size = (known_of s.stands).size

  -- the ground against the body, by its number
  abbrev n : ℕ
  n = ground_of w.edit w.instruction (length b)

  ground : t ≡ is_err (ground_as n)
  ground = u ∙ ap (λ (x : Result ⊤ Ground). is_err x) (q ∙ ap (λ (x : ℕ). ground_as (ground_of w.edit w.instruction x)) (sym size))

  -- a ground is against it
  pub cut_against : t ≡ true → OwnOf w h.0 cell b (record { notes = own; cut = record { header = h; at = h; behind = h; cell = cell } })
  cut_against z =
      let e : grants w b ≡ false = ne_eqb (ground_of w.edit w.instruction (length b)) 0 (ground_some n (sym ground ∙ z)) in
      record { notes = s.noted ∙ (rw e refl); cut = rw e refl }

  module _ (z : t ≡ false) where
    none : n ≡ 0
    none = ground_none_is n (sym ground ∙ z)

    granting : grants w b ≡ true
    granting = eq-eqb (ground_of w.edit w.instruction (length b)) 0 none

    short : length b ≤ 255
    short = omega (arith, size)

    fit : Fits w.edit w.instruction (length b)
    fit = (no_ground w.edit w.instruction (length b) short none).1

    pub cut_position : w.instruction ≤ 255
    cut_position = omega (arith, fit.inside, short)

    far : w.instruction ≤ length b
    far = omega (arith, fit.inside)

    pub cut_ahead : BodyAt m (h.0 + 17) w.instruction (body_in m (h.0 + 17) w.instruction) (behind_in m (h.0 + 17) w.instruction)
    cut_ahead = may_go w.instruction stands far short

    module _ {g₁ : Gone} (o₁ : (g₁.at.0 ≡ behind_in m (h.0 + 17) w.instruction) × (g₁.notes ≡ notes (body_in m (h.0 + 17) w.instruction))) {r : ℕ} (hr : (r ≡ removed w.edit) × (r ≤ 1)) where
      at : g₁.at.0 ≡ place_in h.0 b w.instruction
      at = went_to w.instruction stands far o₁.0

      rest : Standing m g₁.at.0 (drop w.instruction b)
      rest = subst (λ (y : ℕ). Standing m y (drop w.instruction b)) (sym at) (drop_stands w.instruction stands)

      some : r ≤ length (drop w.instruction b)
      some = rw (length-drop w.instruction b) (omega (arith, fit.inside, hr.0))

      pub cut_taken : BodyAt m g₁.at.0 r (body_in m g₁.at.0 r) (behind_in m g₁.at.0 r)
      cut_taken = may_go r rest some (rw (length-drop w.instruction b) (omega (arith, short)))

      module _ {g₂ : Gone} (o₂ : (g₂.at.0 ≡ behind_in m g₁.at.0 r) × (g₂.notes ≡ notes (body_in m g₁.at.0 r))) {c : ℕ} (hc : (c ≡ notes (carried w.edit)) × (c ≤ 1)) where
        i : ℕ
        i = w.instruction

        behind : g₂.at.0 ≡ place_in h.0 b (w.instruction + removed w.edit)
        behind =
            let e = went_to r rest some o₂.0 in
            let n : length (table_bits (take (w.instruction + r) b)) ≡ length (table_bits (take w.instruction b)) + length (table_bits (take r (drop w.instruction b))) =
            ap (λ (y : List ℕ). length (table_bits y)) (take-add w.instruction r b) ∙ ap length (table_bits_append (take w.instruction b) (take r (drop w.instruction b))) ∙ length-append (table_bits (take w.instruction b)) (table_bits (take r (drop w.instruction b))) in
            omega (arith, e, at, n) ∙ ap (λ (y : ℕ). place_in h.0 b (w.instruction + y)) hr.0

        -- the notes ahead of the cut, those taken, and those left
        taken : g₂.notes + notes (drop (w.instruction + removed w.edit) b) ≡ notes (drop w.instruction b)
        taken =
            let e = went_notes r rest some o₂.1 in
            let d : drop r (drop w.instruction b) ≡ drop (w.instruction + removed w.edit) b = drop-drop r w.instruction b ∙ ap (λ (y : ℕ). drop (w.instruction + y) b) hr.0 in
            omega (arith, e, notes_cut r (drop w.instruction b), ap notes d)

        after : notes (body_after w.edit w.instruction b) ≡ notes (take w.instruction b) + (notes (carried w.edit) + notes (drop (w.instruction + removed w.edit) b))
        after =
            notes_more (take w.instruction b) (carried w.edit ++ drop (w.instruction + removed w.edit) b)
            ∙ ap (λ (y : ℕ). notes (take w.instruction b) + y) (notes_more (carried w.edit) (drop (w.instruction + removed w.edit) b))

        pub cut_most : own + c ≤ 256
        cut_most = omega (arith, s.noted, notes_most b, short, hc.1)

        pub cut_least : g₂.notes ≤ own + c
        cut_least = omega (arith, s.noted, taken, notes_cut w.instruction b)

        pub cut_done : OwnOf w h.0 cell b (record { notes = own + c - g₂.notes; cut = record { header = h; at = g₁.at; behind = g₂.at; cell = cell } })
        cut_done =
            let n : own + c - g₂.notes ≡ notes (body_after w.edit w.instruction b) = omega (arith, s.noted, taken, notes_cut w.instruction b, after, hc.0) in
            record { notes = n ∙ (rw granting refl); cut = rw (granting, ← at, ← behind) refl }

pub ruleset cuts = (cut_against, cut_position, cut_ahead, cut_taken, cut_most, cut_least, cut_done)

-- ---- the part named, or another

pub own_named : (w : Wish) (h : BitPlace) (cell : ℕ) (b : List ℕ) (c : Cut) {t : Bool} {r : Own} → OwnOf w h.0 cell b r → t ≡ true → Owned t w h.0 cell b c r
own_named w h cell b c o e = (o.notes ∙ (rw e refl), o.cut ∙ (rw e refl))

pub own_other : (w : Wish) {m : List ℕ} (h : BitPlace) (cell : ℕ) (c : Cut) {own : ℕ} {t : Bool} → PartAt m h.0 cell own → t ≡ false → Owned t w h.0 cell (body_in m (h.0 + 17) (cell % 256)) c (record { notes = own; cut = c })
own_other w h cell c s e = (s.noted ∙ (rw e refl), rw e refl)

pub ruleset owns = (own_named, own_other)

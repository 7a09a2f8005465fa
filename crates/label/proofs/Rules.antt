-- What the rules of the label come to.
use Prim.Native.Nat.{ℕ, zero, suc, ◌+◌, ◌-◌, ◌*◌, ◌/◌, ◌≤◌, ◌<◌}
use native.Mathlib.Omega.{arith}
use native.Mathlib.Nat.{mul-suc, mul-zero, mul-le-mul_left, mul-add, add-suc, add-zero, eq-or-lt_of_le}
use mathlib.Core.Path.{◌≡◌, refl, sym, ap, ap₂, ◌∙◌}
use mathlib.Core.Bool.{Bool, true, false, ◌||◌}
use mathlib.Core.Logic.{◌⊎◌, inl, inr, ◌↔◌}
use mathlib.Core.List.{List, [], ◌++◌}
use lib.ListN.{length, take, drop, length-append, length-drop, take-append-drop}
use lib.Dec.{eqb}
use lib.Seq.{length-take-le, drop-length, drop-drop, take-add, take_at, drop_at, drop-append-add}
use borrow.Author.Tests.{eqb-true, eqb-false, eq-eqb}
use Rattle.bits.specs.Choice.{pick}
use Rattle.tone.specs.Tone.{per_character}
use Rattle.label.specs.Label.{number, character, trimmed, left_octets, trimmed_title, space, spaces, odd, stands_in, NoTitle, odd_octets, nothing_left}
use Rattle.label.proofs.Trimming.{trimmed_space, trimmed_other, whole, some_octet}
use Rattle.label.proofs.Exits.{trimmed_most, left_inside}
use Rattle.label.proofs.Spaces.{length_space, length_spaces, space_spells, spells_space, spaces_at}

-- ---- over the width

trimmed_none : (w : ℕ) (title : List ℕ) → trimmed w title 0 ≡ 0
unfolding trimmed
trimmed_none w title = refl

-- the last character that is left is no space
trimmed_last : (w : ℕ) (title : List ℕ) (n k : ℕ) → trimmed w title n ≡ suc k → character w title (w * k) ≡ 32 → ⊥
unfolding trimmed
trimmed_last w title zero k e h = omega arith
trimmed_last w title (suc n) k e h = go (trimmed_last w title n k) (eqb (character w title (w * n)) 32) refl e
  where
    go : (trimmed w title n ≡ suc k → character w title (w * k) ≡ 32 → ⊥) → (b : Bool) → eqb (character w title (w * n)) 32 ≡ b → pick b (trimmed w title n) (suc n) ≡ suc k → ⊥
    go f true q e = f e h
    go f false q e = let z : n ≡ k = omega arith in eqb-false (character w title (w * n)) 32 q (rw z h)

-- each character behind those that are left is a space
trimmed_behind : (w : ℕ) (title : List ℕ) (n i : ℕ) → trimmed w title n ≤ i → i < n → character w title (w * i) ≡ 32
unfolding trimmed
trimmed_behind w title zero i h l = absurd (omega arith)
trimmed_behind w title (suc n) i h l = go (trimmed_behind w title n i) (eqb (character w title (w * n)) 32) refl h
  where
    at : (trimmed w title n ≤ i → i < n → character w title (w * i) ≡ 32) → eqb (character w title (w * n)) 32 ≡ true → trimmed w title n ≤ i → (i ≡ n) ⊎ (i < n) → character w title (w * i) ≡ 32
    at f q h (inl e) = rw e (eqb-true (character w title (w * n)) 32 q)
    at f q h (inr m) = f h m

    go : (trimmed w title n ≤ i → i < n → character w title (w * i) ≡ 32) → (b : Bool) → eqb (character w title (w * n)) 32 ≡ b → pick b (trimmed w title n) (suc n) ≤ i → character w title (w * i) ≡ 32
    go f true q h = at f q h (eq-or-lt_of_le (omega arith))
    go f false q h = absurd (omega arith)

-- spaces behind the first j characters go
trimmed_spaces : (w : ℕ) (title : List ℕ) (j n : ℕ) → ((i : ℕ) → i < n → character w title (w * (j + i)) ≡ 32) → trimmed w title (j + n) ≡ trimmed w title j
trimmed_spaces w title j zero f = ap (trimmed w title) (add-zero j)
trimmed_spaces w title j (suc n) f =
    ap (trimmed w title) (add-suc j n) ∙ trimmed_space w title (j + n) (f n (omega arith)) ∙ trimmed_spaces w title j n (λ i l. f i (omega arith))

-- ---- as octets

-- octets that are whole characters and so many spaces behind them
shared : (unicode : Bool) (all few n : ℕ) → per_character unicode * all ≡ few + per_character unicode * n → (j : ℕ) × (all ≡ j + n) × (few ≡ per_character unicode * j)
shared true all few n e = (all - n, omega arith, omega arith)
shared false all few n e = (all - n, omega arith, omega arith)

module _ (unicode : Bool) (title : List ℕ) (even : odd unicode title ≡ false) where
  -- the octets of a character, the title's characters, and how many of them are left
  abbrev w : ℕ
  w = per_character unicode

  abbrev all : ℕ
  all = length title / w

  abbrev kept : ℕ
  kept = trimmed w title all

  one : (i : ℕ) → i < all → length (take w (drop (w * i) title)) ≡ w
  one i h =
      let e : w * i + w ≤ length title = rw (← mul-suc w i, ← whole unicode title even) (mul-le-mul_left w h) in
      length-take-le w (drop (w * i) title) (rw (length-drop (w * i) title) (omega arith))

  next : (i : ℕ) → drop (w * i) title ≡ take w (drop (w * i) title) ++ drop (w * suc i) title
  next i = sym (take-append-drop w (drop (w * i) title)) ∙ (rw (drop-drop w (w * i) title, mul-suc w i) refl)

  behind : (m i : ℕ) → i + m ≡ all → kept ≤ i → drop (w * i) title ≡ spaces unicode m
  behind zero i e h = ap (λ (x : ℕ). drop (w * x) title) (sym (add-zero i) ∙ e) ∙ ap (λ (x : ℕ). drop x title) (whole unicode title even) ∙ drop-length title
  behind (suc m) i e h =
      let l : i < all = omega arith in
      next i ∙ ap₂ ◌++◌ (spells_space unicode (take w (drop (w * i) title)) (one i l) (trimmed_behind w title all i h l)) (behind m (suc i) (omega arith) (omega arith))

  -- what is left of the title and the spaces behind it make up the title
  pub title_made : (n : ℕ) × (title ≡ trimmed_title unicode title ++ spaces unicode n)
  unfolding left_octets
  title_made =
      (all - kept, sym (take-append-drop (w * kept) title) ∙ ap (λ (x : List ℕ). take (w * kept) title ++ x) (behind (all - kept) kept (omega (arith, trimmed_most w title all)) (omega arith)))

  -- what is left ends in no space
  pub left_ends : (a : List ℕ) → trimmed_title unicode title ≡ a ++ space unicode → ⊥
  unfolding left_octets
  left_ends a e = go kept refl
    where
      most : w * kept ≤ length title
      most = left_inside w title

      size : w * kept ≡ length a + w
      size = sym (length-take-le (w * kept) title most) ∙ ap length e ∙ length-append a (space unicode) ∙ ap (λ (x : ℕ). length a + x) (length_space unicode)

      go : (t : ℕ) → kept ≡ t → ⊥
      go zero q = let z = ap (λ (x : ℕ). w * x) q ∙ mul-zero w in omega (arith, some_octet unicode, size)
      go (suc k) q =
          let z = ap (λ (x : ℕ). w * x) q ∙ mul-suc w k in
          let split = sym (take-add (w * k) w title) ∙ ap (λ (x : ℕ). take x title) (sym z) ∙ e in
          let ends : take w (drop (w * k) title) ≡ space unicode =
          sym (drop_at (take (w * k) title) (take w (drop (w * k) title)) (w * k) (length-take-le (w * k) title (omega (arith, most)))) ∙ ap (drop (w * k)) split ∙ drop_at a (space unicode) (w * k) (omega (arith, size)) in
          trimmed_last w title all k q (ap number ends ∙ space_spells unicode)

  -- there is one way only to take the spaces off
  pub left_only : (a : List ℕ) (n : ℕ) → title ≡ a ++ spaces unicode n → ((b : List ℕ) → a ≡ b ++ space unicode → ⊥) → trimmed_title unicode title ≡ a
  unfolding left_octets
  left_only a n e ends =
      let lens = whole unicode title even ∙ ap length e ∙ length-append a (spaces unicode n) ∙ ap (λ (x : ℕ). length a + x) (length_spaces unicode n) in
      go (shared unicode all (length a) n lens)
    where
      go : (j : ℕ) × (all ≡ j + n) × (length a ≡ w * j) → take (w * kept) title ≡ a
      go s = ap (λ (x : ℕ). take x title) (ap (λ (x : ℕ). w * x) (ap (trimmed w title) s.1 ∙ trimmed_spaces w title s.0 n spaced ∙ full s.0 refl)) ∙ front (w * s.0) s.2
        where
          front : (x : ℕ) → length a ≡ x → take x title ≡ a
          front x l = rw e (take_at a (spaces unicode n) x l)

          spaced : (i : ℕ) → i < n → character w title (w * (s.0 + i)) ≡ 32
          spaced i h =
              let d : drop (w * (s.0 + i)) title ≡ drop (w * i) (spaces unicode n) =
              ap (λ (x : ℕ). drop x title) (mul-add w s.0 i ∙ ap (λ (x : ℕ). x + w * i) (sym s.2)) ∙ ap (drop (length a + w * i)) e ∙ drop-append-add a (spaces unicode n) (w * i) in
              ap (λ (x : List ℕ). number (take w x)) d ∙ ap number (spaces_at unicode n i h) ∙ space_spells unicode

          full : (j : ℕ) → s.0 ≡ j → trimmed w title j ≡ j
          full zero q = trimmed_none w title
          full (suc k) q = trimmed_other w title k (λ h. ends (take (w * k) title) (sym (front (w * k + w) (s.2 ∙ ap (λ (x : ℕ). w * x) q ∙ mul-suc w k)) ∙ take-add (w * k) w title
              ∙ ap (λ (x : List ℕ). take (w * k) title ++ x) (spells_space unicode (take w (drop (w * k) title)) (one k (omega (arith, s.1))) h)))

-- ---- the stand-in

-- exactly there the stand-in supplies the label
pub stands_in_lem : (unicode : Bool) (title : List ℕ) → (stands_in unicode title ≡ true) ↔ NoTitle unicode title
unfolding stands_in
stands_in_lem unicode title = (λ h. there (odd unicode title) refl h, back)
  where
    there : (b : Bool) → odd unicode title ≡ b → (b || eqb (left_octets (per_character unicode) title) 0) ≡ true → NoTitle unicode title
    there true q h = odd_octets q
    there false q h =
        let z = eqb-true (left_octets (per_character unicode) title) 0 h in
        let m = title_made unicode title q in
        nothing_left m.0 (m.1 ∙ ap (λ (x : ℕ). take x title ++ spaces unicode m.0) z)

    none : (b : List ℕ) → [] ≡ b ++ space unicode → ⊥
    none b e = omega (arith, ap length e ∙ length-append b (space unicode), length_space unicode, some_octet unicode)

    nothing : (n : ℕ) → title ≡ spaces unicode n → (b : Bool) → odd unicode title ≡ b → (b || eqb (left_octets (per_character unicode) title) 0) ≡ true
    nothing n e true q = refl
    nothing n e false q =
        let l = sym (length-take-le (left_octets (per_character unicode) title) title (left_inside (per_character unicode) title)) ∙ ap length (left_only unicode title q [] n e none) in
        eq-eqb (left_octets (per_character unicode) title) 0 l

    back : NoTitle unicode title → (odd unicode title || eqb (left_octets (per_character unicode) title) 0) ≡ true
    back (odd_octets h) = rw h refl
    back (nothing_left n e) = nothing n e (odd unicode title) refl

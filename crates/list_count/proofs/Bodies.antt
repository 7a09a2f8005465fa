-- The four bodies: what reading knows of them, and their bounds.
use native.Mathlib.Omega.{arith}
use Prim.Native.Nat.{ℕ, zero, suc, ◌≤◌, ◌<◌}
use mathlib.Core.Path.{◌≡◌, refl, ap}
use mathlib.Core.Bool.{Bool, true, false}
use mathlib.Core.List.{List, [], ◌∷◌, map}
use lib.ListN.{length, get_or, set, length-set}
use lib.Seq.{get_or-set_same}
use lib.Dec.{eqb}
use borrow.Author.Tests.{eq-eqb, eqb-false}
use Rattle.bits.specs.Choice.{pick}
use Rattle.bits.proofs.Choice.{pick_elim}
use Rattle.tone.specs.Tone.{Pattern, specifier, part_of, pattern, learn, Instructions, Sound}
use Rattle.list_count.specs.Bodies.{Remembered, unknown, known, recalled, no_bodies, is_recall, passes_of, body_of, remember}

-- ---- what is remembered

-- a pattern changes none of the places' number
pub remember_length : (bodies : List Remembered) (p : Pattern) → length (remember bodies p) ≡ length bodies
unfolding remember
remember_length bodies p = go (is_recall p)
  where
    go : (t : Bool) → length (pick t bodies (set bodies p.id (known p.body))) ≡ length bodies
    go true = refl
    go false = length-set bodies p.id (known p.body)

-- once a pattern is remembered, its id has the body that sounds
pub body_sounding : (bodies : List Remembered) (h : ℕ) (b : List ℕ) → length bodies ≡ 4 → recalled (get_or (remember bodies (pattern h b)) (part_of h) unknown) ≡ body_of bodies (pattern h b)
unfolding remember body_of
body_sounding bodies h b four = go (eqb (length b) 0)
  where
    go : (t : Bool) → recalled (get_or (pick t bodies (set bodies (part_of h) (known b))) (part_of h) unknown) ≡ pick t (recalled (get_or bodies (part_of h) unknown)) b
    go true = refl
    go false = ap recalled (get_or-set_same bodies (part_of h) (known b) unknown (omega arith))

-- ---- what reading knows

abbrev pub is_known : Remembered → Bool
is_known unknown = false
is_known (known b) = true

-- which of the four are known
abbrev pub known_of : List Remembered → List Bool
known_of = map is_known

map_set : (bodies : List Remembered) (i : ℕ) (r : Remembered) → set (known_of bodies) i (is_known r) ≡ known_of (set bodies i r)
map_set [] i r = refl
map_set (x ∷ bodies) zero r = refl
map_set (x ∷ bodies) (suc i) r = ap (λ (l : List Bool). is_known x ∷ l) (map_set bodies i r)

-- what reading knows is what playing remembers
pub learn_read : (bodies : List Remembered) (h : ℕ) (b : List ℕ) → eqb (length b) 0 ≡ eqb (specifier h) 0 → learn (known_of bodies) h ≡ known_of (remember bodies (pattern h b))
unfolding remember
learn_read bodies h b e = rw (← e) (go (eqb (length b) 0))
  where
    go : (t : Bool) → pick t (known_of bodies) (set (known_of bodies) (part_of h) true) ≡ known_of (pick t bodies (set bodies (part_of h) (known b)))
    go true = refl
    go false = map_set bodies (part_of h) (known b)

-- ---- bounds

-- P holds of each body that is remembered
abbrev pub Each : (List ℕ → Type 0) → List Remembered → Type 0
Each P [] = Unit {0}
Each P (r ∷ rs) = P (recalled r) × Each P rs

module _ (P : List ℕ → Type 0) (none : P []) where
  each_at : (bodies : List Remembered) → Each P bodies → (i : ℕ) → P (recalled (get_or bodies i unknown))
  each_at [] h i = none
  each_at (r ∷ bodies) h zero = h.0
  each_at (r ∷ bodies) h (suc i) = each_at bodies h.1 i

  pub each_start : Each P no_bodies
  each_start = (none, (none, (none, (none, tt))))

  -- of the body that sounds
  pub each_sounds : (bodies : List Remembered) → Each P bodies → (p : Pattern) → P p.body → P (body_of bodies p)
  unfolding body_of
  each_sounds bodies h p k = pick_elim P (is_recall p) (λ _. each_at bodies h p.id) (λ _. k)

each_set : (P : List ℕ → Type 0) (bodies : List Remembered) → Each P bodies → (i : ℕ) (b : List ℕ) → P b → Each P (set bodies i (known b))
each_set P [] h i b k = tt
each_set P (r ∷ bodies) h zero b k = (k, h.1)
each_set P (r ∷ bodies) h (suc i) b k = (h.0, each_set P bodies h.1 i b k)

pub each_kept : (P : List ℕ → Type 0) (bodies : List Remembered) → Each P bodies → (p : Pattern) → P p.body → Each P (remember bodies p)
unfolding remember
each_kept P bodies h p k = pick_elim (Each P) (is_recall p) (λ _. h) (λ _. each_set P bodies h p.id p.body k)

-- no longer than a header can say
abbrev pub Brief : List ℕ → Type 0
Brief b = length b ≤ 255

pub none_brief : Brief []
none_brief = omega arith

-- a body that a header can announce, of instructions
abbrev pub Body : List ℕ → Type 0
Body b = Instructions b × Brief b

pub none_body : Body []
none_body = (tt, none_brief)

pub sound_body : (p : Pattern) → Sound p → Body p.body
sound_body p s = (s.each, s.long)

-- two passes of a loop 15 are listed
pub endless_passes : (loop : ℕ) → loop ≡ 15 → passes_of loop ≡ 2
unfolding passes_of
endless_passes loop h = rw (eq-eqb loop 15 h)

-- fifteen passes at most
pub passes_most : (loop : ℕ) → loop < 16 → passes_of loop ≤ 15
unfolding passes_of
passes_most loop h = pick_elim (λ (n : ℕ). n ≤ 15) (eqb loop 15) (λ _. omega arith) (λ e. let z = eqb-false loop 15 e in omega arith)

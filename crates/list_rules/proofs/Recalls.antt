-- A recall is listed as a definition with the nearest earlier body of its id.
use Prim.Native.Nat.{ℕ, zero, suc, ◌<◌}
use native.Mathlib.Omega.{arith}
use mathlib.Core.Path.{◌≡◌, refl, sym, ap, ◌∙◌}
use mathlib.Core.Bool.{Bool, true, false}
use mathlib.Core.List.{List, [], ◌∷◌, ◌++◌}
use lib.ListN.{length, get_or, set, get_or-replicate, get_or-map}
use lib.Seq.{get_or-set_same, get_or-set_other, set-get_or}
use lib.Dec.{eqb}
use borrow.Author.Tests.{eqb-true, eqb-false}
use Rattle.bits.specs.Choice.{pick}
use Rattle.bits.proofs.Choice.{pick_elim}
use Rattle.tone.specs.Tone.{Pattern, header, pattern_at, none_known, learn, Sound, Sequence}
use Rattle.tone.proofs.Rows.{header_small, pattern_header}
use Rattle.list_rules.specs.Sounding.{at_start}
use Rattle.list_rules.specs.Playing.{pattern_played, play}
use Rattle.list_count.specs.Bodies.{Remembered, unknown, known, recalled, no_bodies, is_recall, body_of, remember}
use Rattle.list_count.proofs.Bodies.{is_known, known_of, learn_read, remember_length}
use Rattle.list_rules.proofs.Joining.{bodies_after, same_behind}

-- a pattern defines an id
abbrev pub defines : ℕ → Pattern → Bool
defines id p = pick (is_recall p) false (eqb p.id id)

-- the first of two that is known
abbrev pub or_else : Remembered → Remembered → Remembered
or_else unknown r = r
or_else (known b) r = known b

-- the body that a pattern gives an id
abbrev pub body_for : ℕ → Pattern → Remembered
body_for id p = pick (defines id p) (known p.body) unknown

-- the nearest earlier body of an id: that of the last definition of it among the earlier patterns
abbrev pub nearest : ℕ → List Pattern → Remembered
nearest id [] = unknown
nearest id (p ∷ ps) = or_else (nearest id ps) (body_for id p)

-- a pattern with the body that it recalls
abbrev pub spelled_out : Remembered → Pattern → Pattern
spelled_out r p = record { id = p.id; loop = p.loop; body = recalled r }

or_else_assoc : (a b c : Remembered) → or_else (or_else a b) c ≡ or_else a (or_else b c)
or_else_assoc unknown b c = refl
or_else_assoc (known x) b c = refl

or_else_unknown : (a : Remembered) → or_else a unknown ≡ a
or_else_unknown unknown = refl
or_else_unknown (known x) = refl

-- one pattern more
remember_one : (bodies : List Remembered) (p : Pattern) (id : ℕ) → id < length bodies → get_or (remember bodies p) id unknown ≡ or_else (body_for id p) (get_or bodies id unknown)
unfolding remember
remember_one bodies p id h = go (is_recall p) (eqb p.id id) refl
  where
    go : (t u : Bool) → eqb p.id id ≡ u → get_or (pick t bodies (set bodies p.id (known p.body))) id unknown ≡ or_else (pick (pick t false u) (known p.body) unknown) (get_or bodies id unknown)
    go true u e = refl
    go false true e = rw (eqb-true p.id id e) (get_or-set_same bodies id (known p.body) unknown h)
    go false false e = get_or-set_other bodies p.id id (known p.body) unknown (λ q. eqb-false p.id id e (sym q))

remembered_from : (bodies : List Remembered) (id : ℕ) → id < length bodies → (ps : List Pattern) → get_or (bodies_after bodies ps) id unknown ≡ or_else (nearest id ps) (get_or bodies id unknown)
remembered_from bodies id h [] = refl
remembered_from bodies id h (p ∷ ps) =
    remembered_from (remember bodies p) id (rw (remember_length bodies p) h) ps
    ∙ ap (or_else (nearest id ps)) (remember_one bodies p id h)
    ∙ sym (or_else_assoc (nearest id ps) (body_for id p) (get_or bodies id unknown))

-- the four places hold the nearest earlier bodies
pub places_hold_nearest : (id : ℕ) → id < 4 → (ps : List Pattern) → get_or (bodies_after no_bodies ps) id unknown ≡ nearest id ps
places_hold_nearest id h ps =
    remembered_from no_bodies id h ps ∙ ap (or_else (nearest id ps)) (get_or-replicate 4 id unknown unknown h) ∙ or_else_unknown (nearest id ps)

-- a later definition of an id replaces the earlier one
pub later_replaces : (id : ℕ) (before : List Pattern) (p : Pattern) (between : List Pattern) → defines id p ≡ true → nearest id between ≡ unknown → nearest id (before ++ p ∷ between) ≡ known p.body
later_replaces id [] p between h k = rw (k, h)
later_replaces id (q ∷ before) p between h k = ap (λ (r : Remembered). or_else r (body_for id q)) (later_replaces id before p between h k)

-- ---- the nearest definition by its position

-- the pattern at position d is the last of some patterns that define an id
pub record Nearest (id : ℕ) (ps : List Pattern) (d : ℕ) : Type 0 where
  pub there : d < length ps
  pub definition : defines id (pattern_at ps d) ≡ true
  pub last : (k : ℕ) → d < k → k < length ps → defines id (pattern_at ps k) ≡ false

neither : (a b : Remembered) → or_else a b ≡ unknown → (a ≡ unknown) × (b ≡ unknown)
neither unknown b h = (refl, h)
neither (known x) b h = let z : ◌≡◌ {A = ℕ} 0 1 = cc in absurd (omega arith)

undefined : (t : Bool) (b : List ℕ) → pick t (known b) unknown ≡ unknown → t ≡ false
undefined true b h = let z : ◌≡◌ {A = ℕ} 0 1 = cc in absurd (omega arith)
undefined false b h = refl

defined : (t : Bool) (a b : List ℕ) → pick t (known a) unknown ≡ known b → (t ≡ true) × (a ≡ b)
defined true a b h = (refl, cc)
defined false a b h = let z : ◌≡◌ {A = ℕ} 0 1 = cc in absurd (omega arith)

-- where there is no nearest body, none defines the id
nearest_none : (id : ℕ) (ps : List Pattern) → nearest id ps ≡ unknown → (k : ℕ) → k < length ps → defines id (pattern_at ps k) ≡ false
nearest_none id [] h k l = absurd (omega arith)
nearest_none id (p ∷ ps) h zero l = undefined (defines id p) p.body (neither (nearest id ps) (body_for id p) h).1
nearest_none id (p ∷ ps) h (suc k) l = nearest_none id ps (neither (nearest id ps) (body_for id p) h).0 k (omega arith)

-- the nearest body is that of the nearest definition
pub nearest_at : (id : ℕ) (ps : List Pattern) (b : List ℕ) → nearest id ps ≡ known b → (d : ℕ) × Nearest id ps d × ((pattern_at ps d).body ≡ b)
nearest_at id [] b h = let z : ◌≡◌ {A = ℕ} 0 1 = cc in absurd (omega arith)
nearest_at id (p ∷ ps) b h = go (nearest id ps) refl (λ c e. nearest_at id ps c e) h
  where
    go : (a : Remembered) → nearest id ps ≡ a → ((c : List ℕ) → nearest id ps ≡ known c → (d : ℕ) × Nearest id ps d × ((pattern_at ps d).body ≡ c)) → or_else a (body_for id p) ≡ known b
        → (d : ℕ) × Nearest id (p ∷ ps) d × ((pattern_at (p ∷ ps) d).body ≡ b)
    go unknown none more e =
        let w = defined (defines id p) p.body b e in
        (0, record { there = omega arith; definition = w.0; last = behind (nearest_none id ps none) }, w.1)
      where
        behind : ((k : ℕ) → k < length ps → defines id (pattern_at ps k) ≡ false) → (k : ℕ) → 0 < k → k < length (p ∷ ps) → defines id (pattern_at (p ∷ ps) k) ≡ false
        behind f zero l m = absurd (omega arith)
        behind f (suc k) l m = f k (omega arith)
    go (known c) some more e =
        let w = more c some in
        let n = w.1 in
        (suc w.0, record { there = omega (arith, n.there); definition = n.definition; last = behind w.0 n.last }, w.2 ∙ cc)
      where
        behind : (d : ℕ) → ((k : ℕ) → d < k → k < length ps → defines id (pattern_at ps k) ≡ false) → (k : ℕ) → suc d < k → k < length (p ∷ ps) → defines id (pattern_at (p ∷ ps) k) ≡ false
        behind d f zero l m = absurd (omega arith)
        behind d f (suc k) l m = f k (omega arith) (omega arith)

-- ---- a recall

module _ (bodies : List Remembered) (q : Pattern) (recall : is_recall q ≡ true) where
  abbrev here : Remembered
  here = get_or bodies q.id unknown

  same_body : body_of bodies q ≡ body_of bodies (spelled_out here q)
  unfolding body_of
  same_body = rw recall (go (eqb (length (recalled here)) 0))
    where
      go : (t : Bool) → recalled here ≡ pick t (recalled here) (recalled here)
      go true = refl
      go false = refl

  same_places : remember bodies q ≡ remember bodies (spelled_out here q)
  unfolding remember
  same_places = rw recall (go here refl)
    where
      go : (r : Remembered) → here ≡ r → bodies ≡ pick (eqb (length (recalled r)) 0) bodies (set bodies q.id (known (recalled r)))
      go unknown e = refl
      go (known b) e = pick_elim (λ (r : List Remembered). bodies ≡ r) (eqb (length b) 0) (λ _. refl) (λ _. sym (set-get_or bodies q.id unknown) ∙ ap (set bodies q.id) e)

-- a recall is listed as a definition with the nearest earlier body of its id, origins and all: under its own header
pub recall_is_definition : (before : List Pattern) (q : Pattern) (behind : List Pattern) → q.id < 4 → is_recall q ≡ true
    → play at_start no_bodies 0 (before ++ q ∷ behind) ≡ play at_start no_bodies 0 (before ++ spelled_out (nearest q.id before) q ∷ behind)
unfolding pattern_played
recall_is_definition before q behind h recall =
    rw (← places_hold_nearest q.id h before)
    (same_behind at_start no_bodies 0 before (q ∷ behind) (spelled_out (get_or (bodies_after no_bodies before) q.id unknown) q ∷ behind)
    (λ s n. rw (same_body (bodies_after no_bodies before) q recall, same_places (bodies_after no_bodies before) q recall)))

-- ---- a recall of a tone that document 01 allows has a body

learn_remembers : (bodies : List Remembered) (p : Pattern) → Sound p → learn (known_of bodies) (header p) ≡ known_of (remember bodies p)
learn_remembers bodies p s =
    learn_read bodies (header p) p.body (ap (λ (x : ℕ). eqb x 0) (sym (header_small p s).1)) ∙ ap (λ (q : Pattern). known_of (remember bodies q)) (pattern_header p s)

-- the patterns behind others follow from what those leave
pub sequence_behind : (bodies : List Remembered) (ps qs : List Pattern) → Sequence (known_of bodies) (ps ++ qs) → Sequence (known_of (bodies_after bodies ps)) qs
sequence_behind bodies [] qs h = h
sequence_behind bodies (p ∷ ps) qs h = sequence_behind (remember bodies p) ps qs (rw (learn_remembers bodies p h.0) at h.2)

-- a recall has an earlier definition of its id
pub recall_has_body : (before : List Pattern) (q : Pattern) (behind : List Pattern) → Sequence none_known (before ++ q ∷ behind) → is_recall q ≡ true → is_known (nearest q.id before) ≡ true
recall_has_body before q behind h recall =
    let f = sequence_behind no_bodies before (q ∷ behind) h in
    let s = f.0 in
    ap is_known (sym (places_hold_nearest q.id s.id before))
    ∙ sym (get_or-map is_known (bodies_after no_bodies before) q.id unknown)
    ∙ (rw ((header_small q s).1, ap (λ (r : Pattern). r.id) (pattern_header q s), recall) at f.1)

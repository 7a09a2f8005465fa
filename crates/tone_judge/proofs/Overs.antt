-- Going over instructions.
use Prim.Native.Nat.{ℕ, ◌+◌, ◌-◌, ◌≤◌, ◌<◌}
use native.Mathlib.Omega.{arith}
use native.Mathlib.Nat.{zero-add}
use mathlib.Core.Path.{◌≡◌, refl, sym, ap, subst, ◌∙◌}
use mathlib.Core.Bool.{Bool}
use mathlib.Core.List.{List, [], ◌∷◌, ◌++◌, append_assoc}
use lib.ListN.{length, take, drop, length-append, take-append-drop}
use lib.Seq.{length-take-le}
use Rattle.bits.specs.Bits.{bits_of}
use Rattle.bits.proofs.Octets.{length_bits_of}
use Rattle.tone.specs.Tone.{Instructions}
use Rattle.tone.specs.Reading.{got, body_due}
use Rattle.tone.specs.Writing.{entry_bits, table_bits}
use Rattle.tone.proofs.Rows.{table_bits_append, body_exact}
use Rattle.tone_elements.specs.Answers.{Within, note_in, notes, EntryAt, SomeEntry, Passed}
use Rattle.tone_elements.proofs.Standing.{onward_from, room}
use Rattle.tone_elements.proofs.Walks.{notes_more}
use Rattle.edit_change.proofs.Bodies.{instructions_take, instructions_drop}
use Rattle.tone_elements.specs.Standing.{body_in, behind_in, BodyAt}

-- ---- instructions that stand at a place

pub record Standing (m : List ℕ) (at : ℕ) (b : List ℕ) : Type 0 where
  pub within : Within m at
  pub each : Instructions b
  pub behind : List Bool
  pub here : drop at (bits_of m) ≡ table_bits b ++ behind

-- they are what was read there
pub record Known (m : List ℕ) (at n : ℕ) (b : List ℕ) (q : ℕ) : Type 0 where
  pub stands : Standing m at b
  pub size : length b ≡ n
  pub end : q ≡ at + length (table_bits b)

pub known_of : {m : List ℕ} {at n : ℕ} {b : List ℕ} {q : ℕ} → BodyAt m at n b q → Known m at n b q
known_of {m} {at} {n} {b} {q} s =
    let a = (body_exact n).sound (bits_of m) at (rw (length_bits_of m) s.within.inside) s.reads in
    record { stands = record { within = s.within; each = a.good.each; behind = drop q (bits_of m); here = a.here }; size = a.good.size; end = a.end }

-- and they are read there
pub read_of : {m : List ℕ} {at n : ℕ} {b : List ℕ} → Standing m at b → length b ≡ n → body_due n (bits_of m) at ≡ got b (at + length (table_bits b))
read_of {m} {at} {n} {b} s e = (body_exact n).complete (bits_of m) at b s.behind (rw (length_bits_of m) s.within.inside) (record { each = s.each; size = e }) s.here

-- the front of them, and the rest
module _ {m : List ℕ} {at : ℕ} (a b : List ℕ) (s : Standing m at (a ++ b)) where
  split : drop at (bits_of m) ≡ table_bits a ++ (table_bits b ++ s.behind)
  split = s.here ∙ (rw (table_bits_append a b) (append_assoc (table_bits a) (table_bits b) s.behind))

  front_stands : Instructions a → Standing m at a
  front_stands k = record { within = s.within; each = k; behind = table_bits b ++ s.behind; here = split }

  rest_stands : Instructions b → Standing m (at + length (table_bits a)) b
  rest_stands k = record {
    within = record { inside = room m at (table_bits a) (table_bits b ++ s.behind) s.within.inside split; counted = s.within.counted };
    each = k;
    behind = s.behind;
    here = onward_from (bits_of m) at (table_bits a) (table_bits b ++ s.behind) split;
  }

-- cut at k
module _ {m : List ℕ} {at : ℕ} {b : List ℕ} (k : ℕ) (s : Standing m at b) where
  whole : Standing m at (take k b ++ drop k b)
  whole = subst (Standing m at) (sym (take-append-drop k b)) s

  take_stands : Standing m at (take k b)
  take_stands = front_stands (take k b) (drop k b) whole (instructions_take k b s.each)

  pub drop_stands : Standing m (at + length (table_bits (take k b))) (drop k b)
  drop_stands = rest_stands (take k b) (drop k b) whole (instructions_drop k b s.each)

  -- the first k of them
  module _ (h : k ≤ length b) where
    read : body_due k (bits_of m) at ≡ got (take k b) (at + length (table_bits (take k b)))
    read = read_of take_stands (length-take-le k b h)

    pub may_go : length b ≤ 255 → BodyAt m at k (body_in m at k) (behind_in m at k)
    may_go l = record { within = s.within; short = omega arith; reads = rw read refl }

    pub went_to : {p : ℕ} → p ≡ behind_in m at k → p ≡ at + length (table_bits (take k b))
    went_to e = e ∙ (rw read refl)

    pub went_notes : {n : ℕ} → n ≡ notes (body_in m at k) → n ≡ notes (take k b)
    went_notes e = e ∙ (rw read refl)

pub notes_cut : (k : ℕ) (b : List ℕ) → notes b ≡ notes (take k b) + notes (drop k b)
notes_cut k b = ap notes (sym (take-append-drop k b)) ∙ notes_more (take k b) (drop k b)

-- ---- the walk

-- with `left` of the instructions b to come at p, that stood at a place, and c notes ahead of them
pub record OverWalk (m b : List ℕ) (at p left c : ℕ) : Type 0 where
  pub others : List ℕ
  pub size : length others ≡ left
  pub stands : Standing m p others
  pub place : p + length (table_bits others) ≡ at + length (table_bits b)
  pub noted : c + notes others ≡ notes b
  pub small : c + left ≤ 255

pub over_begins : {m b : List ℕ} {at n q : ℕ} → BodyAt m at n b q → OverWalk m b at at n 0
over_begins {b = b} s = let k = known_of s in record { others = b; size = k.size; stands = k.stands; place = refl; noted = zero-add (notes b); small = omega (arith, s.short) }

module _ {m b : List ℕ} {at p left c : ℕ} (w : OverWalk m b at p left c) where
  pub over_within : Within m p
  over_within = w.stands.within

  module _ (h : 0 < left) where
    first : (e : ℕ) × (t : List ℕ) × (w.others ≡ e ∷ t)
    first = go w.others w.size
      where
        go : (l : List ℕ) → length l ≡ left → (e : ℕ) × (t : List ℕ) × (l ≡ e ∷ t)
        go [] z = let y : ⊥ = omega arith in absurd y
        go (e ∷ t) z = (e, t, refl)

    stands : Standing m p (first.0 ∷ first.1)
    stands = subst (Standing m p) first.2 w.stands

    bits : drop p (bits_of m) ≡ entry_bits first.0 ++ (table_bits first.1 ++ stands.behind)
    bits = stands.here ∙ append_assoc (entry_bits first.0) (table_bits first.1) stands.behind

    entry : EntryAt m p first.0 (table_bits first.1 ++ stands.behind)
    entry = record { in_table = stands.each.0.in_table; here = bits }

    pub over_entry : SomeEntry m p
    over_entry = record { entry = first.0; behind = table_bits first.1 ++ stands.behind; stands = entry }

    module _ {cell q x : ℕ} (e : (e : ℕ) (r : List Bool) → EntryAt m p e r → Passed p e cell q) (n : (x ≡ note_in cell) × (x ≤ 1)) where
      pub over_notes : c + x ≤ 255
      over_notes = omega (arith, w.small, n.1)

      pub over_on : OverWalk m b at q (left - 1) (c + x)
      over_on =
          let y = e first.0 (table_bits first.1 ++ stands.behind) entry in
          let size = ap length (sym first.2) ∙ w.size in
          let cut = ap (λ (z : List ℕ). length (table_bits z)) first.2 ∙ length-append (entry_bits first.0) (table_bits first.1) in
          record {
            others = first.1;
            size = omega (arith, size);
            stands = record {
              within = record { inside = rw y.behind (room m p (entry_bits first.0) (table_bits first.1 ++ stands.behind) stands.within.inside bits); counted = stands.within.counted };
              each = stands.each.1;
              behind = stands.behind;
              here = ap (λ (z : ℕ). drop z (bits_of m)) y.behind ∙ onward_from (bits_of m) p (entry_bits first.0) (table_bits first.1 ++ stands.behind) bits;
            };
            place = omega (arith, y.behind, w.place, cut);
            noted = omega (arith, n.0, ap note_in y.taken, w.noted, ap notes first.2);
            small = omega (arith, n.1, w.small);
          }

module _ {m b : List ℕ} {at n q p left c : ℕ} (w : OverWalk m b at p left c) (h : left ≤ 0) (s : BodyAt m at n b q) where
  done : (p ≡ q) × (c ≡ notes b)
  done = go w.others w.size w.place w.noted
    where
      go : (t : List ℕ) → length t ≡ left → p + length (table_bits t) ≡ at + length (table_bits b) → c + notes t ≡ notes b → (p ≡ q) × (c ≡ notes b)
      go [] z x y = (omega (arith, x, (known_of s).end), omega (arith, y))
      go (e ∷ t) z x y = let u : ⊥ = omega arith in absurd u

  pub over_done : p ≡ q
  over_done = done.0

  pub over_noted : c ≡ notes b
  over_noted = done.1

pub ruleset overs = (over_begins, over_within, over_entry, over_notes, over_on, over_done, over_noted)

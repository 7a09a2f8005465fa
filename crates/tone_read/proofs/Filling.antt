-- The table and the title are filled from a message that was judged.
use Prim.Native.Nat.{ℕ, zero, suc, ◌+◌, ◌-◌, ◌*◌, ◌^◌, ◌≤◌, ◌<◌}
use native.Mathlib.Omega.{arith}
use native.Mathlib.Numerals.{add-one}
use mathlib.Core.Path.{◌≡◌, refl, sym, ap, subst, ◌∙◌}
use mathlib.Core.Bool.{Bool}
use mathlib.Core.List.{List, [], ◌∷◌, ◌++◌, append_assoc}
use lib.ListN.{length, get_or, drop, set}
use lib.Seq.{drop-cons}
use mir.Val.{Fits}
use mir.Syntax.{w64}
use Rattle.bits.specs.Bits.{bits_n, bits_of, field, Octets}
use Rattle.bits.specs.Lent.{over}
use Rattle.bits.proofs.Numbers.{length_bits}
use Rattle.bits.proofs.Filled.{filled_to, filled_more, filled_all, length_filled}
use Rattle.tone.specs.Writing.{entry_bits, table_bits}
use Rattle.tone.proofs.Rows.{length_entry_bits}
use Rattle.tone_elements.specs.Answers.{Within, EntryAt, SomeEntry, Passed}
use Rattle.tone_elements.proofs.Standing.{stands, room, onward_from, entry_room}
use Rattle.tone_read.specs.Judging.{Entries, TableAt, OctetsAt}

-- ---- the table

entries_drop : (t : List ℕ) (i : ℕ) → Entries t → Entries (drop i t)
entries_drop t zero h = h
entries_drop [] (suc i) h = tt
entries_drop (e ∷ t) (suc i) h = entries_drop t i h.1

-- with i entries of t in the table, and the others at p
pub record TableFill (m t : List ℕ) (n : ℕ) (old new : List ℕ) (p i : ℕ) : Type 0 where
  pub within : Within m p
  pub least : i ≤ n
  pub all : n ≡ length t
  pub room : n ≤ length old
  pub there : TableAt m p (drop i t)
  pub filled : new ≡ filled_to t i old

pub table_begins : {m t : List ℕ} {n at : ℕ} {old : List ℕ} → Within m at → (n ≤ length old) × (n ≡ length t) × TableAt m at t → TableFill m t n old old at 0
table_begins i h = record { within = i; least = omega arith; all = h.1; room = h.0; there = h.2; filled = refl }

module _ {m t : List ℕ} {n : ℕ} {old new : List ℕ} {p i : ℕ} (f : TableFill m t n old new p i) (h : i < n) where
  next : drop i t ≡ get_or t i 0 ∷ drop (suc i) t
  next = drop-cons t i 0 (omega (arith, f.all))

  rest : List Bool
  rest = table_bits (drop (suc i) t) ++ f.there.behind

  entry : EntryAt m p (get_or t i 0) rest
  unfolding rest
  entry =
      let e : Entries (get_or t i 0 ∷ drop (suc i) t) = subst Entries next f.there.each in
      record {
        in_table = e.0;
        here = f.there.here ∙ (rw next (append_assoc (entry_bits (get_or t i 0)) (table_bits (drop (suc i) t)) f.there.behind));
      }

  pub table_entry : SomeEntry m p
  table_entry = record { entry = get_or t i 0; behind = rest; stands = entry }

  pub table_index : i < length new
  table_index = rw (f.filled, length_filled t old i (omega (arith, f.all, f.least)) (omega (arith, f.all, f.room))) (omega (arith, f.room))

  pub table_offset : length old * 4 < 2 ^ 63 → Fits w64 (i * 4)
  table_offset l = record { fits = omega (arith, f.room) }

  pub table_on : {cell q : ℕ} → ((e : ℕ) (b : List Bool) → EntryAt m p e b → Passed p e cell q) → TableFill m t n old (set new i cell) q (i + 1)
  unfolding rest
  table_on {cell} {q} k =
      let s = k (get_or t i 0) rest entry in
      let r = entry_room f.within entry in
      let e : drop (i + 1) t ≡ drop (suc i) t = ap (λ (x : ℕ). drop x t) (add-one i) in
      let each : Entries (get_or t i 0 ∷ drop (suc i) t) = subst Entries next f.there.each in
      let d : Entries (drop (i + 1) t) = subst Entries (sym e) each.1 in
      record {
        within = record { inside = omega (arith, s.behind, length_entry_bits (get_or t i 0)); counted = f.within.counted };
        least = omega arith;
        all = f.all;
        room = f.room;
        there = record { each = d; behind = f.there.behind; here = rw (s.behind, e) (onward_from (bits_of m) p (entry_bits (get_or t i 0)) rest entry.here) };
        filled = rw (s.taken, f.filled) (filled_more t old i (omega (arith, f.all)) (omega (arith, f.all, f.room)));
      }

pub table_ends : {m t : List ℕ} {n : ℕ} {old new : List ℕ} {p i : ℕ} → TableFill m t n old new p i → n ≤ i → new ≡ over t old
table_ends {t = t} {old = old} {i = i} f h = f.filled ∙ filled_all t old {i = i} (omega (arith, f.all, f.least))

pub table_long : {m t : List ℕ} {n : ℕ} {old new : List ℕ} {p i : ℕ} → TableFill m t n old new p i → length new ≡ length old
table_long {t = t} {old = old} {i = i} f = ap length f.filled ∙ length_filled t old i (omega (arith, f.all, f.least)) (omega (arith, f.all, f.room))

pub ruleset tables = (table_begins, table_entry, table_index, table_offset, table_on, table_ends, table_long)

-- ---- the title

-- with i octets of o in the title, and the others at p
pub record TitleFill (m o : List ℕ) (n : ℕ) (old new : List ℕ) (p i : ℕ) : Type 0 where
  pub within : Within m p
  pub more : p + 8 * (n - i) + 8 ≤ 8 * length m
  pub least : i ≤ n
  pub all : n ≡ length o
  pub room : n ≤ length old
  pub there : OctetsAt m p (drop i o)
  pub filled : new ≡ filled_to o i old

pub title_begins : {m o : List ℕ} {n at : ℕ} {old : List ℕ} → Within m at × (at + 8 * n + 8 ≤ 8 * length m) → (n ≤ length old) × (n ≡ length o) × OctetsAt m at o → TitleFill m o n old old at 0
title_begins i h = record { within = i.0; more = omega (arith, i.1); least = omega arith; all = h.1; room = h.0; there = h.2; filled = refl }

module _ {m o : List ℕ} {n : ℕ} {old new : List ℕ} {p i : ℕ} (f : TitleFill m o n old new p i) (h : i < n) where
  octet_more : drop i o ≡ get_or o i 0 ∷ drop (suc i) o
  octet_more = drop-cons o i 0 (omega (arith, f.all))

  octets : Octets (get_or o i 0 ∷ drop (suc i) o)
  octets = subst Octets octet_more f.there.each

  octet_here : drop p (bits_of m) ≡ bits_n 8 (get_or o i 0) ++ (bits_of (drop (suc i) o) ++ f.there.behind)
  octet_here = f.there.here ∙ (rw octet_more (append_assoc (bits_n 8 (get_or o i 0)) (bits_of (drop (suc i) o)) f.there.behind))

  octet_room : p + 8 ≤ 8 * length m
  octet_room = rw (length_bits 8 (get_or o i 0)) at (room m p (bits_n 8 (get_or o i 0)) (bits_of (drop (suc i) o) ++ f.there.behind) f.within.inside octet_here)

  pub title_index : i < length new
  title_index = rw (f.filled, length_filled o old i (omega (arith, f.all, f.least)) (omega (arith, f.all, f.room))) (omega (arith, f.room))

  pub title_place : Fits w64 (p + 8)
  title_place = let k = f.within.counted in record { fits = omega (arith, octet_room) }

  -- the octet behind is there too
  pub title_two : p + 16 ≤ 8 * length m
  title_two = omega (arith, f.more)

  pub title_on : {v : ℕ} → v ≡ field (bits_of m) p 8 → TitleFill m o n old (set new i v) (p + 8) (i + 1)
  title_on {v} hv =
      let k = octet_room in
      let t : v ≡ get_or o i 0 = hv ∙ stands (bits_of m) p 8 (get_or o i 0) (bits_of (drop (suc i) o) ++ f.there.behind) octets.0 octet_here in
      let e : drop (i + 1) o ≡ drop (suc i) o = ap (λ (y : ℕ). drop y o) (add-one i) in
      let q : p + 8 ≡ p + length (bits_n 8 (get_or o i 0)) = ap (λ (y : ℕ). p + y) (sym (length_bits 8 (get_or o i 0))) in
      record {
        within = record { inside = k; counted = f.within.counted };
        more = omega (arith, f.more);
        least = omega arith;
        all = f.all;
        room = f.room;
        there = record {
          each = subst Octets (sym e) octets.1;
          behind = f.there.behind;
          here = rw (e, q) (onward_from (bits_of m) p (bits_n 8 (get_or o i 0)) (bits_of (drop (suc i) o) ++ f.there.behind) octet_here);
        };
        filled = rw (t, f.filled) (filled_more o old i (omega (arith, f.all)) (omega (arith, f.all, f.room)));
      }

pub title_ends : {m o : List ℕ} {n : ℕ} {old new : List ℕ} {p i : ℕ} → TitleFill m o n old new p i → n ≤ i → new ≡ over o old
title_ends {o = o} {old = old} {i = i} f h = f.filled ∙ filled_all o old {i = i} (omega (arith, f.all, f.least))

pub title_long : {m o : List ℕ} {n : ℕ} {old new : List ℕ} {p i : ℕ} → TitleFill m o n old new p i → length new ≡ length old
title_long {o = o} {old = old} {i = i} f = ap length f.filled ∙ length_filled o old i (omega (arith, f.all, f.least)) (omega (arith, f.all, f.room))

pub ruleset titles = (title_begins, title_index, title_place, title_two, title_on, title_ends, title_long)

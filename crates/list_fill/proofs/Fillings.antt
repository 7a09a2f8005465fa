-- The list of patterns is filled, one pattern a turn.
use Prim.Native.Nat.{ℕ, suc, ◌+◌, ◌-◌, ◌*◌, ◌≤◌, ◌<◌}
use native.Mathlib.Omega.{arith}
use native.Mathlib.Nat.{zero-add}
use mathlib.Core.Path.{◌≡◌, refl, sym, ap, ap₂, subst, ◌∙◌}
use mathlib.Core.Bool.{Bool, true, false}
use mathlib.Core.List.{List, [], ◌∷◌, ◌++◌, append_assoc, append-nil}
use lib.ListN.{length, get_or, set, drop, replicate, length-append}
use lib.Seq.{sets, sets-eq}
use lib.Dec.{eqb}
use borrow.Author.Tests.{eqb-true}
use Rattle.std.specs.Prelude.{Option, None, Some}
use Rattle.bits.specs.Choice.{pick}
use Rattle.bits.specs.Bits.{bits_of}
use Rattle.bits.specs.Lent.{over}
use Rattle.bits.specs.declared.BitPlace.{BitPlace}
use Rattle.bits.proofs.Octets.{length_bits_of}
use Rattle.tone.specs.Tone.{Pattern, specifier, loop_of, part_of, pattern, learn}
use Rattle.tone.specs.Writing.{entry_bits, table_bits}
use Rattle.tone.specs.Reading.{got, bad, onward, header_due, body_due, patterns_due}
use Rattle.tone.proofs.Exact.{Accepted}
use Rattle.tone.proofs.Rows.{Header, Body, header_exact, body_exact}
use Rattle.tone.proofs.Instructions.{header_in_table}
use Rattle.tone_elements.specs.Answers.{Within, notes, EntryAt, SomeEntry, Passed}
use Rattle.tone_elements.proofs.Steps.{onward_got, onward_made}
use Rattle.list_rules.specs.declared.Entry.{Entry}
use Rattle.list_fill.specs.declared.Body.{Body as Kept}
use Rattle.list_fill.specs.declared.Walk.{Walk}
use Rattle.list_rules.specs.Sounding.{State, at_start, entry_cells, numbers}
use Rattle.list_rules.specs.Playing.{Played, ahead, Listing, passes, pattern_played, next_header, play}
use Rattle.list_count.specs.Bodies.{Remembered, unknown, known, recalled, no_bodies, passes_of, body_of, remember}
use Rattle.list_count.specs.Counting.{entry_count}
use Rattle.list_fill.specs.Filling.{PatternsAt, part_after, behind_pattern, state_of, Ready, Headed, Advanced}
use Rattle.tone_elements.specs.Standing.{BodyAt, behind_or, body_in, behind_in}
use Rattle.list_rules.proofs.Counts.{list_count}
use Rattle.list_count.proofs.Bodies.{is_known, known_of, remember_length, body_sounding, learn_read}
use Rattle.list_count.proofs.Parts.{AllFor, parts_kept, part_sounds, known_sounding}
use Rattle.list_rules.proofs.Headers.{passes_header}
use Rattle.list_rules.proofs.Joining.{play_last}
use Rattle.list_rules.proofs.Restarts.{patterns_carry}
use Rattle.list_rules.proofs.Packing.{length_numbers}
use Rattle.list_fill.proofs.Walking.{and_then, advanced_long, one_more_done}

-- ---- the four parts are the places of the bodies that are remembered

abbrev PartAt : List ℕ → Option Kept → Remembered → Type 0
PartAt m None unknown = Unit {0}
PartAt m None (known b) = ⊥
PartAt m (Some k) unknown = ⊥
PartAt m (Some k) (known b) = (q : ℕ) × BodyAt m k.at.0 k.count b q

-- ---- the first of some patterns that stand at a place

record Head (m : List ℕ) (seen : List Bool) (p left : ℕ) (ps : List Pattern) (q : ℕ) : Type 0 where
  header : ℕ
  next : ℕ
  body : List ℕ
  behind : ℕ
  others : List Pattern
  patterns : ps ≡ pattern header body ∷ others
  first : header_due seen (bits_of m) p ≡ got header next
  second : body_due (specifier header) (bits_of m) next ≡ got body behind
  more : patterns_due (left - 1) (learn seen header) (bits_of m) behind ≡ got others q

head_of : (m : List ℕ) (seen : List Bool) (p left : ℕ) {ps : List Pattern} {q : ℕ} → 0 < left → patterns_due left seen (bits_of m) p ≡ got ps q → Head m seen p left ps q
unfolding patterns_due
head_of m seen p left {ps} {q} h e =
    let one_less : left ≡ suc (left - 1) = omega arith in
    let l = bits_of m in
    let k = left - 1 in
    let i = onward_got (header_due seen l p) (λ c n. onward (body_due (specifier c) l n) (λ b r. onward (patterns_due k (learn seen c) l r) (λ t s. got (pattern c b ∷ t) s) bad) bad) (subst (λ (x : ℕ). patterns_due x seen l p ≡ got ps q) one_less e) in
    let j = onward_got (body_due (specifier i.0) l i.1) (λ b r. onward (patterns_due k (learn seen i.0) l r) (λ t s. got (pattern i.0 b ∷ t) s) bad) i.3 in
    let o = onward_made (patterns_due k (learn seen i.0) l j.1) (λ t. pattern i.0 j.0 ∷ t) j.3 in
    record { header = i.0; next = i.1; body = j.0; behind = j.1; others = o.0; patterns = o.2; first = i.2; second = j.2; more = o.1 }

-- ---- the part that sounds

known_there : (m : List ℕ) (p : Option Kept) (r : Remembered) {k : Kept} → PartAt m p r → p ≡ Some k → (q : ℕ) × BodyAt m k.at.0 k.count (recalled r) q
known_there m None r h e = let y : ◌≡◌ {A = ℕ} 0 1 = cc in absurd (omega arith)
known_there m (Some c) unknown h e = absurd h
known_there m (Some c) (known b) {k} h e =
    let z : c ≡ k = cc in
    (h.0, rw (← z) h.1)

unknown_there : (m : List ℕ) (p : Option Kept) (r : Remembered) → PartAt m p r → p ≡ None → is_known r ≡ true → ⊥
unknown_there m None unknown h e k = let y : ◌≡◌ {A = ℕ} 0 1 = cc in omega arith
unknown_there m None (known b) h e k = h
unknown_there m (Some c) r h e k = let y : ◌≡◌ {A = ℕ} 0 1 = cc in omega arith

-- ---- the loop

-- with `left` patterns to come at p, from the bodies that are remembered and the state of the walk
pub record ListWalk (m : List ℕ) (ps : List Pattern) (old new : List ℕ) (parts : List (Option Kept)) (p : ℕ) (w : Walk) (left : ℕ) : Type 0 where
  pub within : Within m p
  pub bodies : List Remembered
  pub four : length bodies ≡ 4
  pub places : AllFor (PartAt m) parts bodies
  pub others : List Pattern
  pub end : ℕ
  pub reads : patterns_due left (known_of bodies) (bits_of m) p ≡ got others end
  pub done : List Entry
  pub advanced : Advanced 0 (record { entries = done; after = state_of w }) w.at.0 old new w
  pub goes : (play at_start no_bodies 0 ps).entries ≡ done ++ (play (state_of w) bodies (length done) others).entries
  pub room : entry_cells * entry_count no_bodies ps ≤ length old
  -- the last header's position is at most 254
  pub few : w.header + left ≤ 255

pub list_begins : {m : List ℕ} {at n : ℕ} {ps : List Pattern} {q : ℕ} {old : List ℕ} {w : Walk} {p : BitPlace} → PatternsAt m at n ps q × (n ≤ 255) → entry_cells * entry_count no_bodies ps ≤ length old
    → Ready w × (state_of w ≡ at_start) × (w.at ≡ p) × (w.cells ≡ 0) → ListWalk m ps old old (replicate 4 None) at w n
list_begins {ps = ps} {q} {w = w} h k s = record {
  within = h.0.within;
  bodies = no_bodies;
  four = refl;
  places = (tt, (tt, (tt, (tt, tt))));
  others = ps;
  end = q;
  reads = h.0.reads;
  done = [];
  advanced = record { state = refl; ready = s.0; place = refl; cells = s.3; list = refl };
  goes = rw s.1 refl;
  room = k;
  few = omega (arith, h.1, ap (λ (r : State). r.header) s.1);
}

-- what was written from the front stands over the old cells
over_sets : (old : List ℕ) (rs : List Entry) → entry_cells * length rs ≤ length old → sets old 0 (numbers rs) ≡ over (numbers rs) old
over_sets old rs h = sets-eq (numbers rs) old 0 (omega (arith, length_numbers rs)) ∙ ap (λ (n : ℕ). numbers rs ++ drop n old) (zero-add (length (numbers rs)))

module _ {m : List ℕ} {ps : List Pattern} {old new : List ℕ} {parts : List (Option Kept)} {p : ℕ} {w : Walk} {left : ℕ} (v : ListWalk m ps old new parts p w left) where
  pub list_same : length new ≡ length old
  list_same = advanced_long v.advanced

  -- all entries
  count : entry_cells * length (play at_start no_bodies 0 ps).entries ≤ length old
  count = rw (list_count at_start no_bodies 0 ps) v.room

  pub list_done : left ≤ 0 → new ≡ over (numbers (play at_start no_bodies 0 ps).entries) old
  unfolding patterns_due
  list_done h =
      let z : left ≡ 0 = omega arith in
      let e : got [] p ≡ got v.others v.end = subst (λ (x : ℕ). patterns_due x (known_of v.bodies) (bits_of m) p ≡ got v.others v.end) z v.reads in
      let e₁ : v.others ≡ [] = cc in
      let f : (play at_start no_bodies 0 ps).entries ≡ v.done =
      v.goes ∙ ap (λ (x : List Pattern). v.done ++ (play (state_of w) v.bodies (length v.done) x).entries) e₁ ∙ append-nil v.done in
      v.advanced.list ∙ ap (λ (x : List Entry). sets old 0 (numbers x)) (sym f) ∙ over_sets old (play at_start no_bodies 0 ps).entries count

  module _ (h : 0 < left) where
    head : Head m (known_of v.bodies) p left v.others v.end
    head = head_of m (known_of v.bodies) p left h v.reads

    taken : Accepted (Header (known_of v.bodies)) (λ _ c. entry_bits c) (bits_of m) p head.header head.next
    taken = (header_exact (known_of v.bodies)).sound (bits_of m) p (rw (length_bits_of m) v.within.inside) head.first

    entry : EntryAt m p head.header (drop head.next (bits_of m))
    entry = record { in_table = header_in_table head.header taken.good.small; here = taken.here }

    pub list_entry : SomeEntry m p
    list_entry = record { entry = head.header; behind = drop head.next (bits_of m); stands = entry }

    module _ {cell : ℕ} {next : BitPlace} (k : (e : ℕ) (r : List Bool) → EntryAt m p e r → Passed p e cell next.0) where
      same : head.header ≡ cell
      same = sym (k head.header (drop head.next (bits_of m)) entry).taken

      there : head.next ≡ next.0
      there = taken.end ∙ sym (k head.header (drop head.next (bits_of m)) entry).behind

      small : cell < 16384
      small = rw (← same) taken.good.small

      others : v.others ≡ pattern cell head.body ∷ head.others
      others = head.patterns ∙ ap (λ (c : ℕ). pattern c head.body ∷ head.others) same

      -- the pattern that was read
      one : Pattern
      one = pattern cell head.body

      reads : body_due (specifier cell) (bits_of m) next.0 ≡ got head.body head.behind
      reads = rw (← same, ← there) head.second

      next_within : Within m next.0
      next_within = record { inside = rw (← there, ← length_bits_of m) taken.inside; counted = v.within.counted }

      stands : BodyAt m next.0 (specifier cell) head.body head.behind
      stands = record { within = next_within; short = omega arith; reads = reads }

      read : Accepted (Body (specifier cell)) (λ _ b. table_bits b) (bits_of m) next.0 head.body head.behind
      read = (body_exact (specifier cell)).sound (bits_of m) next.0 (rw (length_bits_of m) next_within.inside) reads

      size : length head.body ≡ specifier cell
      size = read.good.size

      -- its own instructions
      abbrev own : Kept
      own = record { at = next; count = specifier cell }

      module _ {part : Option Kept} (e : part ≡ part_after (get_or parts (part_of cell) None) cell next) where
        places : AllFor (PartAt m) (set parts (part_of cell) part) (remember v.bodies one)
        unfolding one
        places = rw e (parts_kept (PartAt m) None parts v.bodies cell head.body (Some own) v.places (ap (λ (x : ℕ). eqb x 0) size) (head.behind, stands))

        sounding : PartAt m part (get_or (remember v.bodies one) (part_of cell) unknown)
        unfolding one
        sounding = rw e (part_sounds (PartAt m) None parts v.bodies cell head.body (Some own) v.places (ap (λ (x : ℕ). eqb x 0) size) (head.behind, stands) v.four)

        pub list_unknown : part ≡ None → ⊥
        unfolding one
        list_unknown z =
            unknown_there m part (get_or (remember v.bodies one) (part_of cell) unknown) sounding z
            (known_sounding v.bodies cell head.body v.four (ap (λ (x : ℕ). eqb x 0) size) ∙ (rw (← same) taken.good.recall))

        module _ {kept : Kept} (g : part ≡ Some kept) where
          body : (q : ℕ) × BodyAt m kept.at.0 kept.count (recalled (get_or (remember v.bodies one) (part_of cell) unknown)) q
          body = known_there m part (get_or (remember v.bodies one) (part_of cell) unknown) sounding g

          body_is : body_in m kept.at.0 kept.count ≡ body_of v.bodies one
          unfolding one
          body_is = rw body.1.reads (body_sounding v.bodies cell head.body v.four)

          pub list_body : BodyAt m kept.at.0 kept.count (body_in m kept.at.0 kept.count) (behind_in m kept.at.0 kept.count)
          list_body = record { within = body.1.within; short = body.1.short; reads = rw body.1.reads refl }

          -- a pattern's passes are the passes of its body
          played : passes (loop_of cell) (passes_of (loop_of cell)) (state_of w) (body_in m kept.at.0 kept.count) ≡ pattern_played (state_of w) v.bodies one
          unfolding pattern_played one
          played = ap (passes (loop_of cell) (passes_of (loop_of cell)) (state_of w)) body_is

          -- there is room for them
          pub list_fits : w.cells + entry_cells * (notes (body_in m kept.at.0 kept.count) * passes_of (loop_of cell)) ≤ length new
          unfolding one
          list_fits =
              let e : entry_count no_bodies ps ≡ length v.done + entry_count v.bodies v.others =
              sym (list_count at_start no_bodies 0 ps) ∙ ap length v.goes ∙ length-append v.done (play (state_of w) v.bodies (length v.done) v.others).entries
              ∙ ap (λ (y : ℕ). length v.done + y) (list_count (state_of w) v.bodies (length v.done) v.others) in
              let f : notes (body_in m kept.at.0 kept.count) * passes_of (loop_of cell) ≡ notes (body_of v.bodies one) * passes_of (loop_of cell) = ap (λ (b : List ℕ). notes b * passes_of (loop_of cell)) body_is in
              omega (arith, ap (entry_count v.bodies) others, v.room, v.advanced.cells, list_same)

          module _ {new' : List ℕ} {w' : Walk} (a : Advanced w.cells (passes (loop_of cell) (passes_of (loop_of cell)) (state_of w) (body_in m kept.at.0 kept.count)) (behind_in m kept.at.0 kept.count) new new' w') where
            d : Played
            d = pattern_played (state_of w) v.bodies one

            both : Advanced 0 (ahead v.done d) (behind_in m kept.at.0 kept.count) old new' w'
            unfolding d
            both = and_then v.advanced (subst (λ (y : Played). Advanced w.cells y (behind_in m kept.at.0 kept.count) new new' w') played a)

            -- listing stops with a loop 15
            pub list_ends : loop_of cell ≡ 15 → new' ≡ over (numbers (play at_start no_bodies 0 ps).entries) old
            unfolding d one
            list_ends z =
                let f : (play at_start no_bodies 0 ps).entries ≡ v.done ++ d.entries =
                v.goes ∙ ap (λ (y : List Pattern). v.done ++ (play (state_of w) v.bodies (length v.done) y).entries) others
                ∙ ap (λ (y : Listing). v.done ++ y.entries) (play_last (state_of w) v.bodies (length v.done) one head.others z) in
                both.list ∙ ap (λ (y : List Entry). sets old 0 (numbers y)) (sym f) ∙ over_sets old (play at_start no_bodies 0 ps).entries count

            behind_is : {place' : BitPlace} → place' ≡ behind_pattern cell next w'.at → place'.0 ≡ head.behind
            unfolding body_due
            behind_is z = ap (λ (y : BitPlace). y.0) z ∙ go (eqb (specifier cell) 0) refl
              where
                go : (t : Bool) → eqb (specifier cell) 0 ≡ t → (pick t next w'.at).0 ≡ head.behind
                go true y =
                    let r : got [] next.0 ≡ got head.body head.behind = subst (λ (u : ℕ). body_due u (bits_of m) next.0 ≡ got head.body head.behind) (eqb-true (specifier cell) 0 y) reads in
                    cc
                go false y =
                    let r : Some own ≡ Some kept = ap (λ (t : Bool). pick t (get_or parts (part_of cell) None) (Some own)) (sym y) ∙ sym e ∙ g in
                    let e₁ : own ≡ kept = cc in
                    a.place ∙ ap (λ (u : Kept). behind_in m u.at.0 u.count) (sym e₁) ∙ ap behind_or reads

            -- the passes are this header's
            same_header : w'.header ≡ w.header
            same_header = ap (λ (r : State). r.header) a.state ∙ passes_header (loop_of cell) (passes_of (loop_of cell)) (state_of w) (body_in m kept.at.0 kept.count)

            pub list_header : w'.header < 255
            list_header = omega (arith, v.few, same_header)

            pub list_on : {place' : BitPlace} {w'' : Walk} → (loop_of cell ≡ 15 → ⊥) → place' ≡ behind_pattern cell next w'.at → Headed w' w''
                → ListWalk m ps old new' (set parts (part_of cell) part) place'.0 w'' (left - 1)
            unfolding d one
            list_on {place'} {w''} other z g =
                let q = behind_is z in
                let s : next_header d.after ≡ state_of w'' = ap next_header (sym both.state) ∙ sym g.state in
                record {
                  within = record { inside = rw (q, ← length_bits_of m) read.inside; counted = v.within.counted };
                  bodies = remember v.bodies one;
                  four = remember_length v.bodies one ∙ v.four;
                  places = places;
                  others = head.others;
                  end = v.end;
                  reads = rw q (ap (λ (u : List Bool). patterns_due (left - 1) u (bits_of m) head.behind) (sym (ap (learn (known_of v.bodies)) same ∙ learn_read v.bodies cell head.body (ap (λ (x : ℕ). eqb x 0) size))) ∙ head.more);
                  done = v.done ++ d.entries;
                  advanced = record { state = refl; ready = g.ready; place = refl; cells = g.cells ∙ both.cells; list = both.list };
                  goes = v.goes ∙ ap (λ (y : List Pattern). v.done ++ (play (state_of w) v.bodies (length v.done) y).entries) others
                      ∙ ap (λ (y : Listing). v.done ++ y.entries) (patterns_carry (state_of w) v.bodies (length v.done) one head.others other)
                      ∙ sym (append_assoc v.done d.entries (play (next_header d.after) (remember v.bodies one) (length v.done + length d.entries) head.others).entries)
                      ∙ ap₂ (λ (u : State) (k : ℕ). (v.done ++ d.entries) ++ (play u (remember v.bodies one) k head.others).entries) s (sym (length-append v.done d.entries));
                  room = v.room;
                  few = omega (arith, v.few, same_header, ap (λ (r : State). r.header) g.state);
                }

-- the list keeps its length in a turn
pub list_long : {m : List ℕ} {ps : List Pattern} {old new new' : List ℕ} {parts : List (Option Kept)} {p : ℕ} {w w' : Walk} {left i q : ℕ} {d : Played} → ListWalk m ps old new parts p w left → Advanced i d q new new' w' → length new' ≡ length old
list_long v a = advanced_long a ∙ list_same v

-- the same, where those that are done are counted
pub listed : (n k : ℕ) {m : List ℕ} {ps : List Pattern} {old new : List ℕ} {parts : List (Option Kept)} {p : ℕ} {w : Walk} → ListWalk m ps old new parts p w (n - k - 1) → ListWalk m ps old new parts p w (n - (k + 1))
listed n k {m} {ps} {old} {new} {parts} {p} {w} v = subst (λ (l : ℕ). ListWalk m ps old new parts p w l) (one_more_done n k) v

pub ruleset listings = (list_begins, list_same, list_long, list_done, list_entry, list_unknown, list_body, list_fits, list_ends, list_header, list_on)

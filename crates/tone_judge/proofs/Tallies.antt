-- Patterns are judged and counted, one a turn.
use Prim.Native.Nat.{ℕ, suc, ◌+◌, ◌-◌, ◌*◌, ◌≤◌, ◌<◌}
use native.Mathlib.Omega.{arith}
use native.Mathlib.Nat.{add-zero, zero-add, add_assoc, le_trans}
use mathlib.Core.Path.{◌≡◌, refl, sym, ap, ap₂, subst, ◌∙◌}
use mathlib.Core.Logic.{◌⊎◌, ⊎_elim, inl, inr}
use mathlib.Core.Bool.{Bool, true, false}
use mathlib.Core.List.{List, [], ◌∷◌}
use lib.ListN.{length, get_or, set, replicate, length-append}
use lib.Seq.{set-get_or}
use lib.Dec.{eqb}
use mir.Val.{Fits}
use mir.Syntax.{w32}
use borrow.Author.Tests.{eq-eqb, eqb-true}
use Rattle.std.specs.Prelude.{Option, None, Some, Result, Ok, Err}
use Rattle.bits.specs.Refusals.{on, refusal}
use Rattle.bits.specs.declared.refusal.Refusal.{Refusal}
use Rattle.bits.specs.declared.refusal.Ground.TheVariants.{NoRecall}
use Rattle.tone_elements.specs.declared.Seen.{Seen}
use Rattle.bits.specs.Choice.{pick}
use Rattle.bits.specs.Bits.{bits_of}
use Rattle.bits.specs.declared.BitPlace.{BitPlace}
use Rattle.bits.proofs.Choice.{pick_elim}
use Rattle.bits.proofs.Octets.{length_bits_of}
use Rattle.bits.specs.Places.{place}
use Rattle.tone.specs.Tone.{Pattern, cells, specifier, loop_of, part_of, header, pattern, none_known, recallable, learn, entries}
use Rattle.tone.specs.Writing.{entry_bits, table_bits}
use Rattle.tone.specs.Reading.{Got, got, bad, onward, header_due, body_due, patterns_due}
use Rattle.tone.proofs.Exact.{Accepted}
use Rattle.tone.proofs.Rows.{Header, Body, header_exact, header_pattern, body_exact, header_wide, patterns_exact}
use Rattle.tone_elements.specs.Answers.{Within, all_known, seen_as, seen_of, notes}
use Rattle.tone_elements.proofs.Headers.{header_apart}
use Rattle.tone_elements.proofs.Steps.{Step, read, seen_there, seen_made, seen_bad, told_as, onward_got, onward_made}
use Rattle.tone_elements.proofs.Walks.{stays, notes_most}
use Rattle.edit_change.specs.Change.{with_body}
use Rattle.list_count.specs.declared.Count.{Count}
use Rattle.tone_judge.specs.declared.Wish.{Wish}
use Rattle.tone_judge.specs.declared.Cut.{Cut}
use Rattle.tone_judge.specs.declared.Own.{Own}
use Rattle.tone_judge.specs.declared.Total.{Total}
use Rattle.tone_judge.specs.declared.Single.{Single}
use Rattle.list_count.specs.Bodies.{Remembered, unknown, recalled, no_bodies, passes_of, body_of, remember}
use Rattle.list_count.specs.Counting.{entry_count, mark_of, mark_from, no_count, counted}
use Rattle.list_count.specs.Parts.{sounding_part}
use Rattle.tone_elements.specs.Standing.{body_in, PartAt}
use Rattle.tone_judge.specs.Wishes.{wished, left_at, no_cut, cut_of, cut_in, Owned}
use Rattle.tone_judge.specs.Answers.{single, single_of, total_to, total_of}
use Rattle.list_count.proofs.Bodies.{is_known, known_of, remember_length, body_sounding, learn_read, Each, each_start, each_sounds, each_kept, Brief, none_brief}
use Rattle.list_count.proofs.Counts.{counted_most, Unmarked, counted_unmarked}
use Rattle.list_count.proofs.Parts.{AllFor, parts_kept, part_sounds, known_sounding, Noted, noted_unknown, noted_known}
use Rattle.tone_judge.proofs.Wishing.{granted_length, behind_part, part_bits, body_wished, wished_from, cut_past, cut_from, wished_is, cut_is}

-- ---- what is counted, resumed

-- what a count comes to with the patterns that are left, behind t entries of the table: ps in the table, qs in the list
abbrev resumed : ℕ → Count → List Remembered → ℕ → Cut → List Pattern → List Pattern → Total
resumed t c bodies z k ps qs =
    pick c.ended
    (record { table = t + entries ps; list = c.entries; mark = c.mark; end = place z; cut = k })
    (record { table = t + entries ps; list = c.entries + entry_count bodies qs; mark = mark_from bodies c.entries qs; end = place z; cut = k })

-- one pattern more in the table
table_one : (t : ℕ) (p : Pattern) (ps : List Pattern) → t + entries (p ∷ ps) ≡ t + (1 + length p.body) + entries ps
table_one t p ps = rw (length-append p.body (cells ps)) (omega arith)

-- one pattern
resumed_one : (t : ℕ) (c : Count) (bodies : List Remembered) (z : ℕ) (k : Cut) (p q : Pattern) (ps qs : List Pattern)
    → resumed t c bodies z k (p ∷ ps) (q ∷ qs) ≡ resumed (t + (1 + length p.body)) (counted c (notes (body_of bodies q)) q.loop) (remember bodies q) z k ps qs
unfolding counted
resumed_one t c bodies z k p q ps qs = rw (table_one t p ps) (go c.ended (eqb q.loop 15))
  where
    go : (b u : Bool) →
        let n = notes (body_of bodies q) in
        let m = n * passes_of q.loop in
        let more = entry_count (remember bodies q) qs in
        let c' : Count = pick b (record { entries = c.entries; mark = c.mark; ended = b }) (pick u (record { entries = c.entries + m; mark = mark_of c.entries n; ended = true }) (record { entries = c.entries + m; mark = c.mark; ended = false })) in
        ◌≡◌ {A = Total} (pick b (record { table = t + (1 + length p.body) + entries ps; list = c.entries; mark = c.mark; end = place z; cut = k }) (record { table = t + (1 + length p.body) + entries ps; list = c.entries + (m + pick u 0 more); mark = pick u (mark_of c.entries n) (mark_from (remember bodies q) (c.entries + m) qs); end = place z; cut = k }))
        (resumed (t + (1 + length p.body)) c' (remember bodies q) z k ps qs)
    go true u = refl
    go false true = ap (λ (x : ℕ). record { table = t + (1 + length p.body) + entries ps; list = c.entries + x; mark = mark_of c.entries (notes (body_of bodies q)); end = place z; cut = k }) (add-zero (notes (body_of bodies q) * passes_of q.loop))
    go false false =
        let m = notes (body_of bodies q) * passes_of q.loop in
        ap (λ (x : ℕ). record { table = t + (1 + length p.body) + entries ps; list = x; mark = mark_from (remember bodies q) (c.entries + m) qs; end = place z; cut = k }) (sym (add_assoc c.entries m (entry_count (remember bodies q) qs)))

-- the same of patterns that stand at a place, as they are wished
abbrev summed : Wish → ℕ → ℕ → ℕ → Cut → ℕ → Count → List Remembered → List Pattern → Total
summed w named left at k t c bodies ps = resumed t c bodies (at + length (table_bits (cells ps))) (cut_from w named left at k ps) ps (wished_from w named left ps)

summed_one : (w : Wish) (named left at : ℕ) (k : Cut) (t : ℕ) (c : Count) (bodies : List Remembered) (p : Pattern) (ps : List Pattern) →
    let q = with_body p (body_wished w named (suc left) p.body) in
    summed w named (suc left) at k t c bodies (p ∷ ps)
    ≡ summed w named left (behind_part at p) (cut_past w named (suc left) at p k) (t + (1 + length p.body)) (counted c (notes (body_of bodies q)) p.loop) (remember bodies q) ps
summed_one w named left at k t c bodies p ps =
    let q = with_body p (body_wished w named (suc left) p.body) in
    let k' = cut_from w named left (behind_part at p) (cut_past w named (suc left) at p k) ps in
    ap (λ (z : ℕ). resumed t c bodies z k' (p ∷ ps) (q ∷ wished_from w named left ps)) (part_bits at p ps)
    ∙ resumed_one t c bodies (behind_part at p + length (table_bits (cells ps))) k' p q ps (wished_from w named left ps)

-- from the start on
summed_all : (w : Wish) (at : ℕ) {n : ℕ} (ps : List Pattern) → length ps ≡ n → summed w (left_at n w.pattern) n at no_cut 0 no_count no_bodies ps ≡ total_of w at ps
summed_all w at ps e = rw (← e) (ap₂ (λ (k : Cut) (qs : List Pattern). resumed 0 no_count no_bodies (at + length (table_bits (cells ps))) k ps qs) (cut_is w at ps) (wished_is w at ps)
    ∙ ap₂ (λ (x y : ℕ). record { table = x; list = y; mark = mark_from no_bodies 0 (wished w ps); end = place (at + length (table_bits (cells ps))); cut = cut_in w at ps }) (zero-add (entries ps)) (zero-add (entry_count no_bodies (wished w ps))))

-- ---- answers that count

-- answers alike for all that can be read
tally_cong : {f g : List Pattern → Total} (x : Got (List Pattern)) → ((ps : List Pattern) (p : ℕ) → x ≡ got ps p → f ps ≡ g ps) → seen_as f x ≡ seen_as g x
tally_cong (got ps p) h = ap (λ (v : Total). read v p) (h ps p refl)
tally_cong (bad n p e) h = refl

tally_map : (f : List Pattern → Total) (q : Pattern) (x : Got (List Pattern)) → seen_as f (onward x (λ ps p. got (q ∷ ps) p) bad) ≡ seen_as (λ ps. f (q ∷ ps)) x
tally_map f q (got ps p) = refl
tally_map f q (bad n p e) = refl

-- one pattern is read
tally_step : (w : Wish) (named : ℕ) {left k : ℕ} (at : ℕ) (z : Cut) (t : ℕ) (c : Count) (bodies : List Remembered) (seen : List Bool) (l : List Bool) {h q : ℕ} {b : List ℕ} {r : ℕ}
    → left ≡ suc k → header_due seen l at ≡ got h q → body_due (specifier h) l q ≡ got b r →
    let x = pattern h (body_wished w named left b) in
    seen_as (summed w named left at z t c bodies) (patterns_due left seen l at)
    ≡ seen_as (summed w named k (behind_part at (pattern h b)) (cut_past w named left at (pattern h b) z) (t + (1 + length b)) (counted c (notes (body_of bodies x)) (loop_of h)) (remember bodies x)) (patterns_due k (learn seen h) l r)
unfolding patterns_due
tally_step w named {left} {k} at z t c bodies seen l {h} {q} {b} {r} j e f =
    rw (j, e, f)
    (tally_map (summed w named (suc k) at z t c bodies) (pattern h b) (patterns_due k (learn seen h) l r)
    ∙ tally_cong (patterns_due k (learn seen h) l r) (λ ps p _. summed_one w named k at z t c bodies (pattern h b) ps))

-- nothing is left
resumed_none : (t : ℕ) (c : Count) (bodies : List Remembered) (z : ℕ) (k : Cut) → Unmarked c → resumed t c bodies z k [] [] ≡ record { table = t; list = c.entries; mark = c.mark; end = place z; cut = k }
resumed_none t c bodies z k h =
    pick_elim (λ (v : Total). v ≡ record { table = t; list = c.entries; mark = c.mark; end = place z; cut = k }) c.ended
    (λ _. λ i. record { table = add-zero t i; list = c.entries; mark = c.mark; end = place z; cut = k })
    (λ e. λ i. record { table = add-zero t i; list = add-zero c.entries i; mark = sym (h e) i; end = place z; cut = k })

-- ---- one pattern by itself

-- a pattern that is fine: where its header ends, and its instructions
record SingleThere (l : List Bool) (p v q own : ℕ) : Type 0 where
  behind : ℕ
  header : header_due all_known l p ≡ got v behind
  body : List ℕ
  reads : body_due (specifier v) l behind ≡ got body q
  noted : own ≡ notes body

single_fine : (l : List Bool) (p : ℕ) {v : Seen Single} → Ok v ≡ single_of l p → SingleThere l p v.value.cell v.next.0 v.value.own
single_fine l p {v} e =
    let a = onward_got (header_due all_known l p) (λ h q. onward (body_due (specifier h) l q) (λ b r. got (record { cell = h; own = notes b }) r) bad) (seen_there (single l p) e) in
    let b = onward_made (body_due (specifier a.0) l a.1) (λ b. record { cell = a.0; own = notes b }) a.3 in
    let h : v.value.cell ≡ a.0 = ap (λ (s : Single). s.cell) b.2 in
    record { behind = a.1; header = a.2 ∙ ap (λ (x : ℕ). got x a.1) (sym h); body = b.0; reads = subst (λ (x : ℕ). body_due (specifier x) l a.1 ≡ got b.0 v.next.0) (sym h) b.1; noted = ap (λ (s : Single). s.own) b.2 }

-- a recall has no instructions that could be at fault
defines : (known : List Bool) (h : ℕ) (l : List Bool) (q : ℕ) {n p e : ℕ} → body_due (specifier h) l q ≡ bad n p e → recallable known h ≡ true
unfolding body_due
defines known h l q {n} {p} {e} f = go (eqb (specifier h) 0) refl
  where
    go : (t : Bool) → eqb (specifier h) 0 ≡ t → pick t (get_or known (part_of h) false) true ≡ true
    go true r =
        let g : got [] q ≡ bad n p e = subst (λ (x : ℕ). body_due x l q ≡ bad n p e) (eqb-true (specifier h) 0 r) f in
        let z : ◌≡◌ {A = ℕ} 0 1 = cc in
        absurd (omega arith)
    go false r = refl

-- one that is at fault stops the row
single_fault : (a : List Pattern → Total) (k : ℕ) (known l : List Bool) (p : ℕ) {x : Refusal} → Err x ≡ single_of l p → seen_as a (patterns_due (suc k) known l p) ≡ Err x
unfolding patterns_due
single_fault a k known l p {x} e = rw (header_apart known l p) (go (header_due all_known l p) e)
  where
    rest : ℕ → ℕ → Got (List Pattern)
    rest h q = onward (body_due (specifier h) l q) (λ b r. onward (patterns_due k (learn known h) l r) (λ ps z. got (pattern h b ∷ ps) z) bad) bad

    inner : (h q : ℕ) (y : Got (List ℕ)) → body_due (specifier h) l q ≡ y → Err x ≡ seen_of {A = Single} (onward y (λ b r. got (record { cell = h; own = notes b }) r) bad)
        → seen_as a (onward (pick (recallable known h) (got h q) (bad 7 (p + 3) (p + 17))) rest bad) ≡ Err x
    inner h q (got b r) g z = let w : ◌≡◌ {A = ℕ} 0 1 = cc in absurd (omega arith)
    inner h q (bad n z y) g u = let e₁ : x ≡ refusal n z = cc in rw (defines known h l q g, g, e₁) refl

    go : (y : Got ℕ) → Err x ≡ seen_of {A = Single} (onward y (λ h q. onward (body_due (specifier h) l q) (λ b r. got (record { cell = h; own = notes b }) r) bad) bad)
        → seen_as a (onward (onward y (λ h q. pick (recallable known h) (got h q) (bad 7 (p + 3) (p + 17))) bad) rest bad) ≡ Err x
    go (got h q) z = inner h q (body_due (specifier h) l q) refl z
    go (bad n z y) u = let e₁ : x ≡ refusal n z = cc in rw e₁ refl

-- so does one that recalls what is not known
single_unknown : (a : List Pattern → Total) (k : ℕ) (known l : List Bool) (p : ℕ) {h q : ℕ} → header_due all_known l p ≡ got h q → recallable known h ≡ false → seen_as a (patterns_due (suc k) known l p) ≡ Err (refusal 7 (p + 3))
unfolding patterns_due
single_unknown a k known l p e r = rw (header_apart known l p, e, r) refl

-- any other header is the one that is due
single_header : (known l : List Bool) (p : ℕ) {h q : ℕ} → header_due all_known l p ≡ got h q → recallable known h ≡ true → header_due known l p ≡ got h q
single_header known l p e r = header_apart known l p ∙ (rw (e, r) refl)

single_made : (l : List Bool) (p : ℕ) {v q r : ℕ} {b : List ℕ} → header_due all_known l p ≡ got v q → body_due (specifier v) l q ≡ got b r → read (record { cell = v; own = notes b }) r ≡ single_of l p
single_made l p e f = rw (e, f) refl

-- in the code's terms: what each return of `pattern` shows
module _ (m : List ℕ) (p : ℕ) {s : Step} (q : s ≡ seen_of (header_due all_known (bits_of m) p)) where
  pub pattern_unheaded : {r : Refusal} → s ≡ Err r → Err r ≡ single_of (bits_of m) p
  pattern_unheaded g = let b = seen_bad (λ v. v) (header_due all_known (bits_of m) p) (sym g ∙ q) in rw b.there (told_as b.number b.at b.told)

  module _ {v : Seen ℕ} (g : s ≡ Ok v) where
    there : header_due all_known (bits_of m) p ≡ got v.value v.next.0
    there = seen_there (header_due all_known (bits_of m) p) (sym g ∙ q)

    pub pattern_inside : Within m p → Within m v.next.0
    pattern_inside i = record { inside = stays (header_exact all_known) m p i.inside there; counted = i.counted }

    module _ {s' : Step} (q' : s' ≡ seen_as notes (body_due (specifier v.value) (bits_of m) v.next.0)) where
      pub pattern_bad : {r : Refusal} → s' ≡ Err r → Err r ≡ single_of (bits_of m) p
      pattern_bad g' = let b = seen_bad notes (body_due (specifier v.value) (bits_of m) v.next.0) (sym g' ∙ q') in rw (there, b.there) (told_as b.number b.at b.told)

      pub pattern_good : {o : Seen ℕ} → s' ≡ Ok o → read (record { cell = v.value; own = o.value }) o.next.0 ≡ single_of (bits_of m) p
      pattern_good {o} g' = let b = seen_made notes (body_due (specifier v.value) (bits_of m) v.next.0) (sym g' ∙ q') in ap (λ (z : ℕ). read (record { cell = v.value; own = z }) o.next.0) b.2 ∙ single_made (bits_of m) p there b.1

pub ruleset singles = (pattern_unheaded, pattern_inside, pattern_bad, pattern_good)

-- ---- the four parts

-- the part that sounds behind a header was put in its place by a definition; a recall has changed none
abbrev Kept : List (Option ℕ) → ℕ → Option ℕ → List (Option ℕ) → Type 0
Kept parts v part now = ((specifier v ≡ 0 → ⊥) × (now ≡ set parts (part_of v) part)) ⊎ ((specifier v ≡ 0) × (now ≡ parts))

-- it stands there in either case
kept_is : (parts : List (Option ℕ)) (v : ℕ) (own : Option ℕ) {part : Option ℕ} {now : List (Option ℕ)} → part ≡ sounding_part (get_or parts (part_of v) None) v own → Kept parts v part now → now ≡ set parts (part_of v) part
kept_is parts v own {part} {now} e told =
    ⊎_elim (λ w. w.1) (λ w. w.1 ∙ sym (set-get_or parts (part_of v) None) ∙ ap (set parts (part_of v)) (sym (e ∙ (rw (eq-eqb (specifier v) 0 w.0) refl)))) told

-- ---- the loop

-- with `left` patterns to come at p, from the bodies that the parts stand for, the entries of the table, what is counted and where the wish has cut
pub record TallyWalk (w : Wish) (named : ℕ) (m : List ℕ) (n at : ℕ) (parts : List (Option ℕ)) (p left t : ℕ) (c : Count) (k : Cut) : Type 0 where
  pub inside : Within m p
  pub few : n ≤ 255
  pub fewer : c.entries + 3825 * left ≤ 3825 * n
  pub small : t + 256 * left ≤ 256 * n
  pub bodies : List Remembered
  pub four : length bodies ≡ 4
  pub brief : Each Brief bodies
  pub unmarked : Unmarked c
  pub noted : AllFor Noted parts bodies
  pub goes : seen_as (total_of w at) (patterns_due n none_known (bits_of m) at) ≡ seen_as (summed w named left p k t c bodies) (patterns_due left (known_of bodies) (bits_of m) p)

pub tally_begins : (w : Wish) {named : ℕ} (m : List ℕ) (n at : ℕ) {c : Count} {k : Cut} → named ≡ left_at n w.pattern → Within m at → n ≤ 255 → c ≡ no_count → k ≡ no_cut → TallyWalk w named m n at (replicate 4 None) at n 0 c k
tally_begins w m n at q h few e f = record {
  inside = h;
  few = few;
  fewer = rw e (omega arith);
  small = omega arith;
  bodies = no_bodies;
  four = refl;
  brief = each_start Brief none_brief;
  unmarked = rw e (λ _. refl);
  noted = (refl, (refl, (refl, (refl, tt))));
  goes = rw (q, e, f) (sym (tally_cong (patterns_due n none_known (bits_of m) at) (λ ps p r. summed_all w at ps ((patterns_exact n none_known).sound (bits_of m) at (rw (length_bits_of m) h.inside) r).good.size)));
}

pub tally_done : {w : Wish} {named : ℕ} {m : List ℕ} {n at : ℕ} {parts : List (Option ℕ)} {left t q : ℕ} {c : Count} {k : Cut} {r : Total} → TallyWalk w named m n at parts q left t c k → left ≤ 0 → r ≡ total_to (place q) t c k
    → read r q ≡ seen_as (total_of w at) (patterns_due n none_known (bits_of m) at)
unfolding patterns_due
tally_done {left = left} {t = t} {q = q} {c = c} {k = k} w h e₀ =
    let e : left ≡ 0 = omega arith in
    sym (w.goes ∙ (rw (e, e₀) (ap (λ (x : Total). read x q) (resumed_none t c w.bodies (q + 0) k w.unmarked ∙ ap (λ (x : ℕ). total_to (place x) t c k) (add-zero q)) ∙ ap (λ (x : ℕ). read (total_to (place q) t c k) x) refl)))

module _ {w : Wish} {named : ℕ} {m : List ℕ} {n at : ℕ} {parts : List (Option ℕ)} {p left t : ℕ} {c : Count} {k : Cut} (y : TallyWalk w named m n at parts p left t c k) where
  pub tally_within : Within m p
  tally_within = y.inside

  -- what is counted leaves room for one pattern more
  module _ (h : 0 < left) where
    pub tally_counts : c.entries ≤ 971550
    tally_counts = omega (arith, y.few, y.fewer)

    pub tally_fits : (v : ℕ) → Fits w32 (t + (1 + specifier v))
    tally_fits v = record { fits = omega (arith, y.few, y.small) }

  module _ {s : Result (Seen Single) Refusal} (h : 0 < left) (q : s ≡ single_of (bits_of m) p) where
    one_less : left ≡ suc (left - 1)
    one_less = omega arith

    -- the row is stopped here
    stopped : {x : Refusal} → seen_as (summed w named left p k t c y.bodies) (patterns_due (suc (left - 1)) (known_of y.bodies) (bits_of m) p) ≡ Err x → Err x ≡ seen_as (total_of w at) (patterns_due n none_known (bits_of m) at)
    stopped z = sym (y.goes ∙ ap (λ (x : ℕ). seen_as (summed w named left p k t c y.bodies) (patterns_due x (known_of y.bodies) (bits_of m) p)) one_less ∙ z)

    pub tally_bad : {x : Refusal} → s ≡ Err x → Err x ≡ seen_as (total_of w at) (patterns_due n none_known (bits_of m) at)
    tally_bad g = stopped (single_fault (summed w named left p k t c y.bodies) (left - 1) (known_of y.bodies) (bits_of m) p (sym g ∙ q))

    module _ {u : Seen Single} (g : s ≡ Ok u) where
      abbrev v : ℕ
      v = u.value.cell

      abbrev own : ℕ
      own = u.value.own

      abbrev f' : BitPlace
      f' = u.next

      apart : SingleThere (bits_of m) p v f'.0 own
      apart = single_fine (bits_of m) p (sym g ∙ q)

      abbrev f : ℕ
      f = apart.behind

      abbrev b : List ℕ
      b = apart.body

      header_is : Accepted (Header all_known) (λ _ x. entry_bits x) (bits_of m) p v f
      header_is = (header_exact all_known).sound (bits_of m) p (rw (length_bits_of m) y.inside.inside) apart.header

      inside : Within m f
      inside = record { inside = stays (header_exact all_known) m p y.inside.inside apart.header; counted = y.inside.counted }

      -- a header has 17 bits
      behind_header : f ≡ p + 17
      behind_header = header_is.end ∙ ap (λ (x : ℕ). p + x) (header_wide v header_is.good.small)

      body_is : Accepted (Body (specifier v)) (λ _ x. table_bits x) (bits_of m) f b f'.0
      body_is = (body_exact (specifier v)).sound (bits_of m) f (rw (length_bits_of m) inside.inside) apart.reads

      size : length b ≡ specifier v
      size = body_is.good.size

      -- the body that was read stands behind the header
      reads : body_due (specifier v) (bits_of m) (p + 17) ≡ got b f'.0
      reads = ap (body_due (specifier v) (bits_of m)) (sym behind_header) ∙ apart.reads

      pub tally_part : PartAt m p v own
      tally_part = record {
        stands = record { within = subst (Within m) behind_header inside; short = omega arith; reads = rw reads refl };
        noted = apart.noted ∙ (rw reads refl);
      }

      module _ {o : Own} (x : Owned (eqb left named) w p v (body_in m (p + 17) (specifier v)) k o) {part : Option ℕ} (e : part ≡ sounding_part (get_or parts (part_of v) None) v (Some o.notes)) where
        wish : List ℕ
        wish = body_wished w named left b

        wish_length : (eqb (length wish) 0 ≡ eqb (specifier v) 0) × (length wish ≤ 255)
        unfolding wish
        wish_length =
            let short : length b ≤ 255 = omega (arith, size) in
            rw (← size) (pick_elim (λ (x : List ℕ). (eqb (length x) 0 ≡ eqb (length b) 0) × (length x ≤ 255)) (eqb left named) (λ _. granted_length w b short) (λ _. (refl, short)))

        own_is : (o.notes ≡ notes wish) × (o.cut ≡ cut_past w named left p (pattern v b) k)
        unfolding wish
        own_is =
            let y : body_in m (p + 17) (specifier v) ≡ b = rw reads refl in
            let z : header (pattern v b) ≡ v = header_pattern v b header_is.good.small size in (
              x.0 ∙ ap (λ (z : List ℕ). notes (body_wished w named left z)) y,
              x.1 ∙ ap₂ (λ (u : List ℕ) (h : ℕ). pick (eqb left named) (cut_of w p h u) k) y (sym z),
            )

        after : List Remembered
        after = remember y.bodies (pattern v wish)

        part_is : part ≡ sounding_part (get_or parts (part_of v) None) v (Some (notes wish))
        part_is = e ∙ ap (λ (x : ℕ). sounding_part (get_or parts (part_of v) None) v (Some x)) own_is.0

        noted_after : AllFor Noted (set parts (part_of v) part) after
        unfolding after
        noted_after = subst (λ (x : Option ℕ). AllFor Noted (set parts (part_of v) x) after) (sym part_is) (parts_kept Noted None parts y.bodies v wish (Some (notes wish)) y.noted wish_length.0 refl)

        sounding : Noted part (get_or after (part_of v) unknown)
        unfolding after
        sounding = part_is ∙ part_sounds Noted None parts y.bodies v wish (Some (notes wish)) y.noted wish_length.0 refl y.four

        -- what sounds is known exactly where the header may recall it
        allowed : is_known (get_or after (part_of v) unknown) ≡ recallable (known_of y.bodies) v
        unfolding after
        allowed = known_sounding y.bodies v wish y.four wish_length.0

        pub tally_unknown : {e : Refusal} → e ≡ on NoRecall (p + 3) → part ≡ None → Err e ≡ seen_as (total_of w at) (patterns_due n none_known (bits_of m) at)
        tally_unknown a z = told_as 7 (p + 3) a ∙ stopped (single_unknown (summed w named left p k t c y.bodies) (left - 1) (known_of y.bodies) (bits_of m) p apart.header (sym allowed ∙ noted_unknown (get_or after (part_of v) unknown) sounding z))

        module _ {heard : ℕ} (i : part ≡ Some heard) where
          known_part : (is_known (get_or after (part_of v) unknown) ≡ true) × (heard ≡ notes (recalled (get_or after (part_of v) unknown)))
          known_part = noted_known (get_or after (part_of v) unknown) sounding i

          sounds : heard ≡ notes (body_of y.bodies (pattern v wish))
          unfolding after
          sounds = known_part.1 ∙ ap notes (body_sounding y.bodies v wish y.four)

          -- what sounds has few notes
          pub tally_notes : heard ≤ 255
          tally_notes = rw sounds (le_trans (notes_most (body_of y.bodies (pattern v wish))) (each_sounds Brief none_brief y.bodies y.brief (pattern v wish) wish_length.1))

          behind_part_lem : behind_part p (pattern v b) ≡ f'.0
          behind_part_lem =
              let z : header (pattern v b) ≡ v = header_pattern v b header_is.good.small size in
              omega (arith, ap (λ (x : ℕ). length (entry_bits x)) z, header_is.end, body_is.end)

          pub tally_on : {c' : Count} {now : List (Option ℕ)} → c' ≡ counted c heard (loop_of v) → Kept parts v part now
              → TallyWalk w named m n at now f'.0 (left - 1) (t + (1 + specifier v)) c' o.cut
          unfolding after wish
          tally_on {c'} j told =
              let l : learn (known_of y.bodies) v ≡ known_of after = learn_read y.bodies v wish wish_length.0 in
              let d : header_due (known_of y.bodies) (bits_of m) p ≡ got v f = single_header (known_of y.bodies) (bits_of m) p apart.header (sym allowed ∙ known_part.0) in
              let j' : c' ≡ counted c (notes (body_of y.bodies (pattern v wish))) (loop_of v) = j ∙ ap (λ (x : ℕ). counted c x (loop_of v)) sounds in
              let most : c'.entries ≤ c.entries + 3825 = rw j (counted_most c heard (loop_of v) tally_notes (omega arith)) in
              record {
                inside = record { inside = stays (body_exact (specifier v)) m f inside.inside apart.reads; counted = y.inside.counted };
                few = y.few;
                fewer = omega (arith, y.fewer);
                small = omega (arith, y.small);
                bodies = after;
                four = remember_length y.bodies (pattern v wish) ∙ y.four;
                brief = each_kept Brief y.bodies y.brief (pattern v wish) wish_length.1;
                unmarked = rw j (counted_unmarked c heard (loop_of v) y.unmarked);
                noted = rw (kept_is parts v (Some o.notes) e told) noted_after;
                goes = y.goes
                    ∙ tally_step w named p k t c y.bodies (known_of y.bodies) (bits_of m) one_less d apart.reads
                    ∙ ap₂ (λ (x : ℕ) (z : Cut). seen_as (summed w named (left - 1) x z (t + (1 + length b)) (counted c (notes (body_of y.bodies (pattern v wish))) (loop_of v)) after) (patterns_due (left - 1) (learn (known_of y.bodies) v) (bits_of m) f'.0)) behind_part_lem (sym own_is.1)
                    ∙ ap (λ (x : ℕ). seen_as (summed w named (left - 1) f'.0 o.cut (t + (1 + x)) (counted c (notes (body_of y.bodies (pattern v wish))) (loop_of v)) after) (patterns_due (left - 1) (learn (known_of y.bodies) v) (bits_of m) f'.0)) size
                    ∙ ap₂ (λ (x : Count) (z : List Bool). seen_as (summed w named (left - 1) f'.0 o.cut (t + (1 + specifier v)) x after) (patterns_due (left - 1) z (bits_of m) f'.0)) (sym j') l;
              }

-- a part that is no recall is kept, and a recall's stays, as each way out of the test has it
pub kept_part : {parts : List (Option ℕ)} (v : ℕ) (part : Option ℕ) {now : List (Option ℕ)} → (specifier v ≡ 0 → ⊥) → now ≡ set parts (part_of v) part → Kept parts v part now
kept_part v part n e = inl (n, e)

pub kept_recall : {parts : List (Option ℕ)} (v : ℕ) (part : Option ℕ) {now : List (Option ℕ)} → specifier v ≡ 0 → now ≡ parts → Kept parts v part now
kept_recall v part z e = inr (z, e)

pub ruleset tallies = (tally_begins, tally_done, tally_within, tally_counts, tally_fits, tally_bad, tally_part, tally_unknown, tally_notes, tally_on)

-- What each return of the functions that plan an edit shows.
use Prim.Native.Nat.{ℕ, suc, ◌+◌, ◌-◌, ◌*◌, ◌%◌, ◌≤◌, ◌<◌}
use native.Mathlib.Omega.{arith}
use mathlib.Core.Path.{◌≡◌, refl, sym, ap, ap₂, ◌∙◌}
use mathlib.Core.Bool.{Bool, true, false, not, ◌&&◌}
use mathlib.Core.List.{List, [], ◌∷◌, ◌++◌}
use lib.ListN.{length, take, drop, set, length-append, length-set, take-append-drop}
use lib.Seq.{split_at, take-add}
use lib.Dec.{leb, ltb}
use borrow.Author.Tests.{not-true, not-false, le-ltb, lt-ltb, ltb-true, eq-eqb}
use mir.Val.{Fits}
use mir.Syntax.{w32}
use Rattle.std.specs.Prelude.{Result, Ok, Err, ⊤}
use Rattle.bits.specs.Refusals.{number_of}
use Rattle.bits.specs.declared.refusal.Ground.{Ground}
use Rattle.bits.specs.declared.refusal.Ground.TheVariants.{Code, NotThere}
use Rattle.bits.specs.declared.refusal.Refusal.{Refusal}
use Rattle.bits.proofs.Refusals.{Given}
use Rattle.bits.proofs.Answered.{refusal_answered, acceptance_answered}
use Rattle.bits.specs.Choice.{pick}
use Rattle.bits.specs.Outcome.{Outcome, accepted, refused, and_then}
use Rattle.bits.specs.declared.BitPlace.{BitPlace}
use Rattle.bits.proofs.Octets.{length_bits_of}
use Rattle.bits.specs.Places.{place}
use Rattle.tone.specs.Tone.{Pattern, Tone, Front, front_of, specifier, header, cells, pattern_at, none_known, Sound as SoundPart}
use Rattle.tone.specs.Writing.{entry_bits, table_bits, front_bits}
use Rattle.tone.specs.Reading.{read_tone}
use Rattle.tone.proofs.Rows.{table_bits_append, header_small, header_wide}
use Rattle.tone.proofs.Positions.{sound_at}
use Rattle.tone.proofs.Numbered.{tone_numbered}
use Rattle.tone_judge.specs.declared.Wish.{Wish}
use Rattle.tone_judge.specs.declared.Cut.{Cut}
use Rattle.tone_judge.specs.declared.Total.{Total}
use Rattle.tone_judge.specs.declared.Judged.{Judged}
use Rattle.list_count.specs.Bodies.{no_bodies}
use Rattle.list_count.specs.Counting.{entry_count, mark_from}
use Rattle.tone_judge.specs.Wishes.{grants, wished, place_in, cut_of, no_cut}
use Rattle.tone_judge.specs.Answers.{total_of, judged as told_as, judged_for}
use Rattle.tone_read.proofs.Told.{Told, told}
use Rattle.edit_change.specs.declared.Edit.{Edit}
use Rattle.edit_change.specs.Change.{carried, removed, body_after, with_body, changed, carries_new, in_body, empties, overfills, header_place}
use Rattle.edit_change.specs.Answers.{Puts, ground_of, ground_as}
use Rattle.edit_change.proofs.Bodies.{Fits as FitsEdit, length_after, body_instructions, cells_append, changed_formed, front_same}
use Rattle.edit_change.proofs.Grounds.{no_ground, ground_granted, ground_refused}
use Rattle.edit_build.specs.declared.Piece.{Piece}
use Rattle.edit.specs.declared.Outline.{Outline}
use Rattle.edit.specs.Editing.{body_length, edit_tone}
use Rattle.edit.specs.Plan.{ground_for, Going}
use Rattle.edit.proofs.Rebuilt.{joined_is}

-- ---- the ground

module _ (ed : Edit) (k i p c : ℕ) {b : Bool} (q : b ≡ carries_new ed) where
  pub ground_new : not b ≡ true → Err Code ≡ ground_as (ground_for ed k i p c)
  ground_new h = rw (sym q ∙ not-true b h) refl

  module _ (h : not b ≡ false) where
    pub ground_pattern : p ≤ k → Err NotThere ≡ ground_as (ground_for ed k i p c)
    ground_pattern l = rw (sym q ∙ not-false b h, le-ltb k p l) refl

    pub ground_body : k < p → {g : Result ⊤ Ground} → g ≡ ground_as (ground_of ed i (c % 256)) → g ≡ ground_as (ground_for ed k i p c)
    ground_body l e = rw (sym q ∙ not-false b h, lt-ltb k p l) e

-- a ground against an edit is a number of 01
ground_given : (ed : Edit) (k i p c : ℕ) → (ground_for ed k i p c ≡ 0 → ⊥) → Given (ground_for ed k i p c)
ground_given ed k i p c = go (carries_new ed) (ltb k p) (leb 1 (c % 256) && in_body ed i (c % 256)) (empties ed (c % 256)) (overfills ed (c % 256))
  where
    go : (a b x y z : Bool) → (pick {A = ℕ} a (pick b (pick x (pick y 13 (pick z 14 0)) 12) 12) 6 ≡ 0 → ⊥) → Given (pick a (pick b (pick x (pick y 13 (pick z 14 0)) 12) 12) 6)
    go false b x y z h = refl
    go true false x y z h = refl
    go true true false y z h = refl
    go true true true true z h = refl
    go true true true false true h = refl
    go true true true false false h = absurd (h refl)

pub ruleset grounds = (ground_new, ground_pattern, ground_body)

-- a ground is the edit's refusal, where c has the body's length
module _ (ed : Edit) (k i c : ℕ) (t : Tone) (size : k < length t.patterns → c % 256 ≡ body_length k t) where
  abbrev there : Bool
  there = leb 1 (body_length k t) && in_body ed i (body_length k t)

  -- the edit as the rules have it, by its four tests
  abbrev judged : Bool → Bool → Bool → Bool → Bool → Outcome Tone
  judged a b x y z = pick a (pick (b && x) (pick y (refused 13 0) (pick z (refused 14 0) (accepted (changed ed k i t)))) (refused 12 0)) (refused 6 0)

  -- a ground is what the edit is refused for
  pub ground_refuses : {g : ℕ} → g ≡ ground_for ed k i (length t.patterns) c → (g ≡ 0 → ⊥) → edit_tone ed k i t ≡ refused g 0
  ground_refuses {g} e h = go (carries_new ed) (ltb k (length t.patterns)) refl refl
    where
      body : (x y z : Bool) → g ≡ pick x (pick y 13 (pick z 14 0)) 12 → judged true true x y z ≡ refused g 0
      body true true z q = rw q refl
      body true false true q = rw q refl
      body true false false q = absurd (h q)
      body false y z q = rw q refl

      go : (a b : Bool) → carries_new ed ≡ a → ltb k (length t.patterns) ≡ b → edit_tone ed k i t ≡ refused g 0
      go false b p q = let o : g ≡ 6 = e ∙ (rw p refl) in rw (p, o) refl
      go true false p q = let o : g ≡ 12 = e ∙ (rw (p, q) refl) in rw (p, q, o) refl
      go true true p q =
          let s = size (ltb-true k (length t.patterns) q) in
          rw (p, q) (body there (empties ed (body_length k t)) (overfills ed (body_length k t)) (e ∙ (rw (p, q, s) refl)))

  -- with none it is accepted
  pub record Granted : Type 0 where
    pub new : carries_new ed ≡ true
    pub found : k < length t.patterns
    pub none : ground_of ed i (body_length k t) ≡ 0
    pub accepts : edit_tone ed k i t ≡ accepted (changed ed k i t)

  pub ground_grants : {g : ℕ} → g ≡ ground_for ed k i (length t.patterns) c → g ≡ 0 → Granted
  ground_grants {g} e h = go (carries_new ed) (ltb k (length t.patterns)) refl refl
    where
      body : (x y z : Bool) → ◌≡◌ {A = ℕ} (pick x (pick y 13 (pick z 14 0)) 12) 0 → judged true true x y z ≡ accepted (changed ed k i t)
      body true true z q = let o : ⊥ = omega arith in absurd o
      body true false true q = let o : ⊥ = omega arith in absurd o
      body true false false q = refl
      body false y z q = let o : ⊥ = omega arith in absurd o

      go : (a b : Bool) → carries_new ed ≡ a → ltb k (length t.patterns) ≡ b → Granted
      go false b p q = let o : g ≡ 6 = e ∙ (rw p refl) in let z : ⊥ = omega arith in absurd z
      go true false p q = let o : g ≡ 12 = e ∙ (rw (p, q) refl) in let z : ⊥ = omega arith in absurd z
      go true true p q =
          let l = ltb-true k (length t.patterns) q in
          let s = size l in
          let o : ground_of ed i (body_length k t) ≡ 0 = sym (e ∙ (rw (p, q, s) refl)) ∙ h in
          record { new = p; found = l; none = o; accepts = rw (p, q) (body there (empties ed (body_length k t)) (overfills ed (body_length k t)) o) }

-- ---- a message that was judged with the edit in mind

-- the tone that it reads as, and what was told of it
record Judging (w : Wish) (m : List ℕ) (f : BitPlace) (p : ℕ) (v : Total) : Type 0 where
  tone : Tone
  reads : read_tone m ≡ accepted tone
  first : f ≡ place (length (front_bits (front_of tone)))
  patterns : p ≡ length tone.patterns
  total : v ≡ total_of w (length (front_bits (front_of tone))) tone.patterns

-- where the patterns of a tone begin in its message
abbrev start : Tone → ℕ
start t = length (front_bits (front_of t))

judging_of : (w : Wish) (m : List ℕ) {v : Judged} → Ok v ≡ judged_for w (read_tone m) → Judging w m v.at v.patterns v.total
judging_of w m {v} h =
    let a = acceptance_answered (λ t. told_as (total_of w) (start t) t) (read_tone m) h in
    let e = a.2 in
    record { tone = a.0; reads = a.1; first = ap (λ (x : Judged). x.at) e; patterns = ap (λ (x : Judged). x.patterns) e; total = ap (λ (x : Judged). x.total) e }

module _ (w : Wish) (m : List ℕ) {j : Result Judged Refusal} (q : j ≡ judged_for w (read_tone m)) where
  abbrev ed : Edit
  ed = w.edit

  abbrev k : ℕ
  k = w.pattern

  abbrev i : ℕ
  i = w.instruction

  -- the message's own refusal
  pub plan_faulty : {r : Refusal} → j ≡ Err r → and_then (read_tone m) (edit_tone w.edit w.pattern w.instruction) ≡ refused (number_of r.why) r.place.0
  plan_faulty {r} g =
      let o = refusal_answered (λ t. told_as (total_of w) (start t) t) (read_tone m) (tone_numbered m) (sym g ∙ q) in
      ap (λ (x : Outcome Tone). and_then x (edit_tone ed k i)) o

  module _ {y : Judged} (g : j ≡ Ok y) where
    abbrev f : BitPlace
    f = y.at

    abbrev p : ℕ
    p = y.patterns

    abbrev v : Total
    v = y.total

    jd : Judging w m y.at y.patterns y.total
    jd = judging_of w m (sym g ∙ q)

    abbrev t : Tone
    t = jd.tone

    abbrev part : Pattern
    part = pattern_at t.patterns k

    d : Told m t
    d = told m t jd.reads

    sound : k < length t.patterns → SoundPart part
    sound l = sound_at none_known t.patterns k d.formed.sequence l

    -- where the wish cuts: the part named
    cut_is : k < length t.patterns → v.cut ≡ cut_of w (header_place t k) (header part) part.body
    cut_is l = ap (λ (x : Total). x.cut) jd.total ∙ ap (λ (x : Bool). pick x (cut_of w (header_place t k) (header part) part.body) no_cut) (lt-ltb k (length t.patterns) l)

    cell_is : k < length t.patterns → v.cut.cell ≡ header part
    cell_is l = ap (λ (x : Cut). x.cell) (cut_is l) ∙ go (grants w part.body)
      where
        go : (x : Bool) → (pick {A = Cut} x (record { header = place (header_place t k); at = place (place_in (header_place t k) part.body i); behind = place (place_in (header_place t k) part.body (i + removed ed)); cell = header part }) (record { header = place (header_place t k); at = place (header_place t k); behind = place (header_place t k); cell = header part })).cell ≡ header part
        go true = refl
        go false = refl

    size : k < length t.patterns → v.cut.cell % 256 ≡ body_length k t
    size l = ap specifier (cell_is l) ∙ (header_small part (sound l)).1

    module _ {r : Result ⊤ Ground} (e : r ≡ ground_as (ground_for w.edit w.pattern w.instruction y.patterns y.total.cut.cell)) where
      -- its number
      abbrev n : ℕ
      n = ground_for w.edit w.pattern w.instruction y.patterns y.total.cut.cell

      ground : n ≡ ground_for ed k i (length t.patterns) v.cut.cell
      ground = ap (λ (x : ℕ). ground_for ed k i x v.cut.cell) jd.patterns

      pub plan_ground : {z : Ground} → r ≡ Err z → and_then (read_tone m) (edit_tone w.edit w.pattern w.instruction) ≡ refused (number_of z) 0
      plan_ground {z} h =
          let o = ground_refused n (ground_given ed k i p v.cut.cell) (sym h ∙ e) in
          ap (λ (x : Outcome Tone). and_then x (edit_tone ed k i)) jd.reads ∙ ground_refuses ed k i v.cut.cell t size ground o.1 ∙ ap (λ (x : ℕ). refused x 0) o.0

      module _ {u : ⊤} (z : r ≡ Ok u) where
        grant : Granted ed k i v.cut.cell t size
        grant = ground_grants ed k i v.cut.cell t size ground (ground_granted n (sym z ∙ e))

        pub plan_new : carries_new w.edit ≡ true
        plan_new = grant.new

        abbrev b : List ℕ
        b = part.body

        fit : FitsEdit ed i (length b)
        fit = (no_ground ed i (body_length k t) (sound grant.found).long grant.none).1

        some : 1 ≤ length b
        some = (no_ground ed i (body_length k t) (sound grant.found).long grant.none).0

        granting : grants w b ≡ true
        granting = eq-eqb (ground_of ed i (body_length k t)) 0 grant.none

        -- the places of the cut
        cut_there : v.cut ≡ record { header = place (header_place t k); at = place (place_in (header_place t k) b i); behind = place (place_in (header_place t k) b (i + removed ed)); cell = header part }
        cut_there = cut_is grant.found ∙ (rw granting refl)

        abbrev after : Pattern
        after = with_body part (body_after ed i b)

        long : length (body_after ed i b) ≡ length b - removed ed + length (carried ed)
        long = length_after ed i b fit.inside

        after_sound : SoundPart after
        after_sound = let y = sound grant.found in record { id = y.id; loop = y.loop; long = rw long fit.most; each = body_instructions ed i b grant.new y.each }

        small : v.cut.cell < 16384
        small = rw (cell_is grant.found) (header_small part (sound grant.found)).0

        module _ {a : ℕ} (ha : (a ≡ length (carried w.edit)) × (a ≤ 1)) where
          pub plan_cell_fits : Fits w32 (y.total.cut.cell + a)
          plan_cell_fits = record { fits = omega (arith, small, ha.1) }

          module _ {rm : ℕ} (hm : (rm ≡ removed w.edit) × (rm ≤ 1)) where
            counts : v.cut.cell % 256 ≡ length b
            counts = size grant.found

            pub plan_cell_least : rm ≤ y.total.cut.cell + a
            plan_cell_least = omega (arith, counts, fit.inside, hm.0)

            new_cell : v.cut.cell + a - rm ≡ header after
            new_cell = omega (arith, cell_is grant.found, long, fit.inside, hm.0, ha.0)

            -- how the patterns' bits are made up
            abbrev others : ℕ
            others = length (table_bits (cells (drop (suc k) t.patterns)))

            bits : length (table_bits (cells t.patterns)) ≡ length (table_bits (cells (take k t.patterns))) + (17 + (length (table_bits b) + others))
            bits =
                let ps = t.patterns in
                let xs = take k t.patterns in
                let ys = drop (suc k) t.patterns in
                let y = sound grant.found in
                ap (λ (x : List Pattern). length (table_bits (cells x))) (split_at ps k (record { id = 0; loop = 0; body = [] }) grant.found)
                ∙ ap length (ap table_bits (cells_append xs (part ∷ ys)) ∙ table_bits_append (cells xs) (header part ∷ (part.body ++ cells ys)))
                ∙ length-append (table_bits (cells xs)) (entry_bits (header part) ++ table_bits (part.body ++ cells ys))
                ∙ ap (λ (x : ℕ). length (table_bits (cells xs)) + x)
                (length-append (entry_bits (header part)) (table_bits (part.body ++ cells ys))
                ∙ ap₂ (λ (x z : ℕ). x + z) (header_wide (header part) (header_small part y).0) (ap length (table_bits_append part.body (cells ys)) ∙ length-append (table_bits part.body) (table_bits (cells ys))))

            -- and those of the body
            cut_bits : (j : ℕ) → length (table_bits b) ≡ length (table_bits (take j b)) + length (table_bits (drop j b))
            cut_bits j = ap (λ (x : List ℕ). length (table_bits x)) (sym (take-append-drop j b)) ∙ ap length (table_bits_append (take j b) (drop j b)) ∙ length-append (table_bits (take j b)) (table_bits (drop j b))

            taken : length (table_bits (take (i + removed ed) b)) ≡ length (table_bits (take i b)) + length (table_bits (take (removed ed) (drop i b)))
            taken = ap (λ (x : List ℕ). length (table_bits x)) (take-add i (removed ed) b) ∙ ap length (table_bits_append (take i b) (take (removed ed) (drop i b))) ∙ length-append (table_bits (take i b)) (table_bits (take (removed ed) (drop i b)))

            pub plan_go : {pc : Piece} {ol : Outline} → Puts (carried w.edit) pc.width pc.value → (ol.first ≡ y.at) × (ol.patterns ≡ y.patterns) × (ol.entries ≡ y.total.list) × (ol.mark ≡ y.total.mark)
                → Going m w.edit w.pattern w.instruction
                (record { header = y.total.cut.header; cell = y.total.cut.cell + a - rm; spot = record { at = y.total.cut.at; behind = y.total.cut.behind; end = y.total.end }; piece = pc; outline = ol })
            plan_go pu ho =
                let ps = t.patterns in
                let eh : v.cut.header.0 ≡ header_place t k = ap (λ (c : Cut). c.header.0) cut_there in
                let ea : v.cut.at.0 ≡ v.cut.header.0 + 17 + length (table_bits (take i b)) = omega (arith, ap (λ (c : Cut). c.at.0) cut_there, eh) in
                let eb : v.cut.behind.0 ≡ v.cut.at.0 + length (table_bits (take (removed ed) (drop i b))) = omega (arith, ap (λ (c : Cut). c.behind.0) cut_there, ea, eh, taken) in
                let ez : v.end.0 ≡ length (front_bits (front_of t)) + length (table_bits (cells t.patterns)) = ap (λ (c : Total). c.end.0) jd.total in
                let ee : v.end.0 ≡ v.cut.behind.0 + length (table_bits (drop (i + removed ed) b)) + others = omega (arith, ez, bits, ap (λ (c : Cut). c.behind.0) cut_there, cut_bits (i + removed ed)) in
                let ends : v.end.0 ≤ 8 * length m = omega (arith, ez, ap length d.bits ∙ length-append (front_bits (front_of t)) (table_bits (cells t.patterns) ++ d.behind), length-append (table_bits (cells t.patterns)) d.behind, length_bits_of m) in
                let same : wished w t.patterns ≡ (changed ed k i t).patterns = ap (λ (c : Bool). set ps k (with_body part (pick c (body_after ed i b) b))) granting in
                record {
                  tone = t;
                  reads = jd.reads;
                  short = d.short;
                  accepts = grant.accepts;
                  laid = record {
                    ahead = omega (arith, ea);
                    inside = omega (arith, eb, ee, ends);
                    order = omega (arith, ee);
                    ends = ends;
                    header = omega (arith, new_cell, (header_small after after_sound).0);
                    width = pu.short;
                    value = pu.small;
                    formed = changed_formed ed k i t d.formed grant.new grant.found some fit;
                    spells = joined_is m t d ed k i grant.found fit.inside eh ea eb ee pu new_cell (rw new_cell (header_small after after_sound).0);
                    outlines = record {
                      first = ap (λ (c : BitPlace). c.0) (ho.0 ∙ jd.first) ∙ ap (λ (c : Front). length (front_bits c)) (sym (front_same ed k i t));
                      patterns = ho.1 ∙ jd.patterns ∙ sym (length-set ps k after);
                      entries = ho.2 ∙ ap (λ (c : Total). c.list) jd.total ∙ ap (entry_count no_bodies) same;
                      mark = ho.3 ∙ ap (λ (c : Total). c.mark) jd.total ∙ ap (mark_from no_bodies 0) same;
                    };
                  };
                }

pub ruleset plans = (plan_faulty, plan_ground, plan_new, plan_cell_fits, plan_cell_least, plan_go)

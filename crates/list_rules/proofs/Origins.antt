-- Where an entry comes from: its origin leads, through the tone table, to the very note listed.
use Prim.Native.Nat.{ℕ, zero, suc, ◌+◌, ◌*◌, ◌<◌}
use native.Mathlib.Omega.{arith}
use mathlib.Core.Path.{◌≡◌, refl, sym, ap, ap₂, subst, ◌∙◌}
use mathlib.Core.Logic.{◌⊎◌, inl, inr, ⊎_elim}
use mathlib.Core.Bool.{Bool, true, false}
use mathlib.Core.List.{List, [], ◌∷◌, ◌++◌, append_assoc, map}
use lib.ListN.{length, get_or, take, length-append}
use lib.Seq.{take_at, length-take-le, get_or-take, get_or-append_seam}
use lib.Dec.{eqb}
use borrow.Author.Tests.{eqb-true, eqb-false}
use Rattle.bits.specs.Choice.{pick}
use Rattle.tone.specs.Table.{kind, payload, note_of}
use Rattle.tone.specs.Tone.{Pattern, Tone, Formed, cells, pattern_at, header_cell, none_known}
use Rattle.tone.proofs.Positions.{instruction_there, sound_at}
use Rattle.list_count.specs.Bodies.{Remembered, unknown, known, recalled, no_bodies, is_recall, passes_of, body_of, remember}
use Rattle.list_rules.specs.declared.Entry.{Entry}
use Rattle.list_rules.specs.Duration.{microseconds}
use Rattle.list_rules.specs.Sounding.{State, at_start, units_of, beats_at, following, sounded, origin}
use Rattle.list_rules.specs.Ranges.{Bounded, AllBounded}
use Rattle.list_rules.specs.Playing.{Played, Listing, ahead, step, pass, begun, one_pass, passes, pattern_played, next_header, play, playing_list}
use Rattle.list_rules.proofs.Settling.{either}
use Rattle.list_rules.proofs.Joining.{state_after, bodies_after, NoneEndless}
use Rattle.list_rules.proofs.Restarts.{patterns_carry}
use Rattle.list_rules.proofs.Headers.{pass_header, pass_position, passes_header, header_after}
use Rattle.list_rules.proofs.Bounds.{list_bounded}
use Rattle.list_rules.proofs.Packing.{origin_most}
use Rattle.list_rules.proofs.Spans.{times}
use Rattle.list_rules.proofs.Recalls.{nearest, places_hold_nearest, Nearest, nearest_at}

-- ---- the origins of a pass

-- the positions of the notes and pauses of a body, the first of which has position i
abbrev pub note_positions : ℕ → List ℕ → List ℕ
note_positions i [] = []
note_positions i (e ∷ b) = pick (eqb (kind e) 1) (i ∷ note_positions (i + 1) b) (note_positions (i + 1) b)

-- a pass lists the header's position × 256 + those of its notes and pauses in turn
pub pass_origins : (s : State) (b : List ℕ) → map origin (pass s b).entries ≡ map (λ i. s.header * 256 + i) (note_positions s.position b)
unfolding step sounded
pass_origins s [] = refl
pass_origins s (e ∷ b) =
    either (eqb (kind e) 1)
    (λ z. rw z (ap (λ (l : List ℕ). (s.header * 256 + s.position) ∷ l) (pass_origins (following s e) b)))
    (λ z. rw z (pass_origins (following s e) b))

origins_append : (a b : List Entry) → map origin (a ++ b) ≡ map origin a ++ map origin b
origins_append [] b = refl
origins_append (r ∷ a) b = ap (λ (l : List ℕ). origin r ∷ l) (origins_append a b)

-- and each pass of a pattern lists the same, from the body's first instruction on
pub passes_origins : (loop n : ℕ) (s : State) (b : List ℕ) → map origin (passes loop n s b).entries ≡ times n (map (λ i. s.header * 256 + i) (note_positions 0 b))
passes_origins loop zero s b = refl
passes_origins loop (suc n) s b =
    let d = one_pass loop s b in
    origins_append d.entries (passes loop n d.after b).entries
    ∙ ap₂ (λ (x y : List ℕ). x ++ y) (pass_origins (begun loop s) b) (passes_origins loop n d.after b ∙ ap (λ (h : ℕ). times n (map (λ i. h * 256 + i) (note_positions 0 b))) (pass_header (begun loop s) b))

-- ---- an entry in what is played

-- an entry among others, ahead of which these stand
abbrev Behind : List Entry → Entry → List Entry → Type 0
Behind front r l = (rest : List Entry) × (l ≡ front ++ r ∷ rest)

-- it is one of the first, or one of the others
either_part : (a b front : List Entry) (r : Entry) → Behind front r (a ++ b) → Behind front r a ⊎ ((inner : List Entry) × (front ≡ a ++ inner) × Behind inner r b)
either_part [] b front r h = inr (front, refl, h)
either_part (x ∷ a) b [] r (rest, e) = let z : x ≡ r = cc in inl (a, ap (λ (y : Entry). y ∷ a) z)
either_part (x ∷ a) b (y ∷ front) r (rest, e) =
    let z : x ≡ y = cc in
    let tail : a ++ b ≡ front ++ r ∷ rest = cc in
    ⊎_elim (λ i. inl (i.0, λ j. z j ∷ i.1 j)) (λ o. inr (o.0, (λ j. sym z j ∷ o.1 j), o.2)) (either_part a b front r (rest, tail))

-- in a pass: the note, the instructions ahead of it, and the entries that these add
record InPass (s : State) (b : List ℕ) (front : List Entry) (r : Entry) : Type 0 where
  played : List ℕ
  note : ℕ
  left : List ℕ
  body : b ≡ played ++ note ∷ left
  is_note : kind note ≡ 1
  listed : front ≡ (pass s played).entries
  sounds : r ≡ sounded (pass s played).after (payload note)

-- one instruction more ahead of it
behind_one : (s : State) (i : ℕ) (b : List ℕ) (front : List Entry) (r : Entry) → InPass (following s i) b front r → InPass s (i ∷ b) ((step s i).entries ++ front) r
unfolding step
behind_one s i b front r q = record {
  played = i ∷ q.played;
  note = q.note;
  left = q.left;
  body = ap (λ (l : List ℕ). i ∷ l) q.body;
  is_note = q.is_note;
  listed = ap (λ (l : List Entry). (step s i).entries ++ l) q.listed;
  sounds = q.sounds;
}

in_pass : (s : State) (b : List ℕ) (front : List Entry) (r : Entry) → Behind front r (pass s b).entries → InPass s b front r
unfolding step
in_pass s [] [] r (rest, e) = let z : ◌≡◌ {A = ℕ} 0 1 = cc in absurd (omega arith)
in_pass s [] (x ∷ front) r (rest, e) = let z : ◌≡◌ {A = ℕ} 0 1 = cc in absurd (omega arith)
in_pass s (i ∷ b) front r h =
    ⊎_elim
    (λ here. the_note (eqb (kind i) 1) refl front here)
    (λ o. rw o.1 (behind_one s i b o.0 r (in_pass (following s i) b o.0 r o.2)))
    (either_part (step s i).entries (pass (following s i) b).entries front r h)
  where
    the_note : (t : Bool) → eqb (kind i) 1 ≡ t → (front : List Entry) → Behind front r (pick t (sounded s (payload i) ∷ []) []) → InPass s (i ∷ b) front r
    the_note true k [] (rest, e) = let z : sounded s (payload i) ≡ r = cc in record { played = []; note = i; left = b; body = refl; is_note = eqb-true (kind i) 1 k; listed = refl; sounds = sym z }
    the_note true k (x ∷ []) (rest, e) = let z : ◌≡◌ {A = ℕ} 0 1 = cc in absurd (omega arith)
    the_note true k (x ∷ y ∷ front) (rest, e) = let z : ◌≡◌ {A = ℕ} 0 1 = cc in absurd (omega arith)
    the_note false k [] (rest, e) = let z : ◌≡◌ {A = ℕ} 0 1 = cc in absurd (omega arith)
    the_note false k (x ∷ front) (rest, e) = let z : ◌≡◌ {A = ℕ} 0 1 = cc in absurd (omega arith)

-- in so many passes: the passes ahead, and the entry in the next
record InPasses (loop n : ℕ) (s : State) (b : List ℕ) (front : List Entry) (r : Entry) : Type 0 where
  passed : ℕ
  few : passed < n
  inner : List Entry
  listed : front ≡ (passes loop passed s b).entries ++ inner
  there : InPass (begun loop (passes loop passed s b).after) b inner r

in_passes : (loop n : ℕ) (s : State) (b : List ℕ) (front : List Entry) (r : Entry) → Behind front r (passes loop n s b).entries → InPasses loop n s b front r
in_passes loop zero s b [] r (rest, e) = let z : ◌≡◌ {A = ℕ} 0 1 = cc in absurd (omega arith)
in_passes loop zero s b (x ∷ front) r (rest, e) = let z : ◌≡◌ {A = ℕ} 0 1 = cc in absurd (omega arith)
in_passes loop (suc n) s b front r h =
    let d = one_pass loop s b in
    ⊎_elim
    (λ here. record { passed = 0; few = omega arith; inner = front; listed = refl; there = in_pass (begun loop s) b front r here })
    (λ o. let q = in_passes loop n d.after b o.0 r o.2 in record {
      passed = suc q.passed;
      few = omega (arith, q.few);
      inner = q.inner;
      listed = o.1 ∙ ap (λ (l : List Entry). d.entries ++ l) q.listed ∙ sym (append_assoc d.entries (passes loop q.passed d.after b).entries q.inner);
      there = q.there;
    })
    (either_part d.entries (passes loop n d.after b).entries front r h)

-- in a list: the patterns ahead, and the entry in the passes of the next
record InList (s : State) (bodies : List Remembered) (n : ℕ) (ps : List Pattern) (front : List Entry) (r : Entry) : Type 0 where
  before : List Pattern
  pattern : Pattern
  behind : List Pattern
  patterns : ps ≡ before ++ pattern ∷ behind
  none : NoneEndless before
  inner : List Entry
  listed : front ≡ (play s bodies n before).entries ++ inner
  there : InPasses pattern.loop (passes_of pattern.loop) (state_after s bodies before) (body_of (bodies_after bodies before) pattern) inner r

in_list : (s : State) (bodies : List Remembered) (n : ℕ) (ps : List Pattern) (front : List Entry) (r : Entry) → Behind front r (play s bodies n ps).entries → InList s bodies n ps front r
unfolding pattern_played
in_list s bodies n [] [] r (rest, e) = let z : ◌≡◌ {A = ℕ} 0 1 = cc in absurd (omega arith)
in_list s bodies n [] (x ∷ front) r (rest, e) = let z : ◌≡◌ {A = ℕ} 0 1 = cc in absurd (omega arith)
in_list s bodies n (p ∷ ps) front r h =
    let d = pattern_played s bodies p in
    let next = next_header d.after in
    let k = n + length d.entries in
    let here : Behind front r d.entries → InList s bodies n (p ∷ ps) front r =
    λ i. record { before = []; pattern = p; behind = ps; patterns = refl; none = tt; inner = front; listed = refl; there = in_passes p.loop (passes_of p.loop) s (body_of bodies p) front r i } in
    either (eqb p.loop 15)
    (λ z. here (rw z at h))
    (λ z. ⊎_elim here
    (λ o. let q = in_list next (remember bodies p) k ps o.0 r o.2 in record {
      before = p ∷ q.before;
      pattern = q.pattern;
      behind = q.behind;
      patterns = ap (λ (l : List Pattern). p ∷ l) q.patterns;
      none = (eqb-false p.loop 15 z, q.none);
      inner = q.inner;
      listed = o.1 ∙ ap (λ (l : List Entry). d.entries ++ l) q.listed ∙ sym (append_assoc d.entries (play next (remember bodies p) k q.before).entries q.inner)
          ∙ ap (λ (g : Listing). g.entries ++ q.inner) (sym (patterns_carry s bodies n p q.before (eqb-false p.loop 15 z)));
      there = q.there;
    })
    (either_part d.entries (play next (remember bodies p) k ps).entries front r (rw z at h)))

-- ---- by positions

-- the body that the header at position h sounds
abbrev pub body_played : List Pattern → ℕ → List ℕ
body_played ps h = body_of (bodies_after no_bodies (take h ps)) (pattern_at ps h)

-- what is listed ahead of instruction i in the body of header h, so many passes of it being done, and the state then
abbrev pub up_to : List Pattern → ℕ → ℕ → ℕ → Played
up_to ps h k i =
    let loop = (pattern_at ps h).loop in
    let done = passes loop k (state_after at_start no_bodies (take h ps)) (body_played ps h) in
    ahead (play at_start no_bodies 0 (take h ps)).entries (ahead done.entries (pass (begun loop done.after) (take i (body_played ps h))))

-- an entry of the list of some patterns, ahead of which these stand: its header is one of theirs, its position is one of the body played, a note
-- stands there, and the entry is what this note adds, at the state that all that is listed ahead leaves
pub record ComesOf (ps : List Pattern) (front : List Entry) (r : Entry) : Type 0 where
  pub passed : ℕ
  pub header : r.header < length ps
  pub few : passed < passes_of (pattern_at ps r.header).loop
  pub position : r.position < length (body_played ps r.header)
  pub note : kind (get_or (body_played ps r.header) r.position 0) ≡ 1
  pub listed : front ≡ (up_to ps r.header passed r.position).entries
  pub sounds : r ≡ sounded (up_to ps r.header passed r.position).after (payload (get_or (body_played ps r.header) r.position 0))

module _ (ps : List Pattern) (front : List Entry) (r : Entry) (rest : List Entry) (h : (play at_start no_bodies 0 ps).entries ≡ front ++ r ∷ rest) where
  found : InList at_start no_bodies 0 ps front r
  found = in_list at_start no_bodies 0 ps front r (rest, h)

  loop : ℕ
  loop = found.pattern.loop

  body : List ℕ
  body = body_of (bodies_after no_bodies found.before) found.pattern

  done : Played
  done = passes loop found.there.passed (state_after at_start no_bodies found.before) body

  heard : InPass (begun loop done.after) body found.there.inner r
  unfolding loop body done
  heard = found.there.there

  header_is : r.header ≡ length found.before
  unfolding sounded loop body done
  header_is =
      ap (λ (x : Entry). x.header) heard.sounds ∙ pass_header (begun loop done.after) heard.played
      ∙ passes_header loop found.there.passed (state_after at_start no_bodies found.before) body ∙ header_after at_start no_bodies found.before ∙ omega arith

  position_is : r.position ≡ length heard.played
  unfolding sounded
  position_is = ap (λ (x : Entry). x.position) heard.sounds ∙ pass_position (begun loop done.after) heard.played ∙ omega arith

  before_is : take r.header ps ≡ found.before
  before_is = ap (λ (n : ℕ). take n ps) header_is ∙ ap (take (length found.before)) found.patterns ∙ take_at found.before (found.pattern ∷ found.behind) (length found.before) refl

  pattern_is : pattern_at ps r.header ≡ found.pattern
  pattern_is = ap (pattern_at ps) header_is ∙ ap (λ (l : List Pattern). pattern_at l (length found.before)) found.patterns ∙ get_or-append_seam found.before found.pattern found.behind (record { id = 0; loop = 0; body = [] })

  body_is : body_played ps r.header ≡ body
  unfolding body
  body_is = ap₂ (λ (l : List Pattern) (p : Pattern). body_of (bodies_after no_bodies l) p) before_is pattern_is

  played_is : take r.position (body_played ps r.header) ≡ heard.played
  played_is = ap₂ take position_is (body_is ∙ heard.body) ∙ take_at heard.played (heard.note ∷ heard.left) (length heard.played) refl

  note_is : get_or (body_played ps r.header) r.position 0 ≡ heard.note
  note_is = ap₂ (λ (l : List ℕ) (n : ℕ). get_or l n 0) (body_is ∙ heard.body) position_is ∙ get_or-append_seam heard.played heard.note heard.left 0

  up_to_lem : up_to ps r.header found.there.passed r.position ≡ ahead (play at_start no_bodies 0 found.before).entries (ahead done.entries (pass (begun loop done.after) heard.played))
  unfolding loop done
  up_to_lem = λ j.
      let before = before_is j in
      let times = passes (pattern_is j).loop found.there.passed (state_after at_start no_bodies before) (body_is j) in
      ahead (play at_start no_bodies 0 before).entries (ahead times.entries (pass (begun (pattern_is j).loop times.after) (played_is j)))

  pub comes_of : ComesOf ps front r
  unfolding loop body done heard
  comes_of = record {
    passed = found.there.passed;
    header = omega (arith, header_is, ap length found.patterns ∙ length-append found.before (found.pattern ∷ found.behind));
    few = subst (λ (p : Pattern). found.there.passed < passes_of p.loop) (sym pattern_is) found.there.few;
    position = omega (arith, position_is, ap length (body_is ∙ heard.body) ∙ length-append heard.played (heard.note ∷ heard.left));
    note = ap kind note_is ∙ heard.is_note;
    listed = found.listed ∙ ap (λ (l : List Entry). (play at_start no_bodies 0 found.before).entries ++ l) (found.there.listed ∙ ap (λ (l : List Entry). done.entries ++ l) heard.listed) ∙ sym (ap (λ (d : Played). d.entries) up_to_lem);
    sounds = heard.sounds ∙ ap₂ (λ (d : Played) (e : ℕ). sounded d.after (payload e)) (sym up_to_lem) (sym note_is);
  }

-- ---- through the tone table

-- the table's cell of the instruction at position i under the header at position h: 1 + i behind the header's
abbrev pub table_cell : List Pattern → ℕ → ℕ → ℕ
table_cell ps h i = get_or (cells ps) (header_cell ps h + (1 + i)) 0

-- an entry's position leads, under the header at position h, to the very note listed: the cell is a note; its note value is the listed one; and the
-- listed duration is the step's from its units, at the tempo and the fraction that all that is listed ahead leaves
pub record LeadsTo (ps : List Pattern) (front : List Entry) (r : Entry) (h : ℕ) : Type 0 where
  pub passed : ℕ
  pub few : passed < passes_of (pattern_at ps r.header).loop
  pub listed : front ≡ (up_to ps r.header passed r.position).entries
  pub note : kind (table_cell ps h r.position) ≡ 1
  pub value : r.note ≡ note_of (payload (table_cell ps h r.position))
  pub lasts : let now = (up_to ps r.header passed r.position).after in
      r.microseconds ≡ microseconds now.fraction (units_of (payload (table_cell ps h r.position))) (beats_at now)

-- the header whose own instructions are the body played
leads : (ps : List Pattern) (front : List Entry) (r : Entry) (h : ℕ) → ComesOf ps front r → h < length ps → body_played ps r.header ≡ (pattern_at ps h).body → LeadsTo ps front r h
unfolding sounded
leads ps front r h c l e =
    let cell : table_cell ps h r.position ≡ get_or (body_played ps r.header) r.position 0 =
    instruction_there ps h r.position l (subst (λ (b : List ℕ). r.position < length b) e c.position) ∙ ap (λ (b : List ℕ). get_or b r.position 0) (sym e) in
    record {
      passed = c.passed;
      few = c.few;
      listed = c.listed;
      note = ap kind cell ∙ c.note;
      value = ap (λ (x : Entry). x.note) c.sounds ∙ ap (λ (n : ℕ). note_of (payload n)) (sym cell);
      lasts = let now = (up_to ps r.header c.passed r.position).after in
          ap (λ (x : Entry). x.microseconds) c.sounds ∙ ap (λ (n : ℕ). microseconds now.fraction (units_of (payload n)) (beats_at now)) (sym cell);
    }

-- a definition sounds its own instructions
own_body : (bodies : List Remembered) (p : Pattern) → is_recall p ≡ false → body_of bodies p ≡ p.body
unfolding body_of
own_body bodies p h = rw h refl

bounded_there : (front : List Entry) (r : Entry) (rest : List Entry) → AllBounded (front ++ r ∷ rest) → Bounded r
bounded_there [] r rest b = b.0
bounded_there (x ∷ front) r rest b = bounded_there front r rest b.1

module _ (t : Tone) (front : List Entry) (r : Entry) (rest : List Entry) (h : (playing_list t).entries ≡ front ++ r ∷ rest) where
  abbrev ps : List Pattern
  ps = t.patterns

  comes : ComesOf ps front r
  unfolding playing_list
  comes = comes_of ps front r rest h

  -- an entry's header is one of the tone's
  pub origin_header : r.header < length t.patterns
  origin_header = comes.header

  module _ (own : is_recall (pattern_at t.patterns r.header) ≡ false) where
    body_own : body_played ps r.header ≡ (pattern_at ps r.header).body
    body_own = own_body (bodies_after no_bodies (take r.header ps)) (pattern_at ps r.header) own

    -- of a definition: its position is one of the header's own instructions
    pub origin_inside : r.position < length (pattern_at t.patterns r.header).body
    origin_inside = subst (λ (b : List ℕ). r.position < length b) body_own comes.position

    -- and leads to the very note listed
    pub origin_leads : LeadsTo t.patterns front r r.header
    origin_leads = leads ps front r r.header comes comes.header body_own

  -- of a recall: the same through the nearest earlier definition of its id, the header's position being the recall's own
  pub recall_leads : Formed t → is_recall (pattern_at t.patterns r.header) ≡ true
      → (d : ℕ) × Nearest (pattern_at t.patterns r.header).id (take r.header t.patterns) d × LeadsTo t.patterns front r d
  unfolding body_of
  recall_leads f recall =
      let p = pattern_at ps r.header in
      let before = take r.header ps in
      let small = (sound_at none_known ps r.header f.sequence comes.header).id in
      let same : body_played ps r.header ≡ recalled (nearest p.id before) = rw recall (ap recalled (places_hold_nearest p.id small before)) in
      go (nearest p.id before) refl same
    where
      go : (a : Remembered) → nearest (pattern_at ps r.header).id (take r.header ps) ≡ a → body_played ps r.header ≡ recalled (nearest (pattern_at ps r.header).id (take r.header ps))
          → (d : ℕ) × Nearest (pattern_at ps r.header).id (take r.header ps) d × LeadsTo ps front r d
      go unknown none e = let z : ⊥ = omega (arith, comes.position, ap length (e ∙ ap recalled none)) in absurd z
      go (known b) some e =
          let w = nearest_at (pattern_at ps r.header).id (take r.header ps) b some in
          let few = length-take-le r.header ps (omega (arith, comes.header)) in
          let earlier : w.0 < r.header = omega (arith, w.1.there, few) in
          let there = get_or-take r.header ps w.0 (record { id = 0; loop = 0; body = [] }) earlier in
          (w.0, w.1, leads ps front r w.0 comes (omega (arith, comes.header)) (e ∙ ap recalled some ∙ sym w.2 ∙ ap (λ (p : Pattern). p.body) there))

  -- it is below 255 × 256 + 255
  pub origin_below : Formed t → origin r < 255 * 256 + 255
  origin_below f = origin_most r (bounded_there front r rest (subst AllBounded h (list_bounded t f)))

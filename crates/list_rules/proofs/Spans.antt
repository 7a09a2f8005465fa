-- The playing list as long passes, each from a restart: within these each span is on time, and nothing else restarts the fraction. Origins
-- have no part in it: all this is of tunes.
use Prim.Native.Nat.{ℕ, zero, suc, ◌+◌}
use native.Mathlib.Omega.{arith}
use mathlib.Core.Path.{◌≡◌, refl, sym, ap, ap₂, ◌∙◌}
use mathlib.Core.Logic.{◌⊎◌, inl, inr}
use mathlib.Core.Bool.{Bool}
use mathlib.Core.List.{List, [], ◌∷◌, ◌++◌, map, append_assoc, append-nil}
use lib.ListN.{length}
use Rattle.tone.specs.Table.{kind}
use Rattle.tone.specs.Tone.{Pattern, Tone, Formed, header, learn, none_known, Instructions, Sequence}
use Rattle.list_count.specs.Bodies.{Remembered, no_bodies, body_of, remember}
use Rattle.list_count.proofs.Bodies.{Each, each_start, each_sounds, each_kept, Body, none_body, sound_body}
use Rattle.list_rules.specs.declared.Entry.{Entry}
use Rattle.list_rules.specs.Duration.{beats, units, microseconds, left_over}
use Rattle.list_rules.specs.Sounding.{State, at_start, applied, beats_at, fraction_after, sounded}
use Rattle.list_rules.specs.Ranges.{InTime}
use Rattle.list_rules.specs.Playing.{Played, Listing, ahead, step, pass, begun, one_pass, passes, pattern_played, next_header, play, playing_list}
use Rattle.list_rules.proofs.Restarts.{tempo_restarts, pattern_carried, patterns_carry}
use Rattle.list_rules.proofs.Joining.{state_after, bodies_after, NoneEndless, pass_append}
use Rattle.list_rules.proofs.Boundaries.{boundary, OnTime, Steady, units_in, durations, sums, differences, boundaries_exact, durations_between, AllOnTime, no_drift}
use Rattle.list_rules.proofs.Bounds.{beats_some, time_start, time_begun, pass_time}
use Rattle.list_rules.proofs.Endless.{endless_list}
use Rattle.list_rules.proofs.Tunes.{tune, unplaced, tune_append, Alike, alike, alike_then, same_alike, ahead_alike, pass_alike}

-- ---- one long pass

-- a body so many times on end
abbrev pub times : ℕ → List ℕ → List ℕ
times zero b = []
times (suc n) b = b ++ times n b

-- the instructions that patterns with other loops than 15 sound, on end: each pass, and for a recall the body that it recalls
abbrev pub sounding : List Remembered → List Pattern → List ℕ
sounding bodies [] = []
sounding bodies (p ∷ ps) = times (p.loop + 1) (body_of bodies p) ++ sounding (remember bodies p) ps

passes_on_end : (n : ℕ) (s : State) (b : List ℕ) → Alike (passes 0 n s b) (pass s (times n b))
passes_on_end zero s b = alike (pass s [])
passes_on_end (suc n) s b =
    let one = one_pass 0 s b in
    let first = pass_alike (begun 0 s) s b refl in
    alike_then (ahead_alike one.entries (pass s b).entries (passes 0 n one.after b) (pass (pass s b).after (times n b)) first.entries
    (alike_then (passes_on_end n one.after b) (pass_alike one.after (pass s b).after (times n b) first.after)))
    (same_alike (sym (pass_append s b (times n b))))

-- a pattern with another loop is its passes on end
pattern_on_end : (s : State) (bodies : List Remembered) (p : Pattern) → (p.loop ≡ 15 → ⊥) → Alike (pattern_played s bodies p) (pass s (times (p.loop + 1) (body_of bodies p)))
pattern_on_end s bodies p h = alike_then (same_alike (pattern_carried s bodies p h)) (passes_on_end (p.loop + 1) s (body_of bodies p))

-- without loop 15 the list is one long pass: patterns, recalls and passes do nothing to the state but for the origin
pub one_long_pass : (s : State) (bodies : List Remembered) (n : ℕ) (ps : List Pattern) → NoneEndless ps
    → Alike (record { entries = (play s bodies n ps).entries; after = state_after s bodies ps }) (pass s (sounding bodies ps))
one_long_pass s bodies n [] h = alike (pass s [])
one_long_pass s bodies n (p ∷ ps) h =
    let d = pattern_played s bodies p in
    let next = next_header d.after in
    let k = n + length d.entries in
    let body = times (p.loop + 1) (body_of bodies p) in
    let rest = sounding (remember bodies p) ps in
    let first = pattern_on_end s bodies p h.0 in
    let more : Played = record { entries = (play next (remember bodies p) k ps).entries; after = state_after next (remember bodies p) ps } in
    alike_then (same_alike (ap (λ (g : Listing). record { entries = g.entries; after = more.after }) (patterns_carry s bodies n p ps h.0)))
    (alike_then (ahead_alike d.entries (pass s body).entries more (pass (pass s body).after rest) first.entries
    (alike_then (one_long_pass next (remember bodies p) k ps h.1) (pass_alike next (pass s body).after rest first.after)))
    (same_alike (sym (pass_append s body rest))))

-- so a tone's list without loop 15 has the tune of one long pass from the start
pub list_without_endless : (t : Tone) → NoneEndless t.patterns → tune (playing_list t).entries ≡ tune (pass at_start (sounding no_bodies t.patterns)).entries
unfolding playing_list
list_without_endless t h = (one_long_pass at_start no_bodies 0 t.patterns h).entries

-- the state ahead of the first loop 15, behind patterns
abbrev pub ahead_of_endless : List Pattern → State
ahead_of_endless ps = (pass at_start (sounding no_bodies ps)).after

-- and with one it has that of the long pass ahead of it, and then of two passes of its body, each from a restart
pub list_with_endless : (t : Tone) (ps : List Pattern) (p : Pattern) (qs : List Pattern) → t.patterns ≡ ps ++ p ∷ qs → NoneEndless ps → p.loop ≡ 15
    → let b = body_of (bodies_after no_bodies ps) p in
    let first = pass (begun 15 (ahead_of_endless ps)) b in
    tune (playing_list t).entries ≡ tune (pass at_start (sounding no_bodies ps)).entries ++ (tune first.entries ++ tune (pass (begun 15 first.after) b).entries)
unfolding playing_list
list_with_endless t ps p qs split h e =
    let b = body_of (bodies_after no_bodies ps) p in
    let lead = one_long_pass at_start no_bodies 0 ps h in
    let one = one_pass 15 (state_after at_start no_bodies ps) b in
    let two = one_pass 15 one.after b in
    let first = pass (begun 15 (ahead_of_endless ps)) b in
    let k = begins_alike (state_after at_start no_bodies ps) (ahead_of_endless ps) b lead.after in
    let l = begins_alike one.after first.after b k.after in
    ap (λ (l : List Pattern). tune (play at_start no_bodies 0 l).entries) split
    ∙ ap (λ (g : Listing). tune g.entries) (endless_list at_start no_bodies 0 ps p qs h e)
    ∙ tune_append (play at_start no_bodies 0 ps).entries (one.entries ++ two.entries)
    ∙ ap₂ (λ (x y : List Entry). x ++ y) lead.entries (tune_append one.entries two.entries ∙ ap₂ (λ (x y : List Entry). x ++ y) k.entries l.entries)
  where
    begins_alike : (s r : State) (b : List ℕ) → unplaced s ≡ unplaced r → Alike (one_pass 15 s b) (one_pass 15 r b)
    begins_alike s r b h = pass_alike (begun 15 s) (begun 15 r) b (ap (λ (z : State). unplaced (begun 15 z)) h)

-- ---- the long passes of a list, and their spans

-- a tune stands in a list, behind some entries and ahead of others
pub record StandIn (l rs : List Entry) : Type 0 where
  pub before : List Entry
  pub behind : List Entry
  pub there : tune l ≡ before ++ (tune rs ++ behind)

-- a long pass of a list: instructions from a restart, whose tune stands in it
pub record LongPass (l : List Entry) (r : State) (b : List ℕ) : Type 0 where
  pub stand : StandIn l (pass r b).entries
  pub none : r.fraction ≡ 0
  pub time : InTime r
  pub each : Instructions b

-- instructions behind which the fraction is zero: none, or the last is a tempo
abbrev pub FromRestart : List ℕ → Type 0
FromRestart a = (a ≡ []) ⊎ ((before : List ℕ) × (e : ℕ) × (kind e ≡ 4) × (a ≡ before ++ (e ∷ [])))

-- a span of a list keeps the time: its tune stands there, their boundaries are the exact sums rounded down, each duration is the difference
-- of two, and each boundary is less than one microsecond early and never late
pub record KeepsTime (l : List Entry) (s : State) (b : List ℕ) : Type 0 where
  pub stand : StandIn l (pass s b).entries
  pub exact : sums 0 (durations (pass s b).entries) ≡ map (boundary (beats_at s)) (sums 0 (units_in b))
  pub between : durations (pass s b).entries ≡ differences 0 (map (boundary (beats_at s)) (sums 0 (units_in b)))
  pub on_time : AllOnTime (beats_at s) (sums 0 (durations (pass s b).entries)) (sums 0 (units_in b))

restarts_there : (r : State) (a : List ℕ) → r.fraction ≡ 0 → FromRestart a → (pass r a).after.fraction ≡ 0
unfolding step
restarts_there r a none (inl e) = ap (λ (l : List ℕ). (pass r l).after.fraction) e ∙ none
restarts_there r a none (inr w) =
    ap (λ (l : List ℕ). (pass r l).after.fraction) w.3 ∙ ap (λ (d : Played). d.after.fraction) (pass_append r w.0 (w.1 ∷ [])) ∙ tempo_restarts (pass r w.0).after w.1 w.2

instructions_split : (a b : List ℕ) → Instructions (a ++ b) → Instructions a
instructions_split [] b h = tt
instructions_split (e ∷ a) b h = (h.0, instructions_split a b h.1)

-- what stands in the middle of the middle
inner : (x a b c y : List Entry) → x ++ ((a ++ (b ++ c)) ++ y) ≡ (x ++ a) ++ (b ++ (c ++ y))
inner x a b c y = ap (λ (l : List Entry). x ++ l) (append_assoc a (b ++ c) y ∙ ap (λ (l : List Entry). a ++ l) (append_assoc b c y)) ∙ sym (append_assoc x a (b ++ (c ++ y)))

-- in a long pass every span keeps the time: behind instructions after which the fraction is zero, and without a tempo
pub span_keeps_time : (l : List Entry) (r : State) (a b c : List ℕ) → LongPass l r (a ++ (b ++ c)) → FromRestart a → Steady b → KeepsTime l (pass r a).after b
span_keeps_time l r a b c g begins steady =
    let s = (pass r a).after in
    let rest = (pass (pass s b).after c).entries in
    let apart : tune (pass r (a ++ (b ++ c))).entries ≡ tune (pass r a).entries ++ (tune (pass s b).entries ++ tune rest) =
    ap (λ (d : Played). tune d.entries) (pass_append r a (b ++ c) ∙ ap (ahead (pass r a).entries) (pass_append s b c))
    ∙ tune_append (pass r a).entries ((pass s b).entries ++ rest) ∙ ap (λ (l : List Entry). tune (pass r a).entries ++ l) (tune_append (pass s b).entries rest) in
    let time = pass_time r a g.time (instructions_split a (b ++ c) g.each) in
    let none = restarts_there r a g.none begins in
    let some = beats_some s.settings time.range in
    let x = g.stand.before in
    let y = g.stand.behind in
    record {
      stand = record {
        before = x ++ tune (pass r a).entries;
        behind = tune rest ++ y;
        there = g.stand.there ∙ ap (λ (m : List Entry). x ++ (m ++ y)) apart ∙ inner x (tune (pass r a).entries) (tune (pass s b).entries) (tune rest) y;
      };
      exact = boundaries_exact s b none some steady;
      between = durations_between s b none some steady;
      on_time = no_drift s b none some steady;
    }

-- ---- of a tone that document 01 allows

instructions_append : (a b : List ℕ) → Instructions a → Instructions b → Instructions (a ++ b)
instructions_append [] b h k = k
instructions_append (e ∷ a) b h k = (h.0, instructions_append a b h.1 k)

instructions_times : (n : ℕ) (b : List ℕ) → Instructions b → Instructions (times n b)
instructions_times zero b h = tt
instructions_times (suc n) b h = instructions_append b (times n b) h (instructions_times n b h)

-- patterns sound instructions, and the bodies that they leave are instructions
instructions_from : (bodies : List Remembered) → Each Body bodies → (seen : List Bool) (ps qs : List Pattern) → Sequence seen (ps ++ qs)
    → Instructions (sounding bodies ps) × Each Body (bodies_after bodies ps) × ((later : List Bool) × Sequence later qs)
instructions_from bodies h seen [] qs k = (tt, h, (seen, k))
instructions_from bodies h seen (p ∷ ps) qs k =
    let own = sound_body p k.0 in
    let more = instructions_from (remember bodies p) (each_kept Body bodies h p own) (learn seen (header p)) ps qs k.2 in
    let body = times (p.loop + 1) (body_of bodies p) in
    (instructions_append body (sounding (remember bodies p) ps) (instructions_times (p.loop + 1) (body_of bodies p) (each_sounds Body none_body bodies h p own).0) more.0, more.1, more.2)

-- without loop 15 its list is one long pass
pub all_in_one_pass : (t : Tone) → Formed t → NoneEndless t.patterns → LongPass (playing_list t).entries at_start (sounding no_bodies t.patterns)
all_in_one_pass t f h = record {
  stand = record { before = []; behind = []; there = list_without_endless t h ∙ sym (append-nil (tune (pass at_start (sounding no_bodies t.patterns)).entries)) };
  none = refl;
  time = time_start;
  each = (instructions_from no_bodies (each_start Body none_body) none_known t.patterns [] (rw (append-nil t.patterns) f.sequence)).0;
}

-- and with one it is three: what is ahead of it, and each of its passes
module _ (t : Tone) (f : Formed t) (ps : List Pattern) (p : Pattern) (qs : List Pattern) (split : t.patterns ≡ ps ++ p ∷ qs) (h : NoneEndless ps) (e : p.loop ≡ 15) where
  -- the body that sounds for ever
  abbrev pub endless_body : List ℕ
  endless_body = body_of (bodies_after no_bodies ps) p

  -- the states that its passes begin with
  abbrev pub first_state : State
  first_state = begun 15 (ahead_of_endless ps)

  abbrev pub second_state : State
  second_state = begun 15 (pass first_state endless_body).after

  sounded_ones : Instructions (sounding no_bodies ps) × Instructions endless_body
  sounded_ones =
      let i = instructions_from no_bodies (each_start Body none_body) none_known ps (p ∷ qs) (rw split at f.sequence) in
      (i.0, (each_sounds Body none_body (bodies_after no_bodies ps) i.1 p (sound_body p i.2.1.0)).0)

  time_first : InTime first_state
  time_first = time_begun 15 (ahead_of_endless ps) (pass_time at_start (sounding no_bodies ps) time_start sounded_ones.0)

  -- the tunes of the three
  abbrev lead : List Entry
  lead = tune (pass at_start (sounding no_bodies ps)).entries

  abbrev first : List Entry
  first = tune (pass first_state endless_body).entries

  abbrev second : List Entry
  second = tune (pass second_state endless_body).entries

  three_in_turn : tune (playing_list t).entries ≡ lead ++ (first ++ second)
  three_in_turn = list_with_endless t ps p qs split h e

  pub pass_ahead : LongPass (playing_list t).entries at_start (sounding no_bodies ps)
  pass_ahead = record { stand = record { before = []; behind = first ++ second; there = three_in_turn }; none = refl; time = time_start; each = sounded_ones.0 }

  pub first_endless_pass : LongPass (playing_list t).entries first_state endless_body
  first_endless_pass = record { stand = record { before = lead; behind = second; there = three_in_turn }; none = refl; time = time_first; each = sounded_ones.1 }

  pub second_endless_pass : LongPass (playing_list t).entries second_state endless_body
  second_endless_pass = record {
    stand = record { before = lead ++ first; behind = []; there = three_in_turn ∙ sym (append_assoc lead first second) ∙ ap (λ (rs : List Entry). (lead ++ first) ++ rs) (sym (append-nil second)) };
    none = refl;
    time = time_begun 15 (pass first_state endless_body).after (pass_time first_state endless_body time_first sounded_ones.1);
    each = sounded_ones.1;
  }

-- ---- what does not hold

-- at 900 beats, 1/32 notes of two thirds: passes that begin with the same settings are not alike, for the fraction is carried on
pub passes_differ : durations (passes 0 3 (pass at_start (262175 ∷ [])).after (65591 ∷ [])).entries ≡ 5555 ∷ 5556 ∷ 5555 ∷ []
unfolding step applied fraction_after sounded beats units microseconds left_over
passes_differ = refl

-- restarts add up: with the tempo set again between two of them, they last 11,110 microseconds
pub restarts_add_up : sums 0 (durations (pass at_start (262175 ∷ 65591 ∷ 262175 ∷ 65591 ∷ [])).entries) ≡ 5555 ∷ 11110 ∷ []
unfolding step applied fraction_after sounded beats units microseconds left_over
restarts_add_up = refl

-- so over more than one span a boundary can be a microsecond early: 16 units last 11,111 microseconds and a ninth
pub not_over_restarts : OnTime 900 11110 16 → ⊥
not_over_restarts o = omega (arith, o.less_than_one_early)

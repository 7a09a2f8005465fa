-- The bounds of a tone's list: its settings, its entries and their number.
use Prim.Native.Nat.{ℕ, zero, suc, ◌+◌, ◌*◌, ◌^◌, ◌≤◌, ◌<◌}
use native.Mathlib.Omega.{arith}
use native.Mathlib.Nat.{mul-le-mul, le_trans}
use mathlib.Core.Path.{◌≡◌, refl}
use mathlib.Core.Bool.{Bool, true}
use mathlib.Core.List.{List, [], ◌∷◌, ◌++◌}
use lib.ListN.{length}
use lib.Dec.{eqb, leb}
use borrow.Author.Tests.{eqb-true, eqb-false, leb-true}
use Rattle.bits.proofs.Choice.{pick_elim, both}
use Rattle.tone.specs.Table.{kind, payload, width, allowed, note_of, duration_of, specifier_of, Instruction}
use Rattle.tone.specs.Tone.{Pattern, Tone, Formed, header, learn, Instructions, Sequence, none_known}
use Rattle.list_rules.specs.declared.Settings.{Settings}
use Rattle.list_rules.specs.declared.Entry.{Entry}
use Rattle.list_rules.specs.Duration.{beats}
use Rattle.list_rules.specs.Sounding.{defaults, applied, State, at_start, units_of, beats_at, fraction_after, following, sounded}
use Rattle.list_rules.specs.Ranges.{InRange, InTime, Bounded, AllBounded}
use Rattle.list_rules.specs.Playing.{step, pass, begun, one_pass, passes, Listing, pattern_played, next_header, play, playing_list}
use Rattle.list_count.specs.Bodies.{passes_of, Remembered, no_bodies, body_of, remember}
use Rattle.tone_elements.specs.Answers.{notes}
use Rattle.tone_elements.proofs.Walks.{notes_most}
use Rattle.list_count.specs.Counting.{entry_count}
use Rattle.list_count.proofs.Bodies.{Each, each_start, each_sounds, each_kept, Body, none_body, sound_body, passes_most}
use Rattle.list_rules.proofs.Restarts.{applied_tempo}
use Rattle.list_rules.proofs.Durations.{slowest, longest_duration, left_below}
use Rattle.list_rules.proofs.Headers.{pass_header, pattern_header}
use Rattle.list_rules.proofs.Counts.{list_count}

-- ---- the number of entries

count_most : (bodies : List Remembered) → Each Body bodies → (seen : List Bool) (ps : List Pattern) → Sequence seen ps → entry_count bodies ps ≤ 3825 * length ps
count_most bodies h seen [] k = omega arith
count_most bodies h seen (p ∷ ps) k =
    let n = notes (body_of bodies p) in
    let one : n * passes_of p.loop ≤ 255 * 15 =
    mul-le-mul (le_trans (notes_most (body_of bodies p)) (each_sounds Body none_body bodies h p (sound_body p k.0)).1) (passes_most p.loop k.0.loop) in
    let more = count_most (remember bodies p) (each_kept Body bodies h p (sound_body p k.0)) (learn seen (header p)) ps k.2 in
    pick_elim (λ (m : ℕ). n * passes_of p.loop + m ≤ 3825 * suc (length ps)) (eqb p.loop 15) (λ _. omega arith) (λ _. omega arith)

-- a tone's list has at most 975,375 entries
pub list_most : (t : Tone) → Formed t → length (playing_list t).entries ≤ 975375
unfolding playing_list
list_most t f = let c = count_most no_bodies (each_start Body none_body) none_known t.patterns f.sequence in let m = f.front.most in rw (list_count at_start no_bodies 0 t.patterns) (omega arith)

-- ---- the settings

pub range_start : InRange defaults
range_start = record { scale = omega arith; style = omega arith; tempo = omega arith; volume = omega arith }

-- an instruction leaves the settings in range
pub range_applied : (s : Settings) (e : ℕ) → InRange s → Instruction e → InRange (applied s e)
unfolding applied width allowed
range_applied s e r i =
    pick_elim InRange (eqb (kind e) 2) (λ h. record { scale = below 2 3 h (omega arith); style = r.style; tempo = r.tempo; volume = r.volume }) (λ _.
    pick_elim InRange (eqb (kind e) 3) (λ h. record { scale = r.scale; style = leb-true (payload e) 2 (rw (eqb-true (kind e) 3 h) at i.in_table.code); tempo = r.tempo; volume = r.volume }) (λ _.
    pick_elim InRange (eqb (kind e) 4) (λ h. record { scale = r.scale; style = r.style; tempo = below 4 31 h (omega arith); volume = r.volume }) (λ _.
    pick_elim InRange (eqb (kind e) 5) (λ h. record { scale = r.scale; style = r.style; tempo = r.tempo; volume = below 5 15 h (omega arith) }) (λ _. r))))
  where
    -- a payload of its kind's width
    below : (k m : ℕ) → eqb (kind e) k ≡ true → 2 ^ width k ≤ suc m → payload e ≤ m
    below k m h l = let f = rw (eqb-true (kind e) k h) at i.in_table.fits in omega arith

-- ---- the fraction

-- some beats in range
pub beats_some : (s : Settings) → InRange s → 0 < beats s.tempo
beats_some s r = let b = slowest s.tempo (omega (arith, r.tempo)) in omega arith

-- a restart leaves it below the beats
pub time_restarted : (s : State) → InRange s.settings → s.fraction ≡ 0 → InTime s
time_restarted s r none = record { range = r; below = rw none (beats_some s.settings r) }

pub time_start : InTime at_start
time_start = time_restarted at_start range_start refl

-- an instruction leaves the fraction below the beats
pub time_following : (s : State) (e : ℕ) → InTime s → Instruction e → InTime (following s e)
unfolding fraction_after
time_following s e t i =
    let r = range_applied s.settings e t.range i in
    let b = beats (applied s.settings e).tempo in
    let note : kind e ≡ 1 → kind e ≡ 4 → ⊥ = λ h g. omega arith in
    record {
      range = r;
      below =
          pick_elim (λ (n : ℕ). n < b) (eqb (kind e) 1)
          (λ h. rw (applied_tempo s.settings e (note (eqb-true (kind e) 1 h))) (left_below s.fraction (units_of (payload e)) (beats_at s) (beats_some s.settings t.range)))
          (λ _. pick_elim (λ (n : ℕ). n < b) (eqb (kind e) 4) (λ _. beats_some (applied s.settings e) r) (λ h. rw (applied_tempo s.settings e (eqb-false (kind e) 4 h)) t.below));
    }

-- ---- the entries

-- a note of the table makes an entry within bounds, where its header and its position are
pub sounded_bounded : (s : State) (e : ℕ) → InTime s → s.header ≤ 254 → s.position ≤ 254 → Instruction e → kind e ≡ 1 → Bounded (sounded s (payload e))
unfolding sounded allowed
sounded_bounded s e t h p i k = record {
  note = leb-true (note_of (payload e)) 12 (both (leb (note_of (payload e)) 12) (leb (duration_of (payload e)) 5) (rw k at i.in_table.code)).0;
  scale = t.range.scale;
  style = t.range.style;
  volume = t.range.volume;
  microseconds = longest_duration (duration_of (payload e)) (specifier_of (payload e)) s.settings.tempo s.fraction t.below;
  header = h;
  position = p;
}

bounded_append : (a b : List Entry) → AllBounded a → AllBounded b → AllBounded (a ++ b)
bounded_append [] b h k = k
bounded_append (r ∷ a) b h k = (h.0, bounded_append a b h.1 k)

step_bounded : (s : State) (e : ℕ) → InTime s → s.header ≤ 254 → s.position ≤ 254 → Instruction e → AllBounded (step s e).entries
unfolding step
step_bounded s e t h p i = pick_elim AllBounded (eqb (kind e) 1) (λ k. (sounded_bounded s e t h p i (eqb-true (kind e) 1 k), tt)) (λ _. tt)

-- instructions leave the state in time
pub pass_time : (s : State) (b : List ℕ) → InTime s → Instructions b → InTime (pass s b).after
unfolding step
pass_time s [] t i = t
pass_time s (e ∷ b) t i = pass_time (following s e) b (time_following s e t i.0) i.1

-- a body of up to 255 instructions, the last at position 254
pub pass_bounded : (s : State) (b : List ℕ) → InTime s → s.header ≤ 254 → s.position + length b ≤ 255 → Instructions b → AllBounded (pass s b).entries
unfolding step
pass_bounded s [] t h p i = tt
pass_bounded s (e ∷ b) t h p i =
    bounded_append (step s e).entries (pass (following s e) b).entries (step_bounded s e t h (omega arith) i.0)
    (pass_bounded (following s e) b (time_following s e t i.0) h (omega arith) i.1)

pub time_begun : (loop : ℕ) (s : State) → InTime s → InTime (begun loop s)
time_begun loop s t = record { range = t.range; below = pick_elim (λ (n : ℕ). n < beats_at s) (eqb loop 15) (λ _. beats_some s.settings t.range) (λ _. t.below) }

passes_time : (loop n : ℕ) (s : State) (b : List ℕ) → InTime s → Instructions b → InTime (passes loop n s b).after
passes_time loop zero s b t i = t
passes_time loop (suc n) s b t i = passes_time loop n (one_pass loop s b).after b (pass_time (begun loop s) b (time_begun loop s t) i) i

passes_bounded : (loop n : ℕ) (s : State) (b : List ℕ) → InTime s → s.header ≤ 254 → Body b → AllBounded (passes loop n s b).entries
passes_bounded loop zero s b t h k = tt
passes_bounded loop (suc n) s b t h k =
    let d = one_pass loop s b in
    let begins = time_begun loop s t in
    let same = pass_header (begun loop s) b in
    bounded_append d.entries (passes loop n d.after b).entries (pass_bounded (begun loop s) b begins h (omega (arith, k.1)) k.0)
    (passes_bounded loop n d.after b (pass_time (begun loop s) b begins k.0) (rw same h) k)

-- up to 255 patterns, the last at position 254
pub play_bounded : (s : State) (bodies : List Remembered) (n : ℕ) (seen : List Bool) (ps : List Pattern) → InTime s → s.header + length ps ≤ 255 → Each Body bodies → Sequence seen ps
    → AllBounded (play s bodies n ps).entries
unfolding pattern_played
play_bounded s bodies n seen [] t few h k = tt
play_bounded s bodies n seen (p ∷ ps) t few h k =
    let d = pattern_played s bodies p in
    let own = sound_body p k.0 in
    let b = each_sounds Body none_body bodies h p own in
    let f = passes_bounded p.loop (passes_of p.loop) s (body_of bodies p) t (omega arith) b in
    let after = passes_time p.loop (passes_of p.loop) s (body_of bodies p) t b.0 in
    let same = pattern_header s bodies p in
    let more = play_bounded (next_header d.after) (remember bodies p) (n + length d.entries) (learn seen (header p)) ps (record { range = after.range; below = after.below }) (omega arith) (each_kept Body bodies h p own) k.2 in
    pick_elim (λ (g : Listing). AllBounded g.entries) (eqb p.loop 15) (λ _. f)
    (λ _. bounded_append d.entries (play (next_header d.after) (remember bodies p) (n + length d.entries) ps).entries f more)

-- each entry of a tone's list is within bounds
pub list_bounded : (t : Tone) → Formed t → AllBounded (playing_list t).entries
unfolding playing_list
list_bounded t f = play_bounded at_start no_bodies 0 none_known t.patterns time_start (omega (arith, f.front.most)) (each_start Body none_body) f.sequence

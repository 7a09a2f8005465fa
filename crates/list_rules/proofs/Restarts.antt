-- Where the fraction restarts at zero, and where it is carried on.
use Prim.Native.Nat.{ℕ, zero, suc, ◌+◌}
use mathlib.Core.Path.{◌≡◌, refl, ap, ◌∙◌}
use mathlib.Core.List.{List, [], ◌∷◌, ◌++◌}
use lib.ListN.{length}
use lib.Dec.{eqb}
use borrow.Author.Tests.{eq-eqb, ne_eqb}
use Rattle.bits.proofs.Choice.{pick_elim}
use Rattle.tone.specs.Table.{kind, payload}
use Rattle.tone.specs.Tone.{Pattern}
use Rattle.list_count.specs.Bodies.{Remembered, passes_of, body_of, remember}
use Rattle.list_rules.specs.declared.Settings.{Settings}
use Rattle.list_rules.specs.Duration.{left_over}
use Rattle.list_rules.specs.Sounding.{applied, State, at_start, units_of, beats_at, fraction_after}
use Rattle.list_rules.specs.Playing.{ahead, pass, begun, one_pass, passes, pattern_played, next_header, play}

-- at the start of the tone
pub start_restarts : at_start.fraction ≡ 0
start_restarts = refl

-- at every tempo instruction, also one that sets the tempo in force
pub tempo_restarts : (s : State) (e : ℕ) → kind e ≡ 4 → fraction_after s e ≡ 0
unfolding fraction_after
tempo_restarts s e h = rw h refl

-- at the start of each pass of a loop 15, whatever pass it is
pub endless_restarts : (loop : ℕ) (s : State) → loop ≡ 15 → (begun loop s).fraction ≡ 0
endless_restarts loop s h = rw (eq-eqb loop 15 h) refl

-- so both passes that are listed of it restart, the second from the settings that the first leaves
pub both_passes_restart : (s : State) (b : List ℕ)
    → let second = begun 15 (pass (begun 15 s) b).after in
    ((passes 15 2 s b).entries ≡ (pass (begun 15 s) b).entries ++ ((pass second b).entries ++ [])) × ((begun 15 s).fraction ≡ 0) × (second.fraction ≡ 0)
both_passes_restart s b = (refl, refl, refl)

-- a note or pause leaves what is left over behind it
pub note_leaves : (s : State) (e : ℕ) → kind e ≡ 1 → fraction_after s e ≡ left_over s.fraction (units_of (payload e)) (beats_at s)
unfolding fraction_after
note_leaves s e h = rw h refl

-- any other instruction carries it on
pub others_carry : (s : State) (e : ℕ) → (kind e ≡ 1 → ⊥) → (kind e ≡ 4 → ⊥) → fraction_after s e ≡ s.fraction
unfolding fraction_after
others_carry s e h g = rw (ne_eqb (kind e) 1 h, ne_eqb (kind e) 4 g) refl

-- and so does a pass with any other loop
pub passes_carry : (loop : ℕ) (s : State) → (loop ≡ 15 → ⊥) → (begun loop s).fraction ≡ s.fraction
passes_carry loop s h = rw (ne_eqb loop 15 h) refl

-- and so do all its passes
pub carried_on : (loop n : ℕ) (s : State) (b : List ℕ) → (loop ≡ 15 → ⊥) → passes loop n s b ≡ passes 0 n s b
carried_on loop zero s b h = refl
carried_on loop (suc n) s b h = rw (ne_eqb loop 15 h) (ap (ahead (one_pass 0 s b).entries) (carried_on loop n (one_pass 0 s b).after b h))

-- so a pattern with loop n below 15, a recall too, is n + 1 passes from the state that there is
pub pattern_carried : (s : State) (bodies : List Remembered) (p : Pattern) → (p.loop ≡ 15 → ⊥) → pattern_played s bodies p ≡ passes 0 (p.loop + 1) s (body_of bodies p)
unfolding pattern_played passes_of
pattern_carried s bodies p h =
    let times : passes_of p.loop ≡ p.loop + 1 = rw (ne_eqb p.loop 15 h) refl in
    carried_on p.loop (passes_of p.loop) s (body_of bodies p) h ∙ ap (λ (n : ℕ). passes 0 n s (body_of bodies p)) times

-- the next header takes settings and fraction as they are
pub headers_carry : (s : State) → ((next_header s).settings ≡ s.settings) × ((next_header s).fraction ≡ s.fraction)
headers_carry s = (refl, refl)

-- and the next pattern goes on from the state that it leaves, at its own header
pub patterns_carry : (s : State) (bodies : List Remembered) (n : ℕ) (p : Pattern) (ps : List Pattern) → (p.loop ≡ 15 → ⊥)
    → let d = pattern_played s bodies p in
    let more = play (next_header d.after) (remember bodies p) (n + length d.entries) ps in
    play s bodies n (p ∷ ps) ≡ record { entries = d.entries ++ more.entries; mark = more.mark }
patterns_carry s bodies n p ps h = rw (ne_eqb p.loop 15 h)

-- only a tempo instruction changes the tempo
pub applied_tempo : (s : Settings) (e : ℕ) → (kind e ≡ 4 → ⊥) → (applied s e).tempo ≡ s.tempo
unfolding applied
applied_tempo s e h =
    pick_elim (λ (r : Settings). r.tempo ≡ s.tempo) (eqb (kind e) 2) (λ _. refl) (λ _.
    pick_elim (λ (r : Settings). r.tempo ≡ s.tempo) (eqb (kind e) 3) (λ _. refl) (λ _. rw (ne_eqb (kind e) 4 h) (
    pick_elim (λ (r : Settings). r.tempo ≡ s.tempo) (eqb (kind e) 5) (λ _. refl) (λ _. refl))))

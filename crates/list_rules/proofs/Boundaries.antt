-- No drift: counted from the last restart, the boundaries of entries are the exact sums rounded down, and each duration is the difference of
-- two boundaries.
use Prim.Native.Nat.{ℕ, ◌+◌, ◌-◌, ◌*◌, ◌/◌, ◌%◌, ◌<◌}
use native.Mathlib.Omega.{arith}
use native.Mathlib.Nat.{add-mul, add-mul-div_right, div-mul-le_self, div-lt_iff_lt-mul, div-add-mod'}
use mathlib.Core.Path.{◌≡◌, refl, sym, ap, ap₂, ◌∙◌}
use mathlib.Core.List.{List, [], ◌∷◌, map}
use lib.Dec.{eqb}
use borrow.Author.Tests.{eqb-true, eqb-false}
use Rattle.bits.specs.Choice.{pick}
use Rattle.tone.specs.Table.{kind, payload}
use Rattle.list_rules.specs.declared.Entry.{Entry}
use Rattle.list_rules.specs.Duration.{beats, microseconds, left_over}
use Rattle.list_rules.specs.Sounding.{State, units_of, beats_at, following, sounded}
use Rattle.list_rules.specs.Playing.{step, pass}
use Rattle.list_rules.proofs.Restarts.{note_leaves, others_carry, applied_tempo}
use Rattle.list_rules.proofs.Settling.{either}
pub use Rattle.list_rules.proofs.OnTime.{OnTime}
pub use Rattle.list_rules.proofs.Steady.{Steady}

-- ---- a boundary

-- where a boundary lies, behind so many units at so many beats: the exact sum rounded down
abbrev pub boundary : ℕ → ℕ → ℕ
boundary b u = u * 625000 / b

pub boundary_on_time : (b u : ℕ) → 0 < b → OnTime b (boundary b u) u
boundary_on_time b u h = record { never_late = div-mul-le_self (u * 625000) b; less_than_one_early = (div-lt_iff_lt-mul h).0 (omega arith) }

-- ---- a span

-- the units of each note and pause in turn
abbrev pub units_in : List ℕ → List ℕ
units_in [] = []
units_in (e ∷ b) = pick (eqb (kind e) 1) (units_of (payload e) ∷ units_in b) (units_in b)

-- how long each entry lasts
abbrev pub durations : List Entry → List ℕ
durations = map (λ r. r.microseconds)

-- what they come to behind each, with n ahead
abbrev pub sums : ℕ → List ℕ → List ℕ
sums n [] = []
sums n (x ∷ xs) = (n + x) ∷ sums (n + x) xs

-- what each is more than the one before it, with n ahead
abbrev pub differences : ℕ → List ℕ → List ℕ
differences n [] = []
differences n (x ∷ xs) = (x - n) ∷ differences x xs

-- with u units and `at` microseconds behind it since the restart, a state has left over what the units are more
abbrev Since : State → ℕ → ℕ → Type 0
Since s at u = at * beats_at s + s.fraction ≡ u * 625000

-- the boundary behind x units more
next_boundary : (f b at u x : ℕ) → 0 < b → at * b + f ≡ u * 625000 → at + (f + x * 625000) / b ≡ boundary b (u + x)
next_boundary f b at u x h e =
    let q = add-mul-div_right (f + x * 625000) at h in
    let z : f + x * 625000 + at * b ≡ (u + x) * 625000 = omega arith in
    sym (ap (λ (n : ℕ). n / b) (sym z) ∙ q ∙ omega arith)

next_left : (f b at u x : ℕ) → at * b + f ≡ u * 625000 → (at + (f + x * 625000) / b) * b + (f + x * 625000) % b ≡ (u + x) * 625000
next_left f b at u x e =
    let q = add-mul at ((f + x * 625000) / b) b in
    let z = div-add-mod' (f + x * 625000) b in
    omega arith

-- an instruction that is no tempo leaves the beats
same_beats : (s : State) (e : ℕ) → (kind e ≡ 4 → ⊥) → beats_at (following s e) ≡ beats_at s
same_beats s e h = ap beats (applied_tempo s.settings e h)

since_note : (s : State) (e at u : ℕ) → kind e ≡ 1 → (kind e ≡ 4 → ⊥) → Since s at u → Since (following s e) (at + microseconds s.fraction (units_of (payload e)) (beats_at s)) (u + units_of (payload e))
unfolding microseconds left_over
since_note s e at u h g z = rw (same_beats s e g, note_leaves s e h) (next_left s.fraction (beats_at s) at u (units_of (payload e)) z)

since_other : (s : State) (e at u : ℕ) → (kind e ≡ 1 → ⊥) → (kind e ≡ 4 → ⊥) → Since s at u → Since (following s e) at u
since_other s e at u h g z = rw (same_beats s e g, others_carry s e h g) z

-- from any state, the boundaries of a span are the exact sums rounded down
boundaries_from : (s : State) (b : List ℕ) (at u : ℕ) → 0 < beats_at s → Steady b → Since s at u → sums at (durations (pass s b).entries) ≡ map (boundary (beats_at s)) (sums u (units_in b))
unfolding step sounded microseconds
boundaries_from s [] at u some h e = refl
boundaries_from s (i ∷ b) at u some h e =
    let t = following s i in
    let same = same_beats s i h.0 in
    let onward : (at u : ℕ) → Since t at u → sums at (durations (pass t b).entries) ≡ map (boundary (beats_at s)) (sums u (units_in b)) =
    λ at u g. boundaries_from t b at u (rw same some) h.1 g ∙ ap (λ (n : ℕ). map (boundary n) (sums u (units_in b))) same in
    either (eqb (kind i) 1)
    (λ z. rw z (ap₂ (λ (x : ℕ) (l : List ℕ). x ∷ l) (next_boundary s.fraction (beats_at s) at u (units_of (payload i)) some e)
    (onward (at + microseconds s.fraction (units_of (payload i)) (beats_at s)) (u + units_of (payload i)) (since_note s i at u (eqb-true (kind i) 1 z) h.0 e))))
    (λ z. rw z (onward at u (since_other s i at u (eqb-false (kind i) 1 z) h.0 e)))

-- from a restart, the boundaries of a span are the exact sums rounded down
pub boundaries_exact : (s : State) (b : List ℕ) → s.fraction ≡ 0 → 0 < beats_at s → Steady b → sums 0 (durations (pass s b).entries) ≡ map (boundary (beats_at s)) (sums 0 (units_in b))
boundaries_exact s b none some h = boundaries_from s b 0 0 some h (omega arith)

differences_sums : (n : ℕ) (l : List ℕ) → differences n (sums n l) ≡ l
differences_sums n [] = refl
differences_sums n (x ∷ l) = let e : n + x - n ≡ x = omega arith in ap₂ (λ (y : ℕ) (k : List ℕ). y ∷ k) e (differences_sums (n + x) l)

-- and each duration is the difference of two boundaries
pub durations_between : (s : State) (b : List ℕ) → s.fraction ≡ 0 → 0 < beats_at s → Steady b → durations (pass s b).entries ≡ differences 0 (map (boundary (beats_at s)) (sums 0 (units_in b)))
durations_between s b none some h = sym (differences_sums 0 (durations (pass s b).entries)) ∙ ap (differences 0) (boundaries_exact s b none some h)

-- boundaries with their units, each on time
abbrev pub AllOnTime : ℕ → List ℕ → List ℕ → Type 0
AllOnTime b [] [] = Unit {0}
AllOnTime b [] (u ∷ us) = ⊥
AllOnTime b (at ∷ ats) [] = ⊥
AllOnTime b (at ∷ ats) (u ∷ us) = OnTime b at u × AllOnTime b ats us

all_on_time : (b : ℕ) (us : List ℕ) → 0 < b → AllOnTime b (map (boundary b) us) us
all_on_time b [] h = tt
all_on_time b (u ∷ us) h = (boundary_on_time b u h, all_on_time b us h)

-- no drift: from a restart, each boundary of a span is less than one microsecond early and never late
pub no_drift : (s : State) (b : List ℕ) → s.fraction ≡ 0 → 0 < beats_at s → Steady b → AllOnTime (beats_at s) (sums 0 (durations (pass s b).entries)) (sums 0 (units_in b))
no_drift s b none some h = rw (boundaries_exact s b none some h) (all_on_time (beats_at s) (sums 0 (units_in b)) some)

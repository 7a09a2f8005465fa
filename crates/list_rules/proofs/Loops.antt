-- A pattern with loop n is listed as n + 1 patterns with loop 0, but for the origins: the copies have headers of their own.
use Prim.Native.Nat.{ℕ, zero, suc, ◌+◌, ◌<◌}
use native.Mathlib.Omega.{arith}
use native.Mathlib.Numerals.{add-one}
use mathlib.Core.Path.{◌≡◌, refl, sym, ap, ◌∙◌}
use mathlib.Core.Bool.{Bool, true, false}
use mathlib.Core.List.{List, [], ◌∷◌, ◌++◌, map}
use lib.ListN.{length, replicate, set, get_or}
use lib.Seq.{set-set}
use Rattle.bits.specs.Choice.{pick}
use Rattle.tone.specs.Tone.{Pattern}
use Rattle.list_rules.specs.Sounding.{State, applied, at_start, fraction_after, sounded, origin}
use Rattle.list_rules.specs.Playing.{Played, Listing, step, one_pass, passes, pattern_played, next_header, play}
use Rattle.list_count.specs.Bodies.{Remembered, no_bodies, unknown, known, recalled, is_recall, passes_of, body_of, remember}
use Rattle.list_rules.proofs.Restarts.{pattern_carried, patterns_carry}
use Rattle.list_rules.proofs.Joining.{listed_ahead_lem, two_ahead, bodies_after, alike_behind, one_pass_lem}
use Rattle.list_rules.proofs.Tunes.{tune_of, Alike, tune_long, passes_alike, play_alike, listed_alike}

-- the pattern at loop 0
abbrev pub once : Pattern → Pattern
once p = record { id = p.id; loop = 0; body = p.body }

-- what is remembered of a pattern is remembered once
pub remember_twice : (bodies : List Remembered) (p : Pattern) → remember (remember bodies p) p ≡ remember bodies p
unfolding remember
remember_twice bodies p = go (is_recall p)
  where
    go : (t : Bool) → let r = pick t bodies (set bodies p.id (known p.body)) in pick t r (set r p.id (known p.body)) ≡ r
    go true = refl
    go false = set-set bodies p.id (known p.body) (known p.body)

-- the same body sounds when the pattern comes again
pub body_again : (bodies : List Remembered) (p : Pattern) → body_of (remember bodies p) p ≡ body_of bodies p
unfolding remember body_of
body_again bodies p = go (is_recall p)
  where
    go : (t : Bool) → pick t (recalled (get_or (pick t bodies (set bodies p.id (known p.body))) p.id unknown)) p.body ≡ pick t (recalled (get_or bodies p.id unknown)) p.body
    go true = refl
    go false = refl

-- a list from what was played on, at the next header
abbrev onward : List Remembered → ℕ → List Pattern → Played → Listing
onward bodies n qs d = listed_ahead_lem d.entries (play (next_header d.after) bodies (n + length d.entries) qs)

-- a pattern at loop 0 is one pass
play_once : (s : State) (bodies : List Remembered) (n : ℕ) (p : Pattern) (qs : List Pattern)
    → play s bodies n (once p ∷ qs) ≡ onward (remember bodies p) n qs (one_pass 0 s (body_of bodies p))
unfolding pattern_played passes_of body_of remember
play_once s bodies n p qs = ap (onward (remember bodies p) n qs) (one_pass_lem 0 s (body_of bodies p))

-- what was played alike goes on alike
onward_alike : (bodies : List Remembered) (n : ℕ) (qs : List Pattern) (d e : Played) → Alike d e → tune_of (onward bodies n qs d) ≡ tune_of (onward bodies n qs e)
onward_alike bodies n qs d e k =
    let m = tune_long d.entries e.entries k.entries in
    listed_alike d.entries e.entries (play (next_header d.after) bodies (n + length d.entries) qs) (play (next_header e.after) bodies (n + length e.entries) qs) k.entries
    (play_alike (next_header d.after) (next_header e.after) bodies (n + length d.entries) qs k.after ∙ ap (λ (x : ℕ). tune_of (play (next_header e.after) bodies (n + x) qs)) m)

-- k + 1 patterns at loop 0 list what k + 1 passes do
copies : (k : ℕ) (s : State) (bodies : List Remembered) (n : ℕ) (p : Pattern) (qs : List Pattern)
    → tune_of (play s bodies n (replicate (suc k) (once p) ++ qs)) ≡ tune_of (onward (remember bodies p) n qs (passes 0 (suc k) s (body_of bodies p)))
copies zero s bodies n p qs = ap tune_of (play_once s bodies n p qs ∙ ap (onward (remember bodies p) n qs) (sym (one_pass_lem 0 s (body_of bodies p))))
copies (suc k) s bodies n p qs =
    let b = body_of bodies p in
    let places = remember bodies p in
    let d = one_pass 0 s b in
    let m = n + length d.entries in
    let more = passes 0 (suc k) d.after b in
    let next = copies k (next_header d.after) places m p qs in
    ap tune_of (play_once s bodies n p (replicate (suc k) (once p) ++ qs))
    ∙ listed_alike d.entries d.entries (play (next_header d.after) places m (replicate (suc k) (once p) ++ qs)) (onward places m qs more) refl
    ((rw (remember_twice bodies p, body_again bodies p) at next) ∙ onward_alike places m qs (passes 0 (suc k) (next_header d.after) b) more (passes_alike 0 (suc k) (next_header d.after) d.after b refl))
    ∙ ap tune_of (two_ahead d.entries more.entries n (λ x. play (next_header more.after) places x qs))

-- a pattern with loop n below 15, wherever it stands, is listed as n + 1 copies of it at loop 0, but for the origins
pub loop_copies : (s : State) (bodies : List Remembered) (n : ℕ) (ps : List Pattern) (p : Pattern) (qs : List Pattern) → p.loop < 15
    → tune_of (play s bodies n (ps ++ p ∷ qs)) ≡ tune_of (play s bodies n (ps ++ (replicate (p.loop + 1) (once p) ++ qs)))
loop_copies s bodies n ps p qs h =
    let other : p.loop ≡ 15 → ⊥ = λ e. omega arith in
    let places = bodies_after bodies ps in
    alike_behind (λ (g h : Listing). tune_of g ≡ tune_of h) (λ g. refl) (λ rs g h e. listed_alike rs rs g h refl e) s bodies n ps (p ∷ qs) (replicate (p.loop + 1) (once p) ++ qs)
    (λ s n. ap tune_of (patterns_carry s places n p qs other ∙ ap (onward (remember places p) n qs) (pattern_carried s places p other)) ∙ (rw (add-one p.loop) (sym (copies p.loop s places n p qs))))

-- and not with them: twice A at loop 0 has the origins 0 and 256, and at loop 1 has 0 twice
pub copies_have_headers : let p : Pattern = record { id = 0; loop = 1; body = 65576 ∷ [] } in
    (map origin (play at_start no_bodies 0 (p ∷ [])).entries ≡ 0 ∷ 0 ∷ []) × (map origin (play at_start no_bodies 0 (replicate 2 (once p))).entries ≡ 0 ∷ 256 ∷ [])
unfolding pattern_played passes_of body_of remember step sounded applied fraction_after
copies_have_headers = (refl, refl)

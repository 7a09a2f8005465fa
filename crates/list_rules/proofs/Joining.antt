-- The list of patterns and then others.
use Prim.Native.Nat.{ℕ, ◌+◌}
use native.Mathlib.Omega.{arith}
use native.Mathlib.Nat.{add-zero}
use mathlib.Core.Path.{◌≡◌, refl, sym, ap, ◌∙◌}
use mathlib.Core.Bool.{Bool, true, false}
use mathlib.Core.List.{List, [], ◌∷◌, ◌++◌, append_assoc, append-nil}
use lib.ListN.{length, length-append}
use lib.Dec.{eqb}
use borrow.Author.Tests.{eq-eqb, ne_eqb}
use Rattle.bits.specs.Choice.{pick}
use Rattle.tone.specs.Tone.{Pattern}
use Rattle.list_rules.specs.declared.Entry.{Entry}
use Rattle.list_rules.specs.Sounding.{State}
use Rattle.list_rules.specs.Playing.{Played, Listing, ahead, step, pass, one_pass, passes, pattern_played, next_header, play, mark_at}
use Rattle.list_count.specs.Bodies.{Remembered, body_of, remember}

-- the state that patterns leave, at the header behind them
abbrev pub state_after : State → List Remembered → List Pattern → State
state_after s bodies [] = s
state_after s bodies (p ∷ ps) = state_after (next_header (pattern_played s bodies p).after) (remember bodies p) ps

-- the bodies that patterns leave
abbrev pub bodies_after : List Remembered → List Pattern → List Remembered
bodies_after bodies [] = bodies
bodies_after bodies (p ∷ ps) = bodies_after (remember bodies p) ps

-- none of the patterns has loop 15
abbrev pub NoneEndless : List Pattern → Type 0
NoneEndless [] = Unit {0}
NoneEndless (p ∷ ps) = (p.loop ≡ 15 → ⊥) × NoneEndless ps

-- entries ahead of a list
abbrev pub listed_ahead_lem : List Entry → Listing → Listing
listed_ahead_lem rs g = record { entries = rs ++ g.entries; mark = g.mark }

-- a pattern with loop 15 ends the list
pub play_last : (s : State) (bodies : List Remembered) (n : ℕ) (p : Pattern) (ps : List Pattern) → p.loop ≡ 15
    → play s bodies n (p ∷ ps) ≡ record { entries = (pattern_played s bodies p).entries; mark = mark_at n (one_pass 15 s (body_of bodies p)).entries }
play_last s bodies n p ps h = rw (eq-eqb p.loop 15 h)

-- what was listed first stands ahead of what is listed next, and counts as much
pub two_ahead : (a b : List Entry) (n : ℕ) (more : ℕ → Listing) → listed_ahead_lem a (listed_ahead_lem b (more (n + length a + length b))) ≡ listed_ahead_lem (a ++ b) (more (n + length (a ++ b)))
two_ahead a b n more =
    let e : n + length a + length b ≡ n + length (a ++ b) = rw (length-append a b) (omega arith) in
    λ i. record { entries = append_back (more (e i)).entries i; mark = (more (e i)).mark }
  where
    append_back : (c : List Entry) → a ++ (b ++ c) ≡ (a ++ b) ++ c
    append_back c = sym (append_assoc a b c)

-- the list of ps and then qs, with no loop 15 in ps: that of ps, and then that of qs from the state and bodies that ps leave
pub joined : (s : State) (bodies : List Remembered) (n : ℕ) (ps qs : List Pattern) → NoneEndless ps
    → play s bodies n (ps ++ qs)
    ≡ listed_ahead_lem (play s bodies n ps).entries (play (state_after s bodies ps) (bodies_after bodies ps) (n + length (play s bodies n ps).entries) qs)
joined s bodies n [] qs h = ap (λ (k : ℕ). play s bodies k qs) (sym (add-zero n))
joined s bodies n (p ∷ ps) qs h =
    let d = pattern_played s bodies p in
    let k = n + length d.entries in
    rw (ne_eqb p.loop 15 h.0)
    (ap (listed_ahead_lem d.entries) (joined (next_header d.after) (remember bodies p) k ps qs h.1)
    ∙ two_ahead d.entries (play (next_header d.after) (remember bodies p) k ps).entries n (λ m. play (state_after (next_header d.after) (remember bodies p) ps) (bodies_after (remember bodies p) ps) m qs))

-- what is listed alike from any state is listed alike behind other patterns: the same, or alike in any other way that entries ahead keep
pub alike_behind : (Like : Listing → Listing → Type 0) → ((g : Listing) → Like g g) → ((rs : List Entry) (g h : Listing) → Like g h → Like (listed_ahead_lem rs g) (listed_ahead_lem rs h))
    → (s : State) (bodies : List Remembered) (n : ℕ) (ps qs qs' : List Pattern)
    → ((s : State) (n : ℕ) → Like (play s (bodies_after bodies ps) n qs) (play s (bodies_after bodies ps) n qs'))
    → Like (play s bodies n (ps ++ qs)) (play s bodies n (ps ++ qs'))
alike_behind Like same keeps s bodies n [] qs qs' h = h s n
alike_behind Like same keeps s bodies n (p ∷ ps) qs qs' h =
    let d = pattern_played s bodies p in
    go (eqb p.loop 15) (record { entries = d.entries; mark = mark_at n (one_pass p.loop s (body_of bodies p)).entries })
    (keeps d.entries _ _ (alike_behind Like same keeps (next_header d.after) (remember bodies p) (n + length d.entries) ps qs qs' h))
  where
    go : (t : Bool) (last : Listing) {g h : Listing} → Like g h → Like (pick t last g) (pick t last h)
    go true last k = same last
    go false last k = k

pub same_behind : (s : State) (bodies : List Remembered) (n : ℕ) (ps qs qs' : List Pattern)
    → ((s : State) (n : ℕ) → play s (bodies_after bodies ps) n qs ≡ play s (bodies_after bodies ps) n qs')
    → play s bodies n (ps ++ qs) ≡ play s bodies n (ps ++ qs')
same_behind = alike_behind (λ (g h : Listing). g ≡ h) (λ g. refl) (λ rs g h e. ap (listed_ahead_lem rs) e)

-- one pass is a pass
pub one_pass_lem : (loop : ℕ) (s : State) (b : List ℕ) → passes loop 1 s b ≡ one_pass loop s b
one_pass_lem loop s b = λ i. record { entries = append-nil (one_pass loop s b).entries i; after = (one_pass loop s b).after }

-- ---- bodies on end

pub ahead_twice : (a b : List Entry) (d : Played) → ahead a (ahead b d) ≡ ahead (a ++ b) d
ahead_twice a b d = λ i. record { entries = sym (append_assoc a b d.entries) i; after = d.after }

-- two bodies on end are played on end
pub pass_append : (s : State) (a b : List ℕ) → pass s (a ++ b) ≡ ahead (pass s a).entries (pass (pass s a).after b)
pass_append s [] b = refl
pass_append s (e ∷ a) b =
    let d = step s e in
    ap (ahead d.entries) (pass_append d.after a b) ∙ ahead_twice d.entries (pass d.after a).entries (pass (pass d.after a).after b)

-- The tune of a list: its entries but for their origins.
use Prim.Native.Nat.{ℕ, zero, suc, ◌+◌}
use mathlib.Core.Path.{◌≡◌, refl, sym, ap, ap₂, ◌∙◌}
use mathlib.Core.Bool.{Bool, true, false}
use mathlib.Core.List.{List, [], ◌∷◌, ◌++◌, map}
use lib.ListN.{length, length-map}
use lib.Dec.{eqb}
use Rattle.bits.specs.Choice.{pick}
use Rattle.tone.specs.Table.{kind, payload}
use Rattle.tone.specs.Tone.{Pattern}
use Rattle.list_count.specs.Bodies.{Remembered, passes_of, body_of, remember}
use Rattle.list_rules.specs.declared.Entry.{Entry}
use Rattle.list_rules.specs.Sounding.{State, fraction_after, following, sounded}
use Rattle.list_rules.specs.Playing.{Played, Listing, ahead, step, pass, begun, one_pass, passes, pattern_played, next_header, play, mark_at}
use Rattle.list_rules.proofs.Joining.{listed_ahead_lem}
use Rattle.list_rules.proofs.Marks.{list_mark}

-- an entry but for its origin
abbrev pub bare : Entry → Entry
bare r = record { note = r.note; scale = r.scale; style = r.style; volume = r.volume; microseconds = r.microseconds; header = 0; position = 0 }

-- entries but for their origins
abbrev pub tune : List Entry → List Entry
tune = map bare

-- a list but for its origins
abbrev pub tune_of : Listing → Listing
tune_of g = record { entries = tune g.entries; mark = g.mark }

-- a state but for its origin
abbrev pub unplaced : State → State
unplaced s = record { settings = s.settings; fraction = s.fraction; header = 0; position = 0 }

pub tune_append : (a b : List Entry) → tune (a ++ b) ≡ tune a ++ tune b
tune_append [] b = refl
tune_append (r ∷ a) b = ap (λ (l : List Entry). bare r ∷ l) (tune_append a b)

-- entries of one tune are as many
pub tune_long : (a b : List Entry) → tune a ≡ tune b → length a ≡ length b
tune_long a b h = sym (length-map a bare) ∙ ap length h ∙ length-map b bare

-- ---- what is played alike, but for origins

pub record Alike (d e : Played) : Type 0 where
  pub entries : tune d.entries ≡ tune e.entries
  pub after : unplaced d.after ≡ unplaced e.after

pub alike : (d : Played) → Alike d d
alike d = record { entries = refl; after = refl }

pub alike_then : {c d e : Played} → Alike c d → Alike d e → Alike c e
alike_then h k = record { entries = h.entries ∙ k.entries; after = h.after ∙ k.after }

pub same_alike : {d e : Played} → d ≡ e → Alike d e
same_alike h = record { entries = ap (λ (x : Played). tune x.entries) h; after = ap (λ (x : Played). unplaced x.after) h }

pub ahead_alike : (a b : List Entry) (d e : Played) → tune a ≡ tune b → Alike d e → Alike (ahead a d) (ahead b e)
ahead_alike a b d e h k = record {
  entries = tune_append a d.entries ∙ ap₂ (λ (x y : List Entry). x ++ y) h k.entries ∙ sym (tune_append b e.entries);
  after = k.after;
}

-- from states that are alike each instruction does alike
following_alike : (s r : State) (e : ℕ) → unplaced s ≡ unplaced r → unplaced (following s e) ≡ unplaced (following r e)
unfolding fraction_after
following_alike s r e h = ap (λ (z : State). unplaced (following z e)) h

sounded_alike : (s r : State) (p : ℕ) → unplaced s ≡ unplaced r → bare (sounded s p) ≡ bare (sounded r p)
unfolding sounded
sounded_alike s r p h = ap (λ (z : State). bare (sounded z p)) h

step_alike : (s r : State) (e : ℕ) → unplaced s ≡ unplaced r → Alike (step s e) (step r e)
unfolding step
step_alike s r e h = record { entries = go (eqb (kind e) 1); after = following_alike s r e h }
  where
    go : (t : Bool) → tune (pick t (sounded s (payload e) ∷ []) []) ≡ tune (pick t (sounded r (payload e) ∷ []) [])
    go true = ap (λ (x : Entry). x ∷ []) (sounded_alike s r (payload e) h)
    go false = refl

-- and so does a pass
pub pass_alike : (s r : State) (b : List ℕ) → unplaced s ≡ unplaced r → Alike (pass s b) (pass r b)
pass_alike s r [] h = record { entries = refl; after = h }
pass_alike s r (e ∷ b) h =
    let k = step_alike s r e h in
    ahead_alike (step s e).entries (step r e).entries (pass (step s e).after b) (pass (step r e).after b) k.entries (pass_alike (step s e).after (step r e).after b k.after)

begun_alike : (loop : ℕ) (s r : State) → unplaced s ≡ unplaced r → unplaced (begun loop s) ≡ unplaced (begun loop r)
begun_alike loop s r h = ap (λ (z : State). unplaced (begun loop z)) h

pub passes_alike : (loop n : ℕ) (s r : State) (b : List ℕ) → unplaced s ≡ unplaced r → Alike (passes loop n s b) (passes loop n r b)
passes_alike loop zero s r b h = record { entries = refl; after = h }
passes_alike loop (suc n) s r b h =
    let d = one_pass loop s b in
    let e = one_pass loop r b in
    let k = pass_alike (begun loop s) (begun loop r) b (begun_alike loop s r h) in
    ahead_alike d.entries e.entries (passes loop n d.after b) (passes loop n e.after b) k.entries (passes_alike loop n d.after e.after b k.after)

pub pattern_alike : (s r : State) (bodies : List Remembered) (p : Pattern) → unplaced s ≡ unplaced r → Alike (pattern_played s bodies p) (pattern_played r bodies p)
unfolding pattern_played
pattern_alike s r bodies p h = passes_alike p.loop (passes_of p.loop) s r (body_of bodies p) h

next_alike : (s r : State) → unplaced s ≡ unplaced r → unplaced (next_header s) ≡ unplaced (next_header r)
next_alike s r h = h

-- ---- lists

entries_alike : (s r : State) (bodies : List Remembered) (n m : ℕ) (ps : List Pattern) → unplaced s ≡ unplaced r → tune (play s bodies n ps).entries ≡ tune (play r bodies m ps).entries
entries_alike s r bodies n m [] h = refl
entries_alike s r bodies n m (p ∷ ps) h =
    let d = pattern_played s bodies p in
    let e = pattern_played r bodies p in
    let k = pattern_alike s r bodies p h in
    go (eqb p.loop 15) d.entries e.entries (mark_at n (one_pass p.loop s (body_of bodies p)).entries) (mark_at m (one_pass p.loop r (body_of bodies p)).entries)
    (play (next_header d.after) (remember bodies p) (n + length d.entries) ps) (play (next_header e.after) (remember bodies p) (m + length e.entries) ps)
    k.entries (entries_alike (next_header d.after) (next_header e.after) (remember bodies p) (n + length d.entries) (m + length e.entries) ps (next_alike d.after e.after k.after))
  where
    go : (t : Bool) (a b : List Entry) (x y : ℕ) (g f : Listing) → tune a ≡ tune b → tune g.entries ≡ tune f.entries
        → tune (pick {A = Listing} t (record { entries = a; mark = x }) (record { entries = a ++ g.entries; mark = g.mark })).entries
        ≡ tune (pick {A = Listing} t (record { entries = b; mark = y }) (record { entries = b ++ f.entries; mark = f.mark })).entries
    go true a b x y g f j l = j
    go false a b x y g f j l = tune_append a g.entries ∙ ap₂ (λ (v w : List Entry). v ++ w) j l ∙ sym (tune_append b f.entries)

-- from states that are alike the lists are, and the marks are the same
pub play_alike : (s r : State) (bodies : List Remembered) (n : ℕ) (ps : List Pattern) → unplaced s ≡ unplaced r → tune_of (play s bodies n ps) ≡ tune_of (play r bodies n ps)
play_alike s r bodies n ps h =
    let e = entries_alike s r bodies n n ps h in
    let m = list_mark s bodies n ps ∙ sym (list_mark r bodies n ps) in
    λ i. record { entries = e i; mark = m i }

-- entries ahead of lists that are alike
pub listed_alike : (a b : List Entry) (g h : Listing) → tune a ≡ tune b → tune_of g ≡ tune_of h → tune_of (listed_ahead_lem a g) ≡ tune_of (listed_ahead_lem b h)
listed_alike a b g h j k =
    let e = tune_append a g.entries ∙ ap₂ (λ (x : List Entry) (y : Listing). x ++ y.entries) j k ∙ sym (tune_append b h.entries) in
    λ i. record { entries = e i; mark = (k i).mark }

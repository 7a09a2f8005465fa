-- How many entries a list has, and where its mark stands.
use Prim.Native.Nat.{ℕ, zero, suc, ◌+◌, ◌*◌, ◌≤◌, ◌<◌}
use native.Mathlib.Omega.{arith}
use native.Mathlib.Nat.{add-zero, mul-suc, mul-zero}
use mathlib.Core.Path.{◌≡◌, refl, sym, ap₂, ◌∙◌}
use mathlib.Core.Logic.{◌⊎◌, inl, inr}
use mathlib.Core.Bool.{Bool, true, false}
use mathlib.Core.List.{List, [], ◌∷◌, ◌++◌}
use lib.ListN.{length, length-append}
use lib.Dec.{eqb}
use borrow.Author.Tests.{eqb-true}
use Rattle.bits.specs.Choice.{pick}
use Rattle.bits.proofs.Choice.{pick_elim}
use Rattle.tone.specs.Table.{kind, payload}
use Rattle.tone.specs.Tone.{Pattern}
use Rattle.list_rules.specs.declared.Entry.{Entry}
use Rattle.list_rules.specs.Sounding.{State, following, sounded}
use Rattle.list_rules.specs.Playing.{step, pass, begun, one_pass, passes, Listing, pattern_played, next_header, play, mark_at}
use Rattle.list_count.specs.Bodies.{passes_of, Remembered, body_of, remember, no_mark}
use Rattle.tone_elements.specs.Answers.{notes}
use Rattle.list_count.specs.Counting.{entry_count}
use Rattle.list_count.proofs.Bodies.{endless_passes}

-- a pass adds an entry for each note
pub pass_count : (s : State) (b : List ℕ) → length (pass s b).entries ≡ notes b
unfolding step
pass_count s [] = refl
pass_count s (e ∷ b) =
    length-append (step s e).entries (pass (following s e) b).entries
    ∙ ap₂ (λ (x y : ℕ). x + y) (go (eqb (kind e) 1)) (pass_count (following s e) b)
  where
    go : (t : Bool) → length (pick t (sounded s (payload e) ∷ []) []) ≡ pick t 1 0
    go true = refl
    go false = refl

-- so many passes, so many times the notes
pub passes_count : (loop n : ℕ) (s : State) (b : List ℕ) → length (passes loop n s b).entries ≡ notes b * n
passes_count loop zero s b = sym (mul-zero (notes b))
passes_count loop (suc n) s b =
    let d = one_pass loop s b in
    length-append d.entries (passes loop n d.after b).entries
    ∙ (rw (pass_count (begun loop s) b, passes_count loop n d.after b, mul-suc (notes b) n) (omega arith))

pub pattern_count_lem : (s : State) (bodies : List Remembered) (p : Pattern) → length (pattern_played s bodies p).entries ≡ notes (body_of bodies p) * passes_of p.loop
unfolding pattern_played
pattern_count_lem s bodies p = passes_count p.loop (passes_of p.loop) _ (body_of bodies p)

-- the count is the notes times the passes, summed up to the first loop 15
pub list_count : (s : State) (bodies : List Remembered) (n : ℕ) (ps : List Pattern) → length (play s bodies n ps).entries ≡ entry_count bodies ps
list_count s bodies n [] = refl
list_count s bodies n (p ∷ ps) =
    let d = pattern_played s bodies p in
    go (eqb p.loop 15) d.entries (mark_at n (one_pass p.loop s (body_of bodies p)).entries) (play (next_header d.after) (remember bodies p) (n + length d.entries) ps) (pattern_count_lem s bodies p) (list_count (next_header d.after) (remember bodies p) (n + length d.entries) ps)
  where
    go : (t : Bool) (a : List Entry) (m : ℕ) (g : Listing) {k c : ℕ} → length a ≡ c → length g.entries ≡ k
        → length (pick {A = Listing} t (record { entries = a; mark = m }) (record { entries = a ++ g.entries; mark = g.mark })).entries ≡ c + pick t 0 k
    go true a m g {c = c} h l = h ∙ sym (add-zero c)
    go false a m g h l = length-append a g.entries ∙ ap₂ (λ (x y : ℕ). x + y) h l

-- a mark is a position among the entries, counted from n, or none
abbrev pub Placed : ℕ → Listing → Type 0
Placed n g = ((n ≤ g.mark) × (g.mark < n + length g.entries)) ⊎ (g.mark ≡ no_mark)

pub mark_placed : (s : State) (bodies : List Remembered) (n : ℕ) (ps : List Pattern) → Placed n (play s bodies n ps)
mark_placed s bodies n [] = inr refl
mark_placed s bodies n (p ∷ ps) =
    let d = pattern_played s bodies p in
    let k = n + length d.entries in
    let more = play (next_header d.after) (remember bodies p) k ps in
    pick_elim (Placed n) (eqb p.loop 15)
    (λ h. first d.entries (one_pass p.loop s (body_of bodies p)).entries (twice (eqb-true p.loop 15 h)))
    (λ _. later d.entries more (mark_placed (next_header d.after) (remember bodies p) k ps))
  where
    -- two passes have as many entries each
    twice : p.loop ≡ 15 → length (pattern_played s bodies p).entries ≡ length (one_pass p.loop s (body_of bodies p)).entries * 2
    twice h = pattern_count_lem s bodies p ∙ (rw (pass_count (begun p.loop s) (body_of bodies p), endless_passes p.loop h))

    first : (all rs : List Entry) → length all ≡ length rs * 2 → Placed n (record { entries = all; mark = mark_at n rs })
    first all [] h = inr refl
    first all (r ∷ rs) h = inl (omega arith, omega arith)

    later : (rs : List Entry) (g : Listing) → Placed (n + length rs) g → Placed n (record { entries = rs ++ g.entries; mark = g.mark })
    later rs g (inl h) = inl (omega arith, rw (length-append rs g.entries) (omega arith))
    later rs g (inr h) = inr h

-- The return mark of a list, without the list.
use Prim.Native.Nat.{ℕ, suc, ◌+◌}
use native.Mathlib.Omega.{arith}
use mathlib.Core.Path.{◌≡◌, refl, ap, ◌∙◌}
use mathlib.Core.Bool.{Bool, true, false}
use mathlib.Core.List.{List, [], ◌∷◌, ◌++◌}
use lib.ListN.{length}
use lib.Dec.{eqb}
use borrow.Author.Tests.{ne_eqb}
use Rattle.bits.specs.Choice.{pick}
use Rattle.bits.proofs.Choice.{pick_cong}
use Rattle.tone.specs.Tone.{Pattern}
use Rattle.tone_elements.specs.Answers.{notes}
use Rattle.list_count.specs.Bodies.{Remembered, body_of, remember}
use Rattle.list_count.specs.Counting.{mark_of, mark_from}
use Rattle.list_rules.specs.declared.Entry.{Entry}
use Rattle.list_rules.specs.Sounding.{State}
use Rattle.list_rules.specs.Playing.{begun, one_pass, mark_at, Listing, pattern_played, next_header, play}
use Rattle.list_rules.proofs.Counts.{pass_count, pattern_count_lem}

mark_length : (n : ℕ) (rs : List Entry) → mark_at n rs ≡ mark_of n (length rs)
mark_length n [] = refl
mark_length n (r ∷ rs) = rw (ne_eqb (suc (length rs)) 0 (λ e. omega arith))

picked_mark : (t : Bool) (g h : Listing) → (pick t g h).mark ≡ pick t g.mark h.mark
picked_mark true g h = refl
picked_mark false g h = refl

-- the mark of a list is where counting alone puts it
pub list_mark : (s : State) (bodies : List Remembered) (n : ℕ) (ps : List Pattern) → (play s bodies n ps).mark ≡ mark_from bodies n ps
list_mark s bodies n [] = refl
list_mark s bodies n (p ∷ ps) =
    let d = pattern_played s bodies p in
    let k = notes (body_of bodies p) in
    let m = n + length d.entries in
    let more = play (next_header d.after) (remember bodies p) m ps in
    picked_mark (eqb p.loop 15) (record { entries = d.entries; mark = mark_at n (one_pass p.loop s (body_of bodies p)).entries }) (record { entries = d.entries ++ more.entries; mark = more.mark })
    ∙ pick_cong (eqb p.loop 15)
    (λ h. mark_length n (one_pass p.loop s (body_of bodies p)).entries ∙ ap (mark_of n) (pass_count (begun p.loop s) (body_of bodies p)))
    (λ h. list_mark (next_header d.after) (remember bodies p) m ps ∙ ap (λ (x : ℕ). mark_from (remember bodies p) (n + x) ps) (pattern_count_lem s bodies p))

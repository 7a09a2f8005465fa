-- An edit that a judgement has in mind: the patterns as it changes them, and where it cuts.
use Rattle.std.specs.Prelude.{ℕ, ◌+◌, ◌-◌, ◌≡◌, Bool, List, length, take, set, eqb, ltb}
use Rattle.bits.specs.Choice.{pick}
use Rattle.bits.specs.Places.{place}
use Rattle.tone.specs.Tone.{Pattern, header, cells, pattern_at}
use Rattle.tone.specs.Writing.{table_bits}
use Rattle.tone_elements.specs.Answers.{notes}
use Rattle.edit_change.specs.declared.Edit.TheVariants.{Delete}
use Rattle.edit_change.specs.Change.{removed, body_after, with_body}
use Rattle.edit_change.specs.Answers.{ground_of}
use Rattle.tone_judge.specs.declared.Wish.{Wish}
use Rattle.tone_judge.specs.declared.Cut.{Cut}
use Rattle.tone_judge.specs.declared.Own.{Own}

-- ---- the patterns as they are wished

-- no ground is against the edit in a body
abbrev pub grants : Wish → List ℕ → Bool
grants w b = eqb (ground_of w.edit w.instruction (length b)) 0

-- a body as it is wished: changed, where no ground is against that
abbrev pub granted : Wish → List ℕ → List ℕ
granted w b = pick (grants w b) (body_after w.edit w.instruction b) b

-- the patterns as they are wished: the one named with its body so
abbrev pub wished : Wish → List Pattern → List Pattern
wished w ps = let p = pattern_at ps w.pattern in set ps w.pattern (with_body p (granted w p.body))

-- nothing is wished: no message has a pattern at position 255
abbrev pub no_wish : Wish
no_wish = record { edit = Delete; pattern = 255; instruction = 0 }

-- how many of n patterns are left, it among them, where the one at position k comes; 0 where none does
abbrev pub left_at : ℕ → ℕ → ℕ
left_at n k = pick (ltb k n) (n - k) 0

-- ---- where a wish cuts

-- nowhere
abbrev pub no_cut : Cut
no_cut = record { header = place 0; at = place 0; behind = place 0; cell = 0 }

-- the place of instruction j of the body b whose header stands at h
abbrev pub place_in : ℕ → List ℕ → ℕ → ℕ
place_in h b j = h + 17 + length (table_bits (take j b))

-- where it cuts the part of a header that stands at h; where a ground is against the edit, all places are the header's
abbrev pub cut_of : Wish → ℕ → ℕ → List ℕ → Cut
cut_of w h cell b =
    pick (grants w b)
    (record { header = place h; at = place (place_in h b w.instruction); behind = place (place_in h b (w.instruction + removed w.edit)); cell = cell })
    (record { header = place h; at = place h; behind = place h; cell = cell })

-- where it cuts the patterns that stand at a place
abbrev pub cut_in : Wish → ℕ → List Pattern → Cut
cut_in w at ps =
    let p = pattern_at ps w.pattern in
    pick (ltb w.pattern (length ps)) (cut_of w (at + length (table_bits (cells (take w.pattern ps)))) (header p) p.body) no_cut

-- ---- one part

-- the part of a header that stands at h, with the body b, as it is wished
pub record OwnOf (w : Wish) (h cell : ℕ) (b : List ℕ) (r : Own) : Type 0 where
  pub notes : r.notes ≡ notes (granted w b)
  pub cut : r.cut ≡ cut_of w h cell b

-- the same where it is the part named; any other is as it stands
abbrev pub Owned : Bool → Wish → ℕ → ℕ → List ℕ → Cut → Own → Type 0
Owned named w h cell b c r = (r.notes ≡ notes (pick named (granted w b) b)) × (r.cut ≡ pick named (cut_of w h cell b) c)

-- `list::fill_rows` meets its contract. The first i rows are filled.
use Rattle.std.proofs.Common.{arith, ◌≡◌, ◌+◌, ◌<◌, ◌∙◌, ℕ, ap, sym, List, length, add-one}
use mathlib.Core.Path.{ap₂}
use lib.ListN.{set}
use Rattle.list_rules.specs.declared.Entry.{Entry}
use Rattle.list_rules.specs.Sounding.{entry_at}
use Rattle.list_rules.proofs.Packing.{filled, filled_next}
use Rattle.list.proofs.fill_rows.Goals as goal

-- a turn fills one row more
turn : (l : List ℕ) (rows : List Entry) (n : ℕ) {xs : List Entry} {e : Entry} → xs ≡ filled l rows n → e ≡ entry_at l n → n < length rows → set xs n e ≡ filled l rows (n + 1)
turn l rows n q z h = ap₂ (λ (ys : List Entry) (x : Entry). set ys n x) q z ∙ filled_next l rows n h ∙ ap (filled l rows) (sym (add-one n))

pub loop-i-preserved : goal.loop-i-preserved
loop-i-preserved c =
    (omega arith, turn c.args.list.now c.args.rows.now c.loop-i.i c.loop-i.invariant.1 c.entry_at.ensures (omega arith))

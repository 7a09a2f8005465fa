-- `list_text::put_entries` meets its contract. Each turn puts one line more.
use Rattle.list_text.proofs.Texts.{Lining}
use Rattle.list_text.proofs.put_entries.Given as goal

abbrev pub invariant-loop-i : goal.invariant-loop-i
invariant-loop-i l = Lining l.initial.out l.initial.at.0 l.list l.entries l.out l.at.0 l.i

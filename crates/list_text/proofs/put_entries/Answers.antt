-- `list_text::put_entries` meets its contract. Each turn puts one line more.
use Rattle.list_text.proofs.Texts.{line_turn}
use Rattle.list_text.proofs.put_entries.Goals as goal

pub loop-i-preserved : goal.loop-i-preserved
loop-i-preserved c =
    let a = c.args in
    let put = c.put_entry-at.ensures in
    line_turn a.out.now a.start.0 a.list.now a.entries c.loop-i.invariant c.loop-i-test.true c.entry_at.ensures put.added put.result_bound

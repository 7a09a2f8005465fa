-- `tone_judge::go_over` meets its contract.
use Rattle.tone_judge.proofs.Overs.{over_on, overs}
use borrow.Author.Rules.{rules}
use Rattle.tone_judge.proofs.go_over.Goals as goal

pub loop-left-init : goal.loop-left-init
loop-left-init c = search (overs, rules)

pub entry_at-e-requires : goal.entry_at-e-requires
entry_at-e-requires c =
    record {
      within = search (overs, rules);
      some_entry = search (overs, rules);
    }

pub note_in-notes-requires : goal.note_in-notes-requires
note_in-notes-requires c = search (overs, rules)

pub overflow_add-notes : goal.overflow_add-notes
overflow_add-notes c = search (overs, rules)

pub overflow_sub-left : goal.overflow_sub-left
overflow_sub-left c = search (overs, rules)

pub loop-left-smaller : goal.loop-left-smaller
loop-left-smaller c = search (overs, rules)

pub loop-left-preserved : goal.loop-left-preserved
loop-left-preserved c =
    over_on c.loop-left.invariant c.loop-left-test.true c.entry_at-e.ensures c.note_in-notes.ensures

pub returns : goal.returns
returns c = search (overs, rules)

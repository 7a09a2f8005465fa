-- `list_text::put_mark` meets its contract.
use borrow.Author.Rules.{rules}
use Rattle.list_text.proofs.Texts.{mark_none, mark_some}
use Rattle.list_text.proofs.put_mark.Goals as goal

pub returns-then-mark-eq4294967295 : goal.returns-then-mark-eq4294967295
returns-then-mark-eq4294967295 c =
    record {
      added = search (mark_none, mark_some, rules);
      result_bound = search (mark_none, mark_some, rules);
    }

pub returns : goal.returns
returns c =
    record {
      added = search (mark_none, mark_some, rules);
      result_bound = search (mark_none, mark_some, rules);
    }

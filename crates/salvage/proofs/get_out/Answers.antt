-- `salvage::get_out` meets its contract.
use borrow.Author.Rules.{rules}
use Rattle.std.proofs.lemmas.Result.{err_from_is_err_and}
use Rattle.salvage.proofs.Ends.{endings}
use Rattle.salvage.proofs.get_out.Goals as goal

pub walk-requires : goal.walk-requires
walk-requires c = search (endings, rules)

pub slice_bounds-hand_out-count : goal.slice_bounds-hand_out-count
slice_bounds-hand_out-count c = search (endings, rules)

pub hand_out-requires : goal.hand_out-requires
hand_out-requires c =
    record {
      stretches = search (endings, rules);
      octets_value = search (endings, rules);
      cells_bound = search (endings, rules);
    }

pub shape_of-out : goal.shape_of-out
shape_of-out c = search (endings, rules)

pub shape_of-report : goal.shape_of-report
shape_of-report c = search (endings, rules)

pub returns-in_err-kept : goal.returns-in_err-kept
returns-in_err-kept c = let p = err_from_is_err_and c.from_residual.result c.from_residual.ensures.1 in rw (p.1, p.2) (search (endings, c.in_err-kept.was, rules))

pub returns : goal.returns
returns c = search (endings, c.in_ok-kept.was, rules)

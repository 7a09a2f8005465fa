-- `salvage::hand_out` meets its contract.
use borrow.Author.Rules.{rules}
use Rattle.salvage.proofs.Ends.{handings}
use Rattle.salvage.proofs.hand_out.Goals as goal

pub overflow_mul-needed : goal.overflow_mul-needed
overflow_mul-needed c = search (handings, rules)

pub overflow_add-needed : goal.overflow_add-needed
overflow_add-needed c = search (handings, rules)

pub overflow_add-needed-2 : goal.overflow_add-needed-2
overflow_add-needed-2 c = search (handings, rules)

pub returns-then-out-needed : goal.returns-then-out-needed
returns-then-out-needed c = search (handings, rules)

pub overflow_mul-messages : goal.overflow_mul-messages
overflow_mul-messages c = search (handings, rules)

pub overflow_add-messages : goal.overflow_add-messages
overflow_add-messages c = search (handings, rules)

pub returns-then-report-messages : goal.returns-then-report-messages
returns-then-report-messages c = search (handings, rules)

pub overflow_sub-skipped : goal.overflow_sub-skipped
overflow_sub-skipped c = search (handings, rules)

pub put_pack-requires : goal.put_pack-requires
put_pack-requires c =
    record {
      stretches = search (handings, rules);
      octets_value = search (handings, rules);
      cells_in_bounds = search (handings, rules);
    }

pub put_report-requires : goal.put_report-requires
put_report-requires c = search (handings, rules)

pub shape_of-out : goal.shape_of-out
shape_of-out c = search (handings, rules)

pub shape_of-report : goal.shape_of-report
shape_of-report c = search (handings, rules)

pub returns : goal.returns
returns c = search (handings, rules)

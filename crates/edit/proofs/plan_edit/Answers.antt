-- `edit::plan_edit` meets its contract.
use borrow.Author.Rules.{rules}
use Rattle.edit.proofs.Planning.{plan_faulty, plan_ground, plan_new, plan_cell_fits, plan_cell_least, plan_go}
use Rattle.edit.proofs.plan_edit.Goals as goal

pub returns-in_err-judged : goal.returns-in_err-judged
returns-in_err-judged c = search (plan_faulty c.args.wish c.args.msg.now c.judge_for.ensures c.in_err-judged.was, rules)

pub returns-in_err-ground : goal.returns-in_err-ground
returns-in_err-ground c = search (plan_ground c.args.wish c.args.msg.now c.judge_for.ensures c.in_ok-judged.was c.ground.ensures c.in_err-ground.was, rules)

pub overflow_add-result : goal.overflow_add-result
overflow_add-result c = plan_cell_fits c.args.wish c.args.msg.now c.judge_for.ensures c.in_ok-judged.was c.ground.ensures c.in_ok-ground.was c.added.ensures

pub overflow_sub-result : goal.overflow_sub-result
overflow_sub-result c =
    plan_cell_least c.args.wish c.args.msg.now c.judge_for.ensures c.in_ok-judged.was c.ground.ensures c.in_ok-ground.was c.added.ensures c.removed.ensures

pub carried_piece-requires : goal.carried_piece-requires
carried_piece-requires c = plan_new c.args.wish c.args.msg.now c.judge_for.ensures c.in_ok-judged.was c.ground.ensures c.in_ok-ground.was

pub returns : goal.returns
returns c =
    plan_go c.args.wish c.args.msg.now c.judge_for.ensures c.in_ok-judged.was c.ground.ensures c.in_ok-ground.was c.added.ensures c.removed.ensures c.carried_piece.ensures c.outlined.ensures

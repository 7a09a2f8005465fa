-- `list_fill::fill_pass` meets its contract. What is left to play falls with each turn.
use borrow.Author.Rules.{rules}
use Rattle.list_fill.proofs.Walking.{passings}
use Rattle.list_fill.proofs.fill_pass.Goals as goal

pub loop-left-init : goal.loop-left-init
loop-left-init c = search (passings, rules)

pub turn-k-requires : goal.turn-k-requires
turn-k-requires c = search (passings, rules)

pub fill_few-walk-requires : goal.fill_few-walk-requires
fill_few-walk-requires c =
    record {
      ready = search (passings, rules);
      body_at = search (passings, rules);
      n_in_bounds = search (passings, rules);
    }

pub overflow_sub-left : goal.overflow_sub-left
overflow_sub-left c = search (passings, rules)

pub loop-left-smaller : goal.loop-left-smaller
loop-left-smaller c = search (passings, rules)

pub loop-left-preserved : goal.loop-left-preserved
loop-left-preserved c = search (passings, rules)

pub shape_of-list : goal.shape_of-list
shape_of-list c = search (passings, rules)

pub returns : goal.returns
returns c = search (passings, rules)

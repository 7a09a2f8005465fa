-- `salvage::next_front` meets its contract.
use borrow.Author.Rules.{rules}
use Rattle.salvage.proofs.Reaching.{passed_one, passing, passed}
use Rattle.salvage.proofs.next_front.Goals as goal

pub over_blocks-at-requires : goal.over_blocks-at-requires
over_blocks-at-requires c = search (passing, rules)

pub loop-at-init : goal.loop-at-init
loop-at-init c = search (passing, rules)

pub overflow_sub-c : goal.overflow_sub-c
overflow_sub-c c = search (passing, rules)

pub bounds-c-at : goal.bounds-c-at
bounds-c-at c = search (passing, rules)

pub overflow_add-at : goal.overflow_add-at
overflow_add-at c = search (passing, rules)

pub bounds-c-at-in-loop-at : goal.bounds-c-at-in-loop-at
bounds-c-at-in-loop-at c = search (passing, rules)

pub front-requires : goal.front-requires
front-requires c = search (passing, rules)

pub returns-then-front-ne0 : goal.returns-then-front-ne0
returns-then-front-ne0 c = search (passed, rules)

pub overflow_add-at-in-loop-at : goal.overflow_add-at-in-loop-at
overflow_add-at-in-loop-at c = search (passing, rules)

pub loop-at-smaller : goal.loop-at-smaller
loop-at-smaller c = search (passing, rules)

pub loop-at-preserved : goal.loop-at-preserved
loop-at-preserved c = search (passed_one, rules)

pub returns : goal.returns
returns c = search (passed, rules)

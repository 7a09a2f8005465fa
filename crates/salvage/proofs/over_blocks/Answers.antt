-- `salvage::over_blocks` meets its contract.
use borrow.Author.Rules.{rules}
use Rattle.salvage.proofs.Reaching.{passed_block, passing}
use Rattle.salvage.proofs.over_blocks.Goals as goal

pub loop-at-init : goal.loop-at-init
loop-at-init c = search (passing, rules)

pub overflow_sub-c : goal.overflow_sub-c
overflow_sub-c c = search (passing, rules)

pub fronts-requires : goal.fronts-requires
fronts-requires c = search (passing, rules)

pub returns-then-fronts-ne0 : goal.returns-then-fronts-ne0
returns-then-fronts-ne0 c = search (passing, rules)

pub overflow_add-at : goal.overflow_add-at
overflow_add-at c = search (passing, rules)

pub loop-at-smaller : goal.loop-at-smaller
loop-at-smaller c = search (passing, rules)

pub loop-at-preserved : goal.loop-at-preserved
loop-at-preserved c = search (passed_block, rules)

pub returns : goal.returns
returns c = search (passing, rules)

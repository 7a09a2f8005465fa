-- `tone_elements::body` meets its contract. What is left to read falls with each turn.
use borrow.Author.Rules.{rules}
use Rattle.tone_elements.proofs.Telling.{turn_on, turns}
use Rattle.tone_elements.proofs.body.Goals as goal

pub loop-more-init : goal.loop-more-init
loop-more-init c = search (turns, rules)

pub turn-k-requires : goal.turn-k-requires
turn-k-requires c = search (turns, rules)

pub sight-requires : goal.sight-requires
sight-requires c = search (turns, rules)

pub tell-told-requires : goal.tell-told-requires
tell-told-requires c = search (turns, rules)

pub singly-requires : goal.singly-requires
singly-requires c =
    record {
      within = search (turns, rules);
      n_bound = search (turns, rules);
    }

pub returns-then-told-ne0 : goal.returns-then-told-ne0
returns-then-told-ne0 c = search (turns, rules)

pub left-requires : goal.left-requires
left-requires c = search (turns, rules)

pub overflow_cast-told : goal.overflow_cast-told
overflow_cast-told c = search (turns, rules)

pub overflow_add-told : goal.overflow_add-told
overflow_add-told c = search (turns, rules)

pub singly-requires-then-left-told : goal.singly-requires-then-left-told
singly-requires-then-left-told c = search (turns, rules)

pub returns-then-left-told : goal.returns-then-left-told
returns-then-left-told c = search (turns, rules)

pub overflow_cast-place : goal.overflow_cast-place
overflow_cast-place c = search (turns, rules)

pub overflow_add-place : goal.overflow_add-place
overflow_add-place c = search (turns, rules)

pub overflow_add-notes : goal.overflow_add-notes
overflow_add-notes c = search (turns, rules)

pub overflow_sub-more : goal.overflow_sub-more
overflow_sub-more c = search (turns, rules)

pub loop-more-smaller : goal.loop-more-smaller
loop-more-smaller c = search (turns, rules)

pub loop-more-preserved : goal.loop-more-preserved
loop-more-preserved c =
    turn_on c.loop-more.invariant c.turn-k.ensures c.tell-told.ensures c.left.ensures (search rules) c.sight.ensures (search rules)

pub returns : goal.returns
returns c = search (turns, rules)

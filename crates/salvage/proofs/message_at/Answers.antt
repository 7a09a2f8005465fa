-- `salvage::message_at` meets its contract.
use borrow.Author.Rules.{rules}
use Rattle.salvage.proofs.Reaching.{starts}
use Rattle.salvage.proofs.message_at.Goals as goal

pub overflow_sub-c : goal.overflow_sub-c
overflow_sub-c c = search (starts, rules)

pub returns-then-c-i-lt2 : goal.returns-then-c-i-lt2
returns-then-c-i-lt2 c = search (starts, rules)

pub bounds-c-i : goal.bounds-c-i
bounds-c-i c = search (starts, rules)

pub overflow_add-i : goal.overflow_add-i
overflow_add-i c = search (starts, rules)

pub bounds-c-i-2 : goal.bounds-c-i-2
bounds-c-i-2 c = search (starts, rules)

pub front-requires : goal.front-requires
front-requires c = search (starts, rules)

pub returns-then-front-eq0 : goal.returns-then-front-eq0
returns-then-front-eq0 c = search (starts, c.type_inv.c, rules)

pub in_reach-requires : goal.in_reach-requires
in_reach-requires c = search (starts, rules)

pub returns : goal.returns
returns c = search (starts, rules)

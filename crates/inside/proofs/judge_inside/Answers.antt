-- `inside::judge_inside` meets its contract.
use borrow.Author.Rules.{rules}
use Rattle.inside.proofs.Moving.{insides}
use Rattle.inside.proofs.judge_inside.Goals as goal

pub returns-then-own-to : goal.returns-then-own-to
returns-then-own-to c = search (insides, rules)

pub moved-requires : goal.moved-requires
moved-requires c = search (insides, rules)

pub returns-in-Err : goal.returns-in-Err
returns-in-Err c = search (insides, rules)

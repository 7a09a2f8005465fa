-- `bitmap::judge` meets its contract.
use borrow.Author.Rules.{rules}
use Rattle.bitmap.proofs.Judging.{judges}
use Rattle.bitmap.proofs.judge.Goals as goal

pub returns-then-msg-lt4 : goal.returns-then-msg-lt4
returns-then-msg-lt4 c = search (judges, rules)

pub returns-then-msg-ne0 : goal.returns-then-msg-ne0
returns-then-msg-ne0 c = search (judges, rules)

pub returns : goal.returns
returns c = search (judges, rules)

-- `list_fill::Walk::start` meets its contract.
use borrow.Author.Rules.{rules}
use Rattle.list_fill.proofs.Stepping.{starts}
use Rattle.list_fill.proofs.Walk.start.Goals as goal

pub beats-beats-requires : goal.beats-beats-requires
beats-beats-requires c = search (starts, rules)

pub base-requires : goal.base-requires
base-requires c = search (starts, rules)

pub inverse-requires : goal.inverse-requires
inverse-requires c = search (starts, rules)

pub returns : goal.returns
returns c = search (starts, rules)

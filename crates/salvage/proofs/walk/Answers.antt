-- `salvage::walk` meets its contract.
use borrow.Author.Rules.{rules}
use Rattle.salvage.proofs.Walking.{walking}
use Rattle.salvage.proofs.walk.Goals as goal

pub loop-at-init : goal.loop-at-init
loop-at-init c = search (walking, rules)

pub loop-at-preserved-in-None : goal.loop-at-preserved-in-None
loop-at-preserved-in-None c = search (walking, rules)

pub overflow_add-octets : goal.overflow_add-octets
overflow_add-octets c = search (walking, rules)

pub overflow_add-octets-in-Some : goal.overflow_add-octets-in-Some
overflow_add-octets-in-Some c = search (walking, rules)

pub overflow_add-octets-in-Some-2 : goal.overflow_add-octets-in-Some-2
overflow_add-octets-in-Some-2 c = search (walking, rules)

pub returns-then-octets-own-gt65535 : goal.returns-then-octets-own-gt65535
returns-then-octets-own-gt65535 c = search (walking, rules)

pub bounds-cells-n : goal.bounds-cells-n
bounds-cells-n c = search (walking, rules)

pub loop-at-preserved : goal.loop-at-preserved
loop-at-preserved c = search (walking, rules)

pub returns : goal.returns
returns c = search (walking, rules)

-- `bitmap::fault` meets its contract.
use borrow.Author.Rules.{rules}
use Rattle.bitmap.proofs.Judging.{faults}
use Rattle.bitmap.proofs.fault.Goals as goal

pub returns-then-not-sized : goal.returns-then-not-sized
returns-then-not-sized c = search (faults, rules)

pub octets_of-requires : goal.octets_of-requires
octets_of-requires c = search (faults, rules)

pub returns-then-image-octets_of : goal.returns-then-image-octets_of
returns-then-image-octets_of c = search (faults, c.if-image-octets_of.true, rules)

pub returns : goal.returns
returns c = search (faults, rules)

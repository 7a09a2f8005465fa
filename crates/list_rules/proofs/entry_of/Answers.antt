-- `list_rules::entry_of` meets its contract.
use borrow.Author.Rules.{rules}
use Rattle.list_rules.specs.Sounding.{unpacked}
use Rattle.list_rules.proofs.entry_of.Goals as goal

pub returns : goal.returns
unfolding unpacked
returns c = search rules

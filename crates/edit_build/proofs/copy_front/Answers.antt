-- `edit_build::copy_front` meets its contract.
use borrow.Author.Rules.{rules}
use Rattle.edit_build.proofs.Builds.{front_is}
use Rattle.edit_build.proofs.copy_front.Goals as goal

pub returns : goal.returns
returns c = search (front_is, rules)

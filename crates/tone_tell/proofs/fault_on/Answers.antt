-- `tone_tell::fault_on` meets its contract.
use borrow.Author.Rules.{rules}
use Rattle.tone_tell.proofs.Packed.{faults_packed}
use Rattle.tone_tell.proofs.fault_on.Goals as goal

pub returns : goal.returns
returns c = (faults_packed c.args.x (search rules) c.fault_row.ensures, search rules)

-- `tone_elements::announced` meets its contract.
use borrow.Author.Rules.{rules}
use Rattle.tone_elements.proofs.Openings.{command_plain}
use Rattle.tone_elements.proofs.announced.Goals as goal

pub returns-then-look-eq75037 : goal.returns-then-look-eq75037
returns-then-look-eq75037 c = search (command_plain, rules)

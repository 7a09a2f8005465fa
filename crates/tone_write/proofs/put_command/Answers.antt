-- `tone_write::put_command` meets its contract.
use borrow.Author.Rules.{rules}
use Rattle.tone_write.proofs.Pieces.{commands}
use Rattle.tone_write.proofs.put_command.Goals as goal

pub put-s-requires : goal.put-s-requires
put-s-requires c = search (commands, rules)

pub put-requires : goal.put-requires
put-requires c = (search rules, search rules, search commands)

pub returns : goal.returns
returns c = search (commands, rules)

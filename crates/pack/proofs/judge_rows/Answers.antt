-- `pack::judge_rows` meets its contract.
use borrow.Author.Rules.{rules}
use Rattle.pack.proofs.Exits.{in_rows}
use Rattle.pack.proofs.judge_rows.Goals as goal

pub judge_in_turn-requires : goal.judge_in_turn-requires
judge_in_turn-requires c = (search (in_rows, rules), search rules)

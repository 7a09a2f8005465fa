-- `tone_judge::judge` meets its contract.
use borrow.Author.Rules.{rules}
use Rattle.tone_judge.proofs.Judgements.{judge_plain}
use Rattle.tone_judge.proofs.judge.Goals as goal

pub judge_for-requires : goal.judge_for-requires
judge_for-requires c = search (judge_plain, rules)

pub returns : goal.returns
returns c = search (judge_plain, rules)

-- `tone_judge::judge_for` meets its contract.
use borrow.Author.Rules.{rules}
use Rattle.tone_judge.proofs.Judgements.{judgements, judge_more}
use Rattle.tone_judge.proofs.judge_for.Goals as goal

pub returns-then-msg-gt4096 : goal.returns-then-msg-gt4096
returns-then-msg-gt4096 c = search (judgements, rules)

pub returns-in_err-whole : goal.returns-in_err-whole
returns-in_err-whole c = search (judgements, rules)

pub returns-then-whole-place_after : goal.returns-then-whole-place_after
returns-then-whole-place_after c =
    judge_more c.args.wish c.args.msg.now c.if-msg-gt4096.false c.judge_start.ensures c.in_ok-whole.was c.place_after.ensures c.at.ensures c.if-whole-place_after.true

pub returns : goal.returns
returns c = search (judgements, rules)

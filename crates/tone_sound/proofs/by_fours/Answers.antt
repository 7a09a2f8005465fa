-- `tone_sound::by_fours` meets its contract. What is left falls with each turn.
use borrow.Author.Rules.{rules}
use Rattle.tone_sound.proofs.Bodies.{gone_on, gone_lost, bodies}
use Rattle.tone_sound.proofs.by_fours.Goals as goal

pub loop-left-init : goal.loop-left-init
loop-left-init c = search (bodies, rules)

pub returns-in_err-place : goal.returns-in_err-place
returns-in_err-place c = search (gone_lost _ _ _ c.loop-left.invariant c.turn-k.ensures.1 c.some.ensures c.in_err-place.was, rules)

pub loop-left-preserved : goal.loop-left-preserved
loop-left-preserved c = gone_on _ _ _ c.loop-left.invariant c.turn-k.ensures.1 c.some.ensures c.in_ok-place.was

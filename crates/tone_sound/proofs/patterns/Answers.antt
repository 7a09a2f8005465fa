-- `tone_sound::patterns` meets its contract. Each turn goes over one pattern.
use borrow.Author.Rules.{rules}
use Rattle.tone_sound.proofs.Bodies.{surely}
use Rattle.tone_sound.proofs.Rows.{counted_begins, counted_cut, counted_barred, counted_lost, counted_on, counted_done, header_within}
use Rattle.tone_sound.proofs.patterns.Goals as goal

pub loop-init : goal.loop-init
loop-init c = search (counted_begins, rules)

pub returns-in_err-header : goal.returns-in_err-header
returns-in_err-header c = search (counted_cut _ _ _ c.loop.invariant c.loop-test.true c.header.ensures c.ok.ensures.value c.in_err-header.was, rules)

pub returns-then-not-may_stand : goal.returns-then-not-may_stand
returns-then-not-may_stand c = counted_barred _ _ _ c.loop.invariant c.loop-test.true c.header.ensures c.ok.ensures.value c.in_ok-header.was c.may_stand.ensures (search rules)

pub body-requires-clause-within : goal.body-requires-clause-within
body-requires-clause-within c = header_within c.requires.counted c.loop.invariant.inside c.header.ensures c.ok.ensures.value c.in_ok-header.was

pub returns-in_err-place : goal.returns-in_err-place
returns-in_err-place c = search (counted_lost _ _ _ c.loop.invariant c.loop-test.true c.header.ensures c.ok.ensures.value c.in_ok-header.was c.body.ensures c.in_err-place.was, rules)

pub loop-preserved : goal.loop-preserved
loop-preserved c = counted_on _ _ _ c.loop.invariant c.loop-test.true c.header.ensures c.ok.ensures.value c.in_ok-header.was c.body.ensures c.may_stand.ensures (search rules) c.in_ok-place.was

pub returns : goal.returns
returns c = surely (counted_done _ _ _ c.loop.invariant c.loop-test.false)

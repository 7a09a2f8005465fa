-- `tone_sound::at_hand` meets its contract. What is left falls by four with each turn.
use Prim.Native.Nat.{◌≤◌}
use native.Mathlib.Omega.{arith}
use borrow.Author.Rules.{rules}
use Rattle.tone_sound.proofs.Bodies.{going_on, going}
use Rattle.tone_sound.proofs.at_hand.Goals as goal

pub returns-then-whole-octets_before-lt48 : goal.returns-then-whole-octets_before-lt48
returns-then-whole-octets_before-lt48 c = search (going, rules)

pub loop-left-init : goal.loop-left-init
loop-left-init c = search (going, rules)

pub loop-left-preserved : goal.loop-left-preserved
loop-left-preserved c =
    let h : 4 ≤ c.loop-left.left = omega arith in
    going_on _ _ _ c.loop-left.invariant c.octets_before-in-loop-left.ensures h c.if-whole-octets_before-lt48-2.false c.four-told.ensures c.sight_behind-first.ensures c.inner_sight.ensures

pub returns : goal.returns
returns c = search (going, rules)

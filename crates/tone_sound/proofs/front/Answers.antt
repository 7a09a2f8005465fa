-- `tone_sound::front` meets its contract.
use borrow.Author.Rules.{rules}
use Rattle.tone_sound.proofs.Fronting.{front_cut, front_none, behind_seen, front_starts}
use Rattle.tone_sound.proofs.front.Goals as goal

pub returns-then-place_after-at : goal.returns-then-place_after-at
returns-then-place_after-at c = search (front_cut, rules)

pub returns-in_err-said : goal.returns-in_err-said
returns-in_err-said c = search (front_none _ _ c.inner_sight-x.ensures c.place_after.ensures c.if-place_after-at.false c.called.ensures c.in_err-said.was, rules)

pub typed-requires-clause-sight : goal.typed-requires-clause-sight
typed-requires-clause-sight c = behind_seen _ _ c.inner_sight-x.ensures c.place_after.ensures c.if-place_after-at.false c.called.ensures c.in_ok-said.was

pub returns : goal.returns
returns c = front_starts _ _ c.inner_sight-x.ensures c.place_after.ensures c.if-place_after-at.false c.called.ensures c.in_ok-said.was c.typed.ensures

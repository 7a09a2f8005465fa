-- `tone_elements::lettered` meets its contract.
use mathlib.Core.Path.{refl}
use native.Mathlib.Omega.{arith}
use borrow.Author.Rules.{rules}
use Rattle.tone_elements.proofs.Titles.{counting_bad, counting_done, counting_more}
use Rattle.tone_elements.proofs.lettered.Goals as goal

pub returns-in_err-place : goal.returns-in_err-place
returns-in_err-place c = search (counting_bad c.loop.invariant c.loop-test.true c.character.ensures c.in_err-place.was, rules)

pub loop-preserved : goal.loop-preserved
loop-preserved c = counting_more c.loop.invariant c.loop-test.true c.character.ensures c.in_ok-place.was

pub returns : goal.returns
returns c = counting_done c.loop.invariant c.character_octets.ensures refl (omega (arith, c.loop-test.false))

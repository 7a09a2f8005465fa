-- `tone_tell::four` meets its contract.
use borrow.Author.Rules.{rules}
use Rattle.tone_tell.proofs.Packed.{four_told}
use Rattle.tone_tell.proofs.four.Goals as goal

pub returns : goal.returns
returns c = four_told c.args.x c.begin.ensures c.next.ensures.rest_value c.next-2.ensures.rest_value c.next-3.ensures.rest_value c.next-4.ensures.rest_value (search rules)

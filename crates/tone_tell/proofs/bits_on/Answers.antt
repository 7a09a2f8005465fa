-- `tone_tell::bits_on` meets its contract.
use borrow.Author.Rules.{rules}
use Rattle.tone_tell.proofs.Packed.{bits_packed}
use Rattle.tone_tell.proofs.bits_on.Goals as goal

pub returns : goal.returns
returns c = (bits_packed c.args.x (search rules), search rules)

-- `tone_write::put_title` meets its contract.
use borrow.Author.Rules.{rules}
use Rattle.tone_write.proofs.Pieces.{titles}
use Rattle.tone_write.proofs.put_title.Goals as goal

pub returns-then-song-ne1 : goal.returns-then-song-ne1
returns-then-song-ne1 c = search (titles, c.if-song-ne1.true, rules)

pub characters_in-n-requires : goal.characters_in-n-requires
characters_in-n-requires c = search (titles, rules)

pub put-s-requires : goal.put-s-requires
put-s-requires c = search (titles, rules)

pub put_octets-requires : goal.put_octets-requires
put_octets-requires c = search (titles, rules)

pub returns : goal.returns
returns c = search (titles, rules)

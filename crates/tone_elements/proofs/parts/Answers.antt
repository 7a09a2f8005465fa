-- `tone_elements::parts` meets its contract.
use borrow.Author.Rules.{rules}
use Rattle.tone_elements.proofs.Openings.{commands, parts_unicode_bad, parts_unicode}
use Rattle.tone_elements.proofs.parts.Goals as goal

pub returns-in_err-programming : goal.returns-in_err-programming
returns-in_err-programming c = search (commands, rules)

pub sound_part-requires : goal.sound_part-requires
sound_part-requires c = search (commands, rules)

pub returns-then-length-ne3 : goal.returns-then-length-ne3
returns-then-length-ne3 c = search (commands, rules)

pub filled_part-requires-2 : goal.filled_part-requires-2
filled_part-requires-2 c = search (commands, rules)

pub returns-in_err-unicode : goal.returns-in_err-unicode
returns-in_err-unicode c =
    search (parts_unicode_bad c.args.msg.now c.args.at.0 c.args.length c.filled_part.ensures c.in_ok-programming.was c.if-length-ne3.false c.filled_part-2.ensures c.in_err-unicode.was, rules)

pub sound_part-requires-2 : goal.sound_part-requires-2
sound_part-requires-2 c = search (commands, rules)

pub returns : goal.returns
returns c =
    parts_unicode c.args.msg.now c.args.at.0 c.args.length c.filled_part.ensures c.in_ok-programming.was c.if-length-ne3.false c.filled_part-2.ensures c.in_ok-unicode.was c.sound_part-2.ensures

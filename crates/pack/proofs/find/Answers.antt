-- `pack::find` meets its contract.
use borrow.Author.Rules.{rules}
use Rattle.std.proofs.lemmas.Result.{err_from_is_err_and}
use Rattle.pack.proofs.Exits.{findings}
use Rattle.pack.proofs.find.Goals as goal

pub returns-in_err-sound : goal.returns-in_err-sound
returns-in_err-sound c = let p = err_from_is_err_and c.from_residual.result c.from_residual.ensures.1 in rw (p.1, p.2) (search (findings, c.in_err-sound.was, rules))

pub returns-then-sound-n : goal.returns-then-sound-n
returns-then-sound-n c = search (findings, c.in_ok-sound.was, rules)

pub number_at-requires : goal.number_at-requires
number_at-requires c = search (findings, c.in_ok-sound.was, rules)

pub number_at-requires-2 : goal.number_at-requires-2
number_at-requires-2 c = search (findings, c.in_ok-sound.was, rules)

pub returns : goal.returns
returns c = search (findings, c.in_ok-sound.was, rules)

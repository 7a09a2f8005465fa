-- `pack::read` meets its contract.
use borrow.Author.Rules.{rules}
use Rattle.std.proofs.lemmas.Result.{err_from_is_err_and}
use Rattle.pack.proofs.Exits.{findings}
use Rattle.pack.proofs.read.Goals as goal

pub returns-in_err-sound : goal.returns-in_err-sound
returns-in_err-sound c = let p = err_from_is_err_and c.from_residual.result c.from_residual.ensures.1 in rw (p.1, p.2) (search (findings, c.in_err-sound.was, rules))

pub overflow_cast-result : goal.overflow_cast-result
overflow_cast-result c = search (findings, c.in_ok-sound.was, rules)

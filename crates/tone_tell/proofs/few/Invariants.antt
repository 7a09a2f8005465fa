-- `tone_tell::few` meets its contract.
use Rattle.std.specs.Prelude.{◌-◌}
use Rattle.tone_tell.proofs.Counting.{Counted}
use Rattle.tone_tell.proofs.few.Given as goal

abbrev pub invariant-loop : goal.invariant-loop
invariant-loop l = Counted l.n l.x l.told (l.n - l.counter)

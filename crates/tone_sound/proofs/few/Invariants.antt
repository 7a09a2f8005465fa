-- `tone_sound::few` meets its contract. Those to be told are fewer with each turn.
use Rattle.std.specs.Prelude.{◌-◌}
use Rattle.tone_sound.proofs.Running.{Run}
use Rattle.tone_sound.proofs.few.Given as goal

abbrev pub invariant-loop : goal.invariant-loop
invariant-loop l = Run l.n l.x l.met l.told (l.n - l.counter)

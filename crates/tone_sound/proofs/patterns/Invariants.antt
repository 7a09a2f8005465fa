-- `tone_sound::patterns` meets its contract. Each turn goes over one pattern.
use Rattle.std.specs.Prelude.{◌-◌}
use Rattle.tone_sound.proofs.Rows.{Row}
use Rattle.tone_sound.proofs.patterns.Given as goal

abbrev pub invariant-loop : goal.invariant-loop
invariant-loop l = Row l.whole l.initial.place.0 l.n l.known l.place.0 (l.n - l.counter)

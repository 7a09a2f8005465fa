-- How long notes sound, computed by the rules.
use mathlib.Core.Path.{refl}
use Rattle.list_rules.specs.Duration.{beats, units, microseconds}
use Rattle.list_rules.specs.Samples.{Durations}

pub durations : Durations
unfolding beats units microseconds
durations = record { tempos = refl; quarters = refl; lengths = refl }

-- `tone_elements::lettered` meets its contract. What is left to read falls with each turn.
use Rattle.std.specs.Prelude.{◌-◌}
use Rattle.tone_elements.proofs.Titles.{TextWalk}
use Rattle.tone_elements.proofs.lettered.Given as goal

abbrev pub invariant-loop : goal.invariant-loop
invariant-loop l = TextWalk l.msg l.unicode l.n l.initial.place.0 l.place.0 (l.n - l.counter)

-- `tone_elements::singly` meets its contract. What is left to read falls with each turn.
use Rattle.std.specs.Prelude.{◌-◌}
use Rattle.tone_elements.proofs.Walks.{BodyWalk, counted_on}
use Rattle.tone_elements.proofs.singly.Given as goal

abbrev pub invariant-loop : goal.invariant-loop
invariant-loop l = BodyWalk l.msg (counted_on l.msg l.n l.initial.place.0 l.c) l.place.0 (l.n - l.counter) l.notes

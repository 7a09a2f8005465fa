-- `list_fill::fill_passes` meets its contract. What is left to play falls with each turn.
use Prim.Native.Nat.{◌-◌}
use Rattle.list_fill.specs.Filling.{state_of}
use Rattle.list_fill.proofs.Walking.{TimesWalk}
use Rattle.list_fill.proofs.fill_passes.Given as goal

abbrev pub invariant-loop : goal.invariant-loop
invariant-loop l = TimesWalk l.msg l.body.at l.body.count l.value (state_of l.initial.walk) l.initial.walk.cells l.initial.list l.list l.walk (l.times - l.counter)

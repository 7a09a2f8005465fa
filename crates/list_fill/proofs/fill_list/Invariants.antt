-- `list_fill::fill_list` meets its contract. What is left to play falls with each turn.
use Prim.Native.Nat.{◌-◌}
use Rattle.list_fill.specs.Filling.{patterns_in}
use Rattle.list_fill.proofs.Fillings.{ListWalk}
use Rattle.list_fill.proofs.fill_list.Given as goal

abbrev pub invariant-loop : goal.invariant-loop
invariant-loop l = ListWalk l.msg (patterns_in l.msg l.initial.place.0 l.n) l.initial.list l.list l.parts l.place.0 l.walk (l.n - l.counter)

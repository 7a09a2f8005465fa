-- `list_fill::fill_few` meets its contract. What is left to play falls with each turn.
use Prim.Native.Nat.{◌-◌}
use Rattle.list_fill.specs.Filling.{state_of}
use Rattle.tone_elements.specs.Standing.{body_in, behind_in}
use Rattle.list_fill.proofs.Walking.{FewWalk}
use Rattle.list_fill.proofs.fill_few.Given as goal

abbrev pub invariant-loop : goal.invariant-loop
invariant-loop l = FewWalk l.msg (state_of l.initial.walk) (body_in l.msg l.at.0 l.n) l.at.0 l.initial.walk.cells (behind_in l.msg l.at.0 l.n) l.initial.list l.list l.walk (l.n - l.counter)

-- `list_fill::fill_pass` meets its contract. What is left to play falls with each turn.
use Rattle.list_fill.specs.Filling.{state_of}
use Rattle.tone_elements.specs.Standing.{body_in, behind_in}
use Rattle.list_fill.proofs.Walking.{PassWalk}
use Rattle.list_fill.proofs.fill_pass.Given as goal

abbrev pub invariant-loop-left : goal.invariant-loop-left
invariant-loop-left l = PassWalk l.msg (state_of l.initial.walk) (body_in l.msg l.initial.walk.at.0 l.n) l.initial.walk.cells (behind_in l.msg l.initial.walk.at.0 l.n) l.initial.list l.list l.walk l.left

abbrev pub decreases-loop-left : goal.decreases-loop-left
decreases-loop-left l = l.left

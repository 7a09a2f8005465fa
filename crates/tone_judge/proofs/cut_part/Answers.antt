-- `tone_judge::cut_part` meets its contract.
use native.Mathlib.Omega.{arith}
use Rattle.tone_judge.proofs.Cuts.{cut_against, cut_position, cut_ahead, cut_taken, cut_most, cut_least, cut_done}
use Rattle.tone_judge.proofs.cut_part.Goals as goal

pub returns-then-is_err : goal.returns-then-is_err
returns-then-is_err c = let a = c.args in cut_against a.wish a.header a.cell c.requires c.ground.ensures c.is_err.ensures.value c.if-is_err.true

pub overflow_cast-i : goal.overflow_cast-i
overflow_cast-i c =
    let a = c.args in
    record { fits = omega (arith, cut_position a.wish a.header a.cell c.requires c.ground.ensures c.is_err.ensures.value c.if-is_err.false) }

pub go_over-ahead-requires : goal.go_over-ahead-requires
go_over-ahead-requires c =
    let a = c.args in
    cut_ahead a.wish a.header a.cell c.requires c.ground.ensures c.is_err.ensures.value c.if-is_err.false

pub go_over-taken-requires : goal.go_over-taken-requires
go_over-taken-requires c =
    let a = c.args in
    cut_taken a.wish a.header a.cell c.requires c.ground.ensures c.is_err.ensures.value c.if-is_err.false c.go_over-ahead.ensures c.removed.ensures

pub overflow_add-result : goal.overflow_add-result
overflow_add-result c =
    let a = c.args in
    record { fits = omega (arith, cut_most a.wish a.header a.cell c.requires c.ground.ensures c.is_err.ensures.value c.if-is_err.false c.go_over-ahead.ensures c.removed.ensures c.go_over-taken.ensures c.carried_notes.ensures) }

pub overflow_sub-result : goal.overflow_sub-result
overflow_sub-result c =
    let a = c.args in
    cut_least a.wish a.header a.cell c.requires c.ground.ensures c.is_err.ensures.value c.if-is_err.false c.go_over-ahead.ensures c.removed.ensures c.go_over-taken.ensures c.carried_notes.ensures

pub returns : goal.returns
returns c =
    let a = c.args in
    cut_done a.wish a.header a.cell c.requires c.ground.ensures c.is_err.ensures.value c.if-is_err.false c.go_over-ahead.ensures c.removed.ensures c.go_over-taken.ensures c.carried_notes.ensures

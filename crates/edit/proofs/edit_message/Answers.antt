-- `edit::edit_message` meets its contract.
use mathlib.Core.Path.{sym}
use lib.Seq.{length-take-le}
use borrow.Author.Rules.{rules}
use Rattle.edit.proofs.Finishing.{edit_beyond, edit_halt, edit_laid, edit_done}
use Rattle.edit.proofs.edit_message.Goals as goal

pub returns-then-buf-old : goal.returns-then-buf-old
returns-then-buf-old c =
    let a = c.args in
    edit_beyond a.buf.now a.list.now a.used.0 a.edit a.pattern a.instruction c.into.ensures c.if-buf-old.true

pub slice_bounds-plan_edit-end-2 : goal.slice_bounds-plan_edit-end-2
slice_bounds-plan_edit-end-2 c =
    let a = c.args in
    sym (length-take-le a.used.0 a.buf.now c.if-buf-old.false)

pub returns-in_err-layout : goal.returns-in_err-layout
returns-in_err-layout c =
    let a = c.args in
    search (edit_halt a.buf.now a.list.now a.used.0 a.edit a.pattern a.instruction c.if-buf-old.false c.plan_edit.ensures c.in_err-layout.was, rules)

pub carry_out-requires : goal.carry_out-requires
carry_out-requires c =
    let a = c.args in
    edit_laid a.buf.now a.list.now a.used.0 a.edit a.pattern a.instruction c.if-buf-old.false c.plan_edit.ensures c.in_ok-layout.was

pub returns : goal.returns
returns c =
    let a = c.args in
    edit_done a.buf.now a.list.now a.used.0 a.edit a.pattern a.instruction c.if-buf-old.false c.plan_edit.ensures c.in_ok-layout.was c.carry_out.ensures

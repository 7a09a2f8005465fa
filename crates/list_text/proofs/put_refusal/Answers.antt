-- `list_text::put_refusal` meets its contract.
use native.Mathlib.Omega.{arith}
use mathlib.Core.Path.{sym}
use Rattle.list_text.proofs.Texts.{refusal_put}
use Rattle.list_text.proofs.put_refusal.Goals as goal

pub returns : goal.returns
returns c =
    let a = c.args in
    let w = c.put_number.ensures in
    let v = c.put_text-at-2.ensures in
    let u = c.put_number-at.ensures in
    let t = c.put_text-at.ensures in
    record {
      added = rw (sym c.number.ensures) (refusal_put a.out.now c.number.result a.refused.place.0 t.added u.added v.added w.added);
      result_bound = omega (arith, t.result_value, u.result_bound, v.result_value, w.result_bound);
    }

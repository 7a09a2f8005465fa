-- `list_text::put_opening` meets its contract.
use native.Mathlib.Omega.{arith}
use Rattle.list_text.proofs.Texts.{opening_put}
use Rattle.list_text.proofs.put_opening.Goals as goal

pub returns : goal.returns
returns c =
    let a = c.args in
    let w = c.put_mark.ensures in
    let v = c.put_text-at-2.ensures in
    let u = c.put_number-at.ensures in
    let t = c.put_text-at.ensures in
    record {
      added = opening_put a.out.now a.entries a.mark t.added u.added v.added w.added;
      result_bound = omega (arith, t.result_value, u.result_bound, v.result_value, w.result_bound);
    }

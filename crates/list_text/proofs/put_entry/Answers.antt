-- `list_text::put_entry` meets its contract: seven numbers are a line.
use native.Mathlib.Omega.{arith}
use Rattle.list_text.proofs.Texts.{line_put}
use Rattle.list_text.proofs.put_entry.Goals as goal

pub put_number-requires : goal.put_number-requires
put_number-requires c =
    omega (
      arith,
      c.put_number-at.ensures.added.long,
      c.put_number-at.ensures.result_bound,
      c.put_number-at-2.ensures.added.long,
      c.put_number-at-2.ensures.result_bound,
      c.put_number-at-3.ensures.added.long,
      c.put_number-at-3.ensures.result_bound,
      c.put_number-at-4.ensures.added.long,
      c.put_number-at-4.ensures.result_bound,
      c.put_number-at-5.ensures.added.long,
      c.put_number-at-5.ensures.result_bound,
      c.put_number-at-6.ensures.added.long,
      c.put_number-at-6.ensures.result_bound,
    )

pub returns : goal.returns
returns c =
    let a = c.args in
    let line = line_put a.out.now a.at.0 a.entry (c.put_number-at.ensures.added, c.put_number-at.ensures.result_bound) (c.put_number-at-2.ensures.added, c.put_number-at-2.ensures.result_bound) (c.put_number-at-3.ensures.added, c.put_number-at-3.ensures.result_bound) (c.put_number-at-4.ensures.added, c.put_number-at-4.ensures.result_bound) (c.put_number-at-5.ensures.added, c.put_number-at-5.ensures.result_bound) (c.put_number-at-6.ensures.added, c.put_number-at-6.ensures.result_bound) (c.put_number.ensures.added, c.put_number.ensures.result_bound) in
    record { added = line.0; result_bound = line.1 }

pub shape_of-out : goal.shape_of-out
shape_of-out c = (returns c).added.long

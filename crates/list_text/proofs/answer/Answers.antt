-- `list_text::answer` meets its contract.
use borrow.Author.Rules.{rules}
use native.Mathlib.Omega.{arith}
use Rattle.list_text.proofs.Answering.{made_fits, made_text, refused_small, refused_text}
use Rattle.list_text.proofs.answer.Goals as goal

pub put_entries-requires : goal.put_entries-requires
put_entries-requires c =
    let f = made_fits c.args.msg.now c.args.list.now c.list.ensures c.in-Ok.is in
    let o = c.put_opening-at.ensures in
    search (rules, f, o.result_bound, o.added.long)

pub put_refusal-requires : goal.put_refusal-requires
put_refusal-requires c =
    record {
      in_bounds = search rules;
      place_bound = refused_small c.args.msg.now c.args.list.now c.list.ensures c.in-Err.is;
    }

pub returns-in-Ok : goal.returns-in-Ok
returns-in-Ok c =
    let q = c.list.ensures in
    let e = c.in-Ok.is in
    let t = c.put_opening-at.ensures in
    let u = c.put_entries.ensures in
    record {
      added = made_text c.args.msg.now c.args.list.now c.args.text.now q e t.added u.added;
      result_in_bounds = u.result_in_bounds;
    }

pub returns-in-Err : goal.returns-in-Err
returns-in-Err c =
    let q = c.list.ensures in
    let e = c.in-Err.is in
    let t = c.put_refusal.ensures in
    record {
      added = refused_text c.args.msg.now c.args.list.now c.args.text.now q e t.added;
      result_in_bounds = omega (arith, t.result_bound, t.added.long, c.requires);
    }

-- `tone_write::save` meets its contract.
use borrow.Author.Rules.{rules}
use Rattle.std.proofs.lemmas.Result.{err_from_is_err_and}
use Rattle.tone_write.proofs.Told.{savings, save_faulty, save_accepted}
use Rattle.tone_write.proofs.save.Goals as goal

pub returns-in_err-judged : goal.returns-in_err-judged
returns-in_err-judged c =
    let a = c.args in
    let f = err_from_is_err_and c.from_residual.result c.from_residual.ensures.1 in
    rw f.1 (save_faulty a.song a.unicode a.title.now a.table.now a.out.now c.requires.0 c.requires.1 c.requires.2 c.judge.ensures c.in_err-judged.was f.2)

pub overflow_add-end : goal.overflow_add-end
overflow_add-end c = search (savings, c.in_ok-judged.was, rules)

pub octets_to-octets-requires : goal.octets_to-octets-requires
octets_to-octets-requires c = search (savings, c.in_ok-judged.was, rules)

pub returns-then-octets-gt4096 : goal.returns-then-octets-gt4096
returns-then-octets-gt4096 c = search (savings, c.in_ok-judged.was, rules)

pub returns-then-out-octets : goal.returns-then-out-octets
returns-then-out-octets c = search (savings, c.in_ok-judged.was, rules)

pub fill-requires-clause-out_value : goal.fill-requires-clause-out_value
fill-requires-clause-out_value c =
    let a = c.args in
    save_accepted a.song a.unicode a.title.now a.table.now a.out.now c.requires.0 c.requires.1 c.requires.2 c.judge.ensures c.in_ok-judged.was c.front_end-front.ensures c.octets_to-octets.ensures c.if-octets-gt4096.false c.if-out-octets.false

pub returns : goal.returns
returns c = search (savings, c.in_ok-judged.was, rules)

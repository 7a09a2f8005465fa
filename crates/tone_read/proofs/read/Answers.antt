-- `tone_read::read` meets its contract.
use borrow.Author.Rules.{rules}
use Rattle.tone_read.proofs.Told.{read_faulty, read_place, read_small, read_within, read_title_within, read_title_count, read_title_at, read_title_octets, read_table_entries, read_table_at, read_done}
use Rattle.tone_read.proofs.read.Goals as goal

pub returns-in_err-judged : goal.returns-in_err-judged
returns-in_err-judged c = search (read_faulty c.args.msg.now c.args.table.now c.args.title.now c.judge.ensures c.in_err-judged.was, rules)

pub characters_in-characters-requires : goal.characters_in-characters-requires
characters_in-characters-requires c = read_small c.args.msg.now c.args.table.now c.args.title.now c.judge.ensures c.in_ok-judged.was

pub title_place-requires : goal.title_place-requires
title_place-requires c =
    let q = c.judge.ensures in
    let g = c.in_ok-judged.was in
    (read_place c.args.msg.now c.args.table.now c.args.title.now q g, read_small c.args.msg.now c.args.table.now c.args.title.now q g)

pub fill_title-requires-clause-within : goal.fill_title-requires-clause-within
fill_title-requires-clause-within c =
    let q = c.judge.ensures in
    let g = c.in_ok-judged.was in
    let d = c.title_place.result.0 in (
      read_title_within c.args.msg.now c.args.table.now c.args.title.now q g c.title_place.ensures,
      read_title_count c.args.msg.now c.args.table.now c.args.title.now q g d c.title_place.ensures,
    )

pub fill_title-requires-clause-octets_in_bounds : goal.fill_title-requires-clause-octets_in_bounds
fill_title-requires-clause-octets_in_bounds c =
    let q = c.judge.ensures in
    let g = c.in_ok-judged.was in (
      c.if-title-octets.false,
      read_title_octets c.args.msg.now c.args.table.now c.args.title.now q g,
      read_title_at c.args.msg.now c.args.table.now c.args.title.now q g c.title_place.ensures,
    )

pub fill_table-requires-clause-within : goal.fill_table-requires-clause-within
fill_table-requires-clause-within c = read_within c.args.msg.now c.args.table.now c.args.title.now c.judge.ensures c.in_ok-judged.was

pub fill_table-requires-clause-n_in_bounds : goal.fill_table-requires-clause-n_in_bounds
fill_table-requires-clause-n_in_bounds c =
    let q = c.judge.ensures in
    let g = c.in_ok-judged.was in (
      c.if-table-entries.false,
      read_table_entries c.args.msg.now c.args.table.now c.args.title.now q g,
      read_table_at c.args.msg.now c.args.table.now c.args.title.now q g,
    )

pub returns : goal.returns
returns c =
    read_done c.args.msg.now c.args.table.now c.args.title.now c.judge.ensures c.in_ok-judged.was c.if-title-octets.false c.if-table-entries.false c.fill_title.ensures c.fill_table.ensures c.characters_in-characters.ensures

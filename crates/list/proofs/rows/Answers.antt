-- `list::rows` meets its contract. The rows are filled from the cells.
use Rattle.list.proofs.Agreeing.{rows_fit, rows_made}
use Rattle.list.proofs.rows.Goals as goal

pub fill_rows-requires : goal.fill_rows-requires
fill_rows-requires c = rows_fit c.args.msg.now c.args.list.now c.args.rows.now c.list_within.ensures c.in_ok-listed.was

pub returns : goal.returns
returns c = rows_made c.args.msg.now c.args.list.now c.args.rows.now c.list_within.ensures c.in_ok-listed.was c.fill_rows.ensures

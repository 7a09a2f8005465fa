-- `ohakelm::ohakelm_bitmap_read` meets its contract.
use Rattle.ohakelm.proofs.Exits.{bitmap_refused, bitmap_read}
use Rattle.ohakelm.proofs.ohakelm_bitmap_read.Goals as goal

pub returns-in-Ok : goal.returns-in-Ok
returns-in-Ok c = bitmap_read c.args.msg c.read.ensures c.in-Ok.is c.image.ensures

pub returns-in-Err : goal.returns-in-Err
returns-in-Err c = bitmap_refused c.args.msg c.read.ensures c.in-Err.is c.number.ensures

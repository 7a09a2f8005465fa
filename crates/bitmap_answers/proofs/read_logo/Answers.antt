-- `bitmap_answers::read_logo` meets its contract.
use Rattle.bitmap_answers.proofs.Exits.{logo_told}
use Rattle.bitmap_answers.proofs.read_logo.Goals as goal

pub returns : goal.returns
returns c = logo_told c.args.msg.now c.read.ensures c.into.ensures

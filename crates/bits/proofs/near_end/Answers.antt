-- `bits::near_end` meets its contract.
use Rattle.bits.proofs.Looking.{window_is}
use Rattle.bits.proofs.near_end.Goals as goal

pub returns : goal.returns
returns c = search window_is

-- `bits::word` meets its contract.
use Rattle.bits.proofs.Looking.{word_is}
use Rattle.bits.proofs.word.Goals as goal

pub returns : goal.returns
returns c = search word_is

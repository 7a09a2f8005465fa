-- `salvage::front` meets its contract.
use Rattle.salvage.proofs.Reaching.{front_told, front_fits}
use Rattle.salvage.proofs.front.Goals as goal

pub overflow_mul-result : goal.overflow_mul-result
overflow_mul-result c = front_fits c.args.one c.args.two

pub returns : goal.returns
returns c = front_told c.args.one c.args.two

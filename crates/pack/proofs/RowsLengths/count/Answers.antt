-- `pack::Rows::count` meets its contract.
use Rattle.pack.proofs.Nth.{lengths_many}
use Rattle.pack.proofs.RowsLengths.count.Goals as goal

pub returns : goal.returns
returns c = lengths_many c.args.self.now.pack.now c.args.self.now.from.0 c.args.self.now.count

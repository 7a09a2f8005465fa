-- `pack::message` meets its contract.
use borrow.Author.Rules.{rules}
use Rattle.pack.proofs.Exits.{handings}
use Rattle.pack.proofs.message.Goals as goal

pub overflow_add-to : goal.overflow_add-to
overflow_add-to c = search (handings, rules)

pub slice_bounds-result-end-in-Ok : goal.slice_bounds-result-end-in-Ok
slice_bounds-result-end-in-Ok c = search (handings, rules)

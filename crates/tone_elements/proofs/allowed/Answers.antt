-- `tone_elements::allowed` meets its contract.
use Rattle.bits.proofs.Choice.{tests}
use Rattle.tone.specs.Table.{allowed}
use Rattle.tone_elements.proofs.allowed.Goals as goal

pub returns-then-payload-le12 : goal.returns-then-payload-le12
unfolding allowed
returns-then-payload-le12 c = search tests

pub returns-then-kind-eq1 : goal.returns-then-kind-eq1
unfolding allowed
returns-then-kind-eq1 c = search tests

pub returns-then-kind-eq3 : goal.returns-then-kind-eq3
unfolding allowed
returns-then-kind-eq3 c = search tests

pub returns : goal.returns
unfolding allowed
returns c = search tests

-- `Settings::applied` meets its contract: the tests of the code are those of the rule.
use Rattle.bits.proofs.Choice.{tests}
use Rattle.list_rules.specs.Sounding.{applied}
use Rattle.list_rules.proofs.Settings.applied.Goals as goal

pub returns-then-kind-eq2 : goal.returns-then-kind-eq2
unfolding applied
returns-then-kind-eq2 c = search tests

pub returns-then-kind-eq3 : goal.returns-then-kind-eq3
unfolding applied
returns-then-kind-eq3 c = search tests

pub returns-then-kind-eq4 : goal.returns-then-kind-eq4
unfolding applied
returns-then-kind-eq4 c = search tests

pub returns-then-kind-eq5 : goal.returns-then-kind-eq5
unfolding applied
returns-then-kind-eq5 c = search tests

pub returns : goal.returns
unfolding applied
returns c = search tests

-- `tone_elements::all_allowed` meets its contract.
use borrow.Author.Rules.{rules}
use Rattle.tone_elements.proofs.Titles.{alls}
use Rattle.tone_elements.proofs.all_allowed.Goals as goal

pub returns-then-n-eq0 : goal.returns-then-n-eq0
returns-then-n-eq0 c = search (alls, rules)

pub returns-then-left-all : goal.returns-then-left-all
returns-then-left-all c = search (alls, rules)

pub few_allowed-requires : goal.few_allowed-requires
few_allowed-requires c =
    record {
      within = search (alls, rules);
      n_bound = search (alls, rules);
    }

-- `tone_write::put_front` meets its contract.
use borrow.Author.Rules.{rules}
use Rattle.tone_write.proofs.Filling.{fronts}
use Rattle.tone_write.proofs.put_front.Goals as goal

pub put_command-s-requires : goal.put_command-s-requires
put_command-s-requires c =
    record {
      song_bound = search (fronts, rules);
      song_bound_2 = search (fronts, rules);
    }

pub put_title-t-requires : goal.put_title-t-requires
put_title-t-requires c =
    record {
      title_bound = search (fronts, rules);
      title_bound_2 = search (fronts, rules);
    }

pub put-requires : goal.put-requires
put-requires c = (search rules, search rules, search fronts)

pub returns : goal.returns
returns c = search (fronts, rules)

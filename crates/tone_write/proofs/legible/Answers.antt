-- `tone_write::legible` meets its contract.
use borrow.Author.Rules.{rules}
use Rattle.tone_write.proofs.Told.{legible_within, legible_is}
use Rattle.tone_write.proofs.legible.Goals as goal

pub all_allowed-requires : goal.all_allowed-requires
all_allowed-requires c =
    record {
      within = search (legible_within c.args.unicode c.args.title.now c.args.n c.requires, rules);
      n_bound = search (legible_within c.args.unicode c.args.title.now c.args.n c.requires, rules);
    }

pub returns : goal.returns
returns c = legible_is c.args.unicode c.args.title.now c.args.n c.requires c.type_inv.title c.all_allowed.ensures

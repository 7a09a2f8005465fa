-- `tone_tell::next` meets its contract.
use borrow.Author.Rules.{rules}
use Rattle.tone_tell.proofs.Packed.{taken_away}
use Rattle.tone_tell.proofs.next.Goals as goal

pub returns : goal.returns
returns c =
    record {
      rest_value = (taken_away c.args.t.rest c.bits_on-w.ensures.0, search rules, search rules, search rules);
      bits_bound = search rules;
    }

-- `tone_sound::next` meets its contract.
use borrow.Author.Rules.{rules}
use Rattle.tone_sound.proofs.Marking.{next_marks, next_mark, next_bits}
use Rattle.tone_sound.proofs.next.Goals as goal

pub returns : goal.returns
returns c =
    record {
      bits_value = search (next_marks, next_bits, rules);
      widths_bound_2 = (search rules, search (next_mark, rules));
    }

-- `tone_sound::four` meets its contract.
use Rattle.tone_sound.proofs.Running.{four_run}
use Rattle.tone_sound.proofs.four.Goals as goal

pub returns : goal.returns
returns c =
    four_run c.args.x c.args.met c.requires c.begin.ensures c.next.ensures.bits_value c.next.ensures.widths_bound_2 c.next-2.ensures.bits_value c.next-2.ensures.widths_bound_2 c.next-3.ensures.bits_value c.next-3.ensures.widths_bound_2 c.next-4.ensures.bits_value c.next-4.ensures.widths_bound_2

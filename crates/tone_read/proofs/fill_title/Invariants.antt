-- `tone_read::fill_title` meets its contract. Each turn takes up one octet.
use Rattle.tone_read.specs.Judging.{title_of}
use Rattle.tone_read.proofs.Filling.{TitleFill}
use Rattle.tone_read.proofs.fill_title.Given as goal

abbrev pub invariant-loop-i : goal.invariant-loop-i
invariant-loop-i l = TitleFill l.msg (title_of l.msg) l.i-end l.initial.title l.title l.place.0 l.i

-- `tone_sound::few` meets its contract.
use borrow.Author.Rules.{rules}
use Rattle.tone_sound.proofs.Running.{running}
use Rattle.tone_sound.proofs.few.Goals as goal

pub loop-preserved : goal.loop-preserved
loop-preserved c = search (running, rules)

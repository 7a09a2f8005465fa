-- `tone_sound::body` meets its contract.
use Rattle.tone_sound.proofs.Bodies.{rest_within, rest_few, rest_past}
use Rattle.tone_sound.proofs.body.Goals as goal

pub by_fours-requires-clause-within : goal.by_fours-requires-clause-within
by_fours-requires-clause-within c = rest_within _ _ _ c.at_hand.ensures c.in_ok-way.was c.requires.within

pub by_fours-requires-clause-n_bound : goal.by_fours-requires-clause-n_bound
by_fours-requires-clause-n_bound c = rest_few _ _ _ c.at_hand.ensures c.in_ok-way.was c.requires.n_bound

pub returns : goal.returns
returns c = rest_past _ _ _ c.at_hand.ensures c.in_ok-way.was c.by_fours.ensures

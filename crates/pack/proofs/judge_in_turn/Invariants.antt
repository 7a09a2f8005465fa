-- `pack::judge_in_turn` meets its contract.
use Rattle.pack.proofs.Turning.{AlongLengths}
use Rattle.pack.proofs.judge_in_turn.Given as goal

abbrev pub invariant-loop-i : goal.invariant-loop-i
invariant-loop-i g l = AlongLengths l.octets (g.L.Lengths.lengths l.lengths) l.at l.i

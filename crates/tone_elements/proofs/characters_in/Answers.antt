-- `tone_elements::characters_in` meets its contract.
use Prim.Native.Nat.{ℕ, ◌/◌}
use mathlib.Core.Path.{ap}
use Rattle.tone_elements.proofs.characters_in.Goals as goal

pub returns : goal.returns
returns c = ap (λ (k : ℕ). c.args.octets.0 / k) c.character_octets.ensures.0

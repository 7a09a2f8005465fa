-- A span in which nothing restarts.
use Prim.Native.Nat.{ℕ}
use mathlib.Core.Path.{◌≡◌}
use mathlib.Core.List.{List, [], ◌∷◌}
use Rattle.tone.specs.Table.{kind}

-- no tempo instruction: nothing restarts in it
abbrev pub Steady : List ℕ → Type 0
Steady [] = Unit {0}
Steady (e ∷ b) = (kind e ≡ 4 → ⊥) × Steady b

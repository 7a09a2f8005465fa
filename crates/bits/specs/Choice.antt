-- The one branching form of the rules.
use Rattle.std.specs.Prelude.{Bool, true, false}

-- a where the test holds, b where it does not
abbrev pub pick {ℓ} : {A : Type ℓ} → Bool → A → A → A
pick true a b = a
pick false a b = b

-- A lent buffer after a call.
use Rattle.std.specs.Prelude.{List, ◌++◌, length, drop}

-- what was written stands first, and the rest is as it was
abbrev pub over {ℓ} : {A : Type ℓ} → List A → List A → List A
over new old = new ++ drop (length new) old

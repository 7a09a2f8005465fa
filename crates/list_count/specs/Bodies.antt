-- Passes, and the bodies that recalls sound.
use Rattle.std.specs.Prelude.{ℕ, ◌+◌, Bool, List, [], ◌∷◌, length, get_or, set, eqb}
use Rattle.bits.specs.Choice.{pick}
use Rattle.tone.specs.Tone.{Pattern}

-- how many passes a loop value lists: loop n sounds n + 1 times, loop 15 for ever, and two passes of it are listed
unfoldable pub passes_of : ℕ → ℕ
passes_of loop = pick (eqb loop 15) 2 (loop + 1)

-- the return mark where there is none
abbrev pub no_mark : ℕ
no_mark = 4294967295

-- ---- the four bodies

-- a part's body, known or not yet defined
pub data Remembered : Type 0 where
  unknown : Remembered
  known : List ℕ → Remembered

-- at the start none is defined
abbrev pub no_bodies : List Remembered
no_bodies = unknown ∷ unknown ∷ unknown ∷ unknown ∷ []

-- the instructions of a remembered body
abbrev pub recalled : Remembered → List ℕ
recalled unknown = []
recalled (known b) = b

-- a pattern with no instructions of its own is a recall
abbrev pub is_recall : Pattern → Bool
is_recall p = eqb (length p.body) 0

-- the body that sounds: a recall's is that of the nearest earlier definition of its id
unfoldable pub body_of : List Remembered → Pattern → List ℕ
body_of bodies p = pick (is_recall p) (recalled (get_or bodies p.id unknown)) p.body

-- a definition replaces the body of its id
unfoldable pub remember : List Remembered → Pattern → List Remembered
remember bodies p = pick (is_recall p) bodies (set bodies p.id (known p.body))

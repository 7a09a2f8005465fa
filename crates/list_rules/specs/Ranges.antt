-- The bounds of settings, of the fraction and of entries.
use Rattle.std.specs.Prelude.{◌≤◌, ◌<◌, List, [], ◌∷◌}
use Rattle.list_rules.specs.declared.Settings.{Settings}
use Rattle.list_rules.specs.declared.Entry.{Entry}
use Rattle.list_rules.specs.Sounding.{State, beats_at}

-- settings that the codes of the instruction table make
pub record InRange (s : Settings) : Type 0 where
  pub scale : s.scale ≤ 3
  pub style : s.style ≤ 2
  pub tempo : s.tempo ≤ 31
  pub volume : s.volume ≤ 15

-- a state that they make: the fraction is below the beats
pub record InTime (s : State) : Type 0 where
  pub range : InRange s.settings
  pub below : s.fraction < beats_at s

-- an entry of a tone that document 01 allows
pub record Bounded (r : Entry) : Type 0 where
  pub note : r.note ≤ 12
  pub scale : r.scale ≤ 3
  pub style : r.style ≤ 2
  pub volume : r.volume ≤ 15
  pub microseconds : r.microseconds ≤ 16800000
  pub header : r.header ≤ 254
  pub position : r.position ≤ 254

-- each entry is
abbrev pub AllBounded : List Entry → Type 0
AllBounded [] = Unit {0}
AllBounded (r ∷ rs) = Bounded r × AllBounded rs

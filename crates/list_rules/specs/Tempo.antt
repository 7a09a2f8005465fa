-- What a tempo and the settings come to, told once for many notes.
use Rattle.std.specs.Prelude.{ℕ, ◌+◌, ◌*◌, ◌/◌, ◌≤◌, ◌<◌, ◌≡◌}
use Rattle.list_rules.specs.declared.Settings.{Settings}

-- one over so many beats, in parts of which 2 ^ 39 make one, rounded up
abbrev pub inverse_of : ℕ → ℕ
inverse_of b = 549755813888 / b + 1

-- the beats of a tempo with one over them, and a fraction below them
pub record Timed (fraction b k : ℕ) : Type 0 where
  pub slowest : 25 ≤ b
  pub fastest : b ≤ 900
  pub below : fraction < b
  pub inverse : k ≡ inverse_of b

-- what the settings put in an entry's first number
abbrev pub base_of : Settings → ℕ
base_of s = s.scale * 256 + s.style * 16 + s.volume

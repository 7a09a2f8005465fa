-- When a boundary is on time.
use Prim.Native.Nat.{ℕ, ◌+◌, ◌*◌, ◌≤◌, ◌<◌}

-- a boundary of so many units is never late, and less than one microsecond early
pub record OnTime (b at u : ℕ) : Type 0 where
  pub never_late : at * b ≤ u * 625000
  pub less_than_one_early : u * 625000 < (at + 1) * b

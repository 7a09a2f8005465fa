-- The octets of the largest bitmap of each kind.
use Prim.Native.Nat.{ℕ}
use Rattle.bitmap_ahead.specs.declared.Kind.{Kind}
use Rattle.bitmap_ahead.specs.declared.Kind.TheVariants.{Plain, Icon, Logo}

-- the octets of the largest of a kind: a bitmap's 7,909, and ahead of them none, an icon's version, or a logo's 23 with a date of 16
abbrev pub most_octets : Kind → ℕ
most_octets Plain = 7909
most_octets Icon = 7910
most_octets Logo = 7932

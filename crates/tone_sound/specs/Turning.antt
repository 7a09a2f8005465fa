-- Instructions told from 64 bits that are turned round, so that the next one's kind is where a shift wants it.
use Rattle.std.specs.Prelude.{ℕ, zero, suc, ◌+◌, ◌-◌, ◌*◌, ◌/◌, ◌%◌, ◌^◌, ◌≤◌, ◌<◌, ◌≡◌, List, get_or}
use Rattle.bits.specs.Choice.{pick}
use Rattle.tone_tell.specs.Telling.{begins}

-- 64 bits turned to the left by n: those that leave on top come in below
unfoldable pub turn : ℕ → ℕ → ℕ
turn n x = x * 2 ^ n % 2 ^ 64 + x / 2 ^ (64 - n)

-- ---- marks: the characters 0 and 1

-- the mark of what is in order, 0
abbrev pub clear : ℕ
clear = 48

-- 0 or 1
abbrev pub Mark : ℕ → Type 0
Mark v = (48 ≤ v) × (v ≤ 49)

-- 0 where nine bits begin an instruction of the table, else 1
unfoldable pub mark_of : ℕ → ℕ
mark_of z = pick (begins (2 * z)) clear 49

-- a row that has the mark of each nine bits
pub record Marks (row : List ℕ) : Type 0 where
  pub each : (z : ℕ) → z < 512 → get_or row z 0 ≡ mark_of z

-- ---- one instruction, of bits that were turned by six

-- its kind is now the three bits above the lowest three
abbrev pub kind_in : ℕ → ℕ
kind_in y = y / 8 % 8

-- the widths of the kinds, an octet each, from that of kind k on
abbrev pub packed : ℕ → ℕ
packed k = 0x3F3F070805050C3F / 2 ^ (8 * k)

-- of these its own is the lowest octet
unfoldable pub wide_in : ℕ → ℕ
wide_in y = packed (kind_in y)

-- its bits, the id among them
abbrev pub width_in : ℕ → ℕ
width_in y = wide_in y % 64

-- its mark, by its first nine bits
unfoldable pub mark_in : ℕ → ℕ
mark_in y = mark_of (turn 3 y % 512)

-- what is there once it is turned away
unfoldable pub onward : ℕ → ℕ
onward y = turn (width_in y) y

-- ---- n of them

-- f of each, added up
abbrev pub along : (ℕ → ℕ) → ℕ → ℕ → ℕ
along f zero y = 0
along f (suc n) y = f y + along f n (onward y)

-- each is clear
abbrev pub AllClear : ℕ → ℕ → Type 0
AllClear zero y = Unit {0}
AllClear (suc n) y = (mark_in y ≡ clear) × AllClear n (onward y)

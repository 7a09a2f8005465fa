-- How much room is always enough: what a caller lends at most, so that 11 is never met.
use Rattle.std.specs.Prelude.{ℕ, ◌*◌}
use Rattle.list_rules.specs.Sounding.{entry_cells}
use Rattle.bitmap_ahead.specs.declared.Kind.{Kind}
use Rattle.bitmap_ahead.specs.declared.Kind.TheVariants.{Plain, Icon, Logo}

-- octets for a title
abbrev pub title_room : ℕ
title_room = 30

-- cells for a tone table
abbrev pub table_room : ℕ
table_room = 6482

-- octets for a tone message
abbrev pub tone_room : ℕ
tone_room = 4096

-- entries of a playing list, and so the rows for one
abbrev pub entries_room : ℕ
entries_room = 975375

-- cells for a playing list
abbrev pub list_room : ℕ
list_room = entries_room * entry_cells

-- octets for a plain bitmap
abbrev pub bitmap_room : ℕ
bitmap_room = 7909

-- octets for an icon
abbrev pub icon_room : ℕ
icon_room = 7910

-- octets for a logo
abbrev pub logo_room : ℕ
logo_room = 7932

-- octets for a bitmap of a kind
abbrev pub kind_room : Kind → ℕ
kind_room Plain = bitmap_room
kind_room Icon = icon_room
kind_room Logo = logo_room

-- octets for a pack
abbrev pub pack_room : ℕ
pack_room = 65535

-- numbers for the report of tones that are got out of a broken pack
abbrev pub report_room : ℕ
report_room = 16381

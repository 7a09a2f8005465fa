-- Samples of the label for the screen.
use Rattle.std.specs.Prelude.{ℕ, ◌≡◌, true, false, List, [], ◌∷◌}
use Rattle.label.specs.Label.{label_of}
use Rattle.label.specs.Promises.{supplied_numbers}

-- the caller's stand-in name, "car"
abbrev pub car : List ℕ
car = 0x63 ∷ 0x61 ∷ 0x72 ∷ []

-- which octets are the label, and whose they are
pub record Labels : Type 0 where
  -- trailing spaces, character 32, go; those within stay
  pub trimmed : label_of false (0x41 ∷ 32 ∷ 0x42 ∷ 32 ∷ 32 ∷ []) car ≡ 0x41 ∷ 32 ∷ 0x42 ∷ []
  -- under UNICODE the 16-bit 32
  pub wide_trimmed : label_of true (0x00 ∷ 0x41 ∷ 0 ∷ 32 ∷ 0x20 ∷ 0xAC ∷ 0 ∷ 32 ∷ 0 ∷ 32 ∷ []) car ≡ 0x00 ∷ 0x41 ∷ 0 ∷ 32 ∷ 0x20 ∷ 0xAC ∷ []
  -- other characters stay: 160, 31, 33 and 0
  pub no_break : label_of false (0x41 ∷ 160 ∷ []) car ≡ 0x41 ∷ 160 ∷ []
  pub below : label_of false (0x41 ∷ 31 ∷ []) car ≡ 0x41 ∷ 31 ∷ []
  pub above : label_of false (0x41 ∷ 33 ∷ []) car ≡ 0x41 ∷ 33 ∷ []
  pub null : label_of false (0x41 ∷ 0 ∷ []) car ≡ 0x41 ∷ 0 ∷ []
  -- and under UNICODE 8192, whose high octet is 32, and 288, whose low octet is
  pub high_octet : label_of true (0x00 ∷ 0x41 ∷ 0x20 ∷ 0x00 ∷ []) car ≡ 0x00 ∷ 0x41 ∷ 0x20 ∷ 0x00 ∷ []
  pub low_octet : label_of true (0x00 ∷ 0x41 ∷ 0x01 ∷ 0x20 ∷ []) car ≡ 0x00 ∷ 0x41 ∷ 0x01 ∷ 0x20 ∷ []
  -- the label takes any octets, also those that no title of a message has: a tab and a bell, and under UNICODE 9 and 127
  pub any_octets : label_of false (0x41 ∷ 9 ∷ 7 ∷ 32 ∷ []) car ≡ 0x41 ∷ 9 ∷ 7 ∷ []
  pub wide_any_octets : label_of true (0 ∷ 9 ∷ 0 ∷ 127 ∷ 0 ∷ 32 ∷ []) car ≡ 0 ∷ 9 ∷ 0 ∷ 127 ∷ []
  -- nothing is left: no title, and nothing but spaces
  pub empty : label_of false [] car ≡ car
  pub spaces : label_of false (32 ∷ 32 ∷ []) car ≡ car
  pub wide_empty : label_of true [] car ≡ car
  pub wide_spaces : label_of true (0 ∷ 32 ∷ []) car ≡ car
  -- odd octets under UNICODE
  pub odd : label_of true (0x00 ∷ 0x41 ∷ 0x42 ∷ []) car ≡ car
  -- odd octets are no fault without it
  pub odd_plain : label_of false (0x00 ∷ 0x41 ∷ 0x42 ∷ []) car ≡ 0x00 ∷ 0x41 ∷ 0x42 ∷ []
  -- the buffer, 0 for the title and 1 for the stand-in, and the octets
  pub from_title : supplied_numbers false (0x41 ∷ 0x42 ∷ 32 ∷ []) car ≡ record { buffer = 0; octets = 2 }
  pub from_stand_in : supplied_numbers true (0x41 ∷ []) car ≡ record { buffer = 1; octets = 3 }

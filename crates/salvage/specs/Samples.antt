-- Samples of getting tones out of a broken pack, as claims about the rules.
use Rattle.std.specs.Prelude.{ℕ, ◌≤◌, ◌<◌, ◌≡◌, List, [], ◌∷◌, ◌++◌, length, take}
use Rattle.bits.specs.Outcome.{accepted, refused}
use Rattle.tone.specs.Reading.{tone_at}
use Rattle.pack.specs.Samples.{p1, p3, pack}
use Rattle.salvage.specs.Salvage.{counting, message_at, Salvaged, into_room, salvage}
use Rattle.salvage.specs.Promises.{salvage_numbers}

-- with room for both, an input gives so many messages, octets that are skipped, this pack and this report
abbrev pub gives : List ℕ → ℕ → ℕ → List ℕ → List ℕ → Type 0
gives p k skips out report = salvage p 100 20 ≡ accepted (record { messages = k; skips = skips; pack = out; report = report })

-- the pack of nothing
abbrev pub no_pack : List ℕ
no_pack = 0x00 ∷ 0x00 ∷ 0x00 ∷ 0x00 ∷ []

-- the packs of P1 and of P3
abbrev pub pack_of_p1 : List ℕ
pack_of_p1 = p1 ++ (0x00 ∷ 0x00 ∷ 0x00 ∷ 0x0A ∷ 0x00 ∷ 0x01 ∷ 0x00 ∷ 0x0A ∷ [])

abbrev pub pack_of_p3 : List ℕ
pack_of_p3 = p3 ++ (0x00 ∷ 0x00 ∷ 0x00 ∷ 0x09 ∷ 0x00 ∷ 0x01 ∷ 0x00 ∷ 0x09 ∷ [])

-- P3 as a basic song with the title A, and with a line feed for the A
abbrev pub titled_a : List ℕ
titled_a = 0x02 ∷ 0x4A ∷ 0x3A ∷ 0x45 ∷ 0x04 ∷ 0x04 ∷ 0x00 ∷ 0x02 ∷ 0x69 ∷ 0x00 ∷ 0x00 ∷ []

abbrev pub titled_feed : List ℕ
titled_feed = 0x02 ∷ 0x4A ∷ 0x3A ∷ 0x44 ∷ 0x28 ∷ 0x04 ∷ 0x00 ∷ 0x02 ∷ 0x69 ∷ 0x00 ∷ 0x00 ∷ []

pub record SalvageSamples : Type 0 where
  -- the first 65,535 octets count
  pub first : (p : List ℕ) → counting p ≡ take 65535 p
  -- a message has at most 4,096 octets
  pub longest : (c : List ℕ) (at : ℕ) → tone_at c at ≤ 4096 → message_at c at ≡ tone_at c at
  pub longer : (c : List ℕ) (at : ℕ) → 4096 < tone_at c at → message_at c at ≡ 0
  -- an empty input, and one without a message: the pack of four zeros, and a report of one number
  pub empty : gives [] 0 0 no_pack (0 ∷ [])
  pub none : gives (0xFF ∷ 0x02 ∷ 0x4A ∷ []) 0 3 no_pack (3 ∷ [])
  -- one message: old start, new start and length, then the octets skipped
  pub one : gives p1 1 0 pack_of_p1 (0 ∷ 0 ∷ 10 ∷ 0 ∷ [])
  pub ahead : gives (0xFF ∷ 0xFF ∷ p1) 1 2 pack_of_p1 (2 ∷ 0 ∷ 10 ∷ 2 ∷ [])
  pub behind : gives (p1 ++ (0x00 ∷ [])) 1 1 pack_of_p1 (0 ∷ 0 ∷ 10 ∷ 1 ∷ [])
  -- a sound pack of two: its rows and its last four octets are skipped
  pub two : gives pack 2 12 pack (0 ∷ 0 ∷ 10 ∷ 10 ∷ 10 ∷ 9 ∷ 12 ∷ [])
  pub apart : gives (0xFF ∷ (p1 ++ (0xFF ∷ 0xFF ∷ p3))) 2 3 pack (1 ∷ 0 ∷ 10 ∷ 13 ∷ 10 ∷ 9 ∷ 3 ∷ [])
  -- cut in the middle of a message, of a row, and of the last four octets
  pub cut_message : gives (take 15 pack) 1 5 pack_of_p1 (0 ∷ 0 ∷ 10 ∷ 5 ∷ [])
  pub cut_row : gives (take 22 pack) 2 3 pack (0 ∷ 0 ∷ 10 ∷ 10 ∷ 10 ∷ 9 ∷ 3 ∷ [])
  pub cut_last : gives (take 29 pack) 2 10 pack (0 ∷ 0 ∷ 10 ∷ 10 ∷ 10 ∷ 9 ∷ 10 ∷ [])
  -- one octet is skipped, and not a whole bad message: one inside it comes out
  pub inside : gives (take 6 p1 ++ p3) 1 6 pack_of_p3 (6 ∷ 0 ∷ 9 ∷ 6 ∷ [])
  -- a message whose title has a refused character is none, and is skipped octet by octet
  pub good_title : gives titled_a 1 0 (titled_a ++ (0x00 ∷ 0x00 ∷ 0x00 ∷ 0x0B ∷ 0x00 ∷ 0x01 ∷ 0x00 ∷ 0x0B ∷ [])) (0 ∷ 0 ∷ 11 ∷ 0 ∷ [])
  pub bad_title : gives (titled_feed ++ p3) 1 11 pack_of_p3 (11 ∷ 0 ∷ 9 ∷ 11 ∷ [])
  -- no room: 11 for the pack, 11 for the report
  pub just_room : salvage pack 31 7 ≡ accepted (record { messages = 2; skips = 12; pack = pack; report = 0 ∷ 0 ∷ 10 ∷ 10 ∷ 10 ∷ 9 ∷ 12 ∷ [] })
  pub no_room_for_pack : salvage pack 30 7 ≡ refused 11 0
  pub numbers : salvage_numbers (salvage pack 31 7) ≡ record { refusal = 0; place = 0; messages = 2; octets = 31; skipped = 12 }
  pub no_numbers : salvage_numbers (salvage pack 30 7) ≡ record { refusal = 11; place = 0; messages = 0; octets = 0; skipped = 0 }
  pub no_room_for_report : salvage pack 31 6 ≡ refused 11 0
  pub no_room_for_none : salvage [] 3 1 ≡ refused 11 0
  pub no_room_for_number : salvage [] 4 0 ≡ refused 11 0
  -- above 65,535 octets: 1, ahead of 11
  pub too_long : (s : Salvaged) (room cells : ℕ) → 65535 < length s.pack → into_room s room cells ≡ refused 1 0

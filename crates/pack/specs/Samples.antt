-- Samples of packs, as claims about the rules.
use Rattle.std.specs.Prelude.{ℕ, ◌≡◌, List, [], ◌∷◌, ◌++◌, take}
use Rattle.bits.specs.Outcome.{accepted, refused}
use Rattle.pack.specs.Pack.{most_pack, pack_octets, rows_from, read_pack, nth_row, write_pack}
use Rattle.pack.specs.Promises.{read_numbers, find_numbers, stretch_of}

-- P1 and P3 of document 01, of ten and of nine octets
abbrev pub p1 : List ℕ
p1 = 0x02 ∷ 0x4A ∷ 0x3A ∷ 0x80 ∷ 0x40 ∷ 0x00 ∷ 0x51 ∷ 0xC6 ∷ 0x90 ∷ 0x00 ∷ []

abbrev pub p3 : List ℕ
p3 = 0x02 ∷ 0x4A ∷ 0x3A ∷ 0x80 ∷ 0x40 ∷ 0x00 ∷ 0x26 ∷ 0x90 ∷ 0x00 ∷ []

-- both, and their pack
abbrev pub messages : List ℕ
messages = p1 ++ p3

abbrev pub rows : List ℕ
rows = 0x00 ∷ 0x00 ∷ 0x00 ∷ 0x0A ∷ 0x00 ∷ 0x0A ∷ 0x00 ∷ 0x09 ∷ []

abbrev pub pack : List ℕ
pack = messages ++ (rows ++ (0x00 ∷ 0x02 ∷ 0x00 ∷ 0x13 ∷ []))

-- the number and the place of a reading
abbrev pub reads : List ℕ → ℕ → ℕ → ℕ → Type 0
reads p refusal place messages = read_numbers (read_pack p) ≡ record { refusal = refusal; place = place; messages = messages }

-- what finding a message gives
abbrev pub finds : List ℕ → ℕ → ℕ → ℕ → ℕ → ℕ → Type 0
finds p n refusal place start octets = find_numbers (nth_row p n) ≡ record { refusal = refusal; place = place; start = start; length = octets }

pub record PackSamples : Type 0 where
  -- the bound, and the empty list: four octets of 0
  pub most : most_pack ≡ 65535
  pub empty : pack_octets [] ≡ 0 ∷ 0 ∷ 0 ∷ 0 ∷ []
  pub empty_reads : reads (0 ∷ 0 ∷ 0 ∷ 0 ∷ []) 0 0 0
  pub empty_has_none : finds (0 ∷ 0 ∷ 0 ∷ 0 ∷ []) 0 12 0 0 0
  -- under four octets: 2
  pub nothing : reads [] 2 0 0
  pub three : reads (0 ∷ 0 ∷ 0 ∷ []) 2 0 0
  -- one message, and two
  pub one : reads (p1 ++ (0 ∷ 0 ∷ 0 ∷ 10 ∷ 0 ∷ 1 ∷ 0 ∷ 10 ∷ [])) 0 0 1
  pub two : reads pack 0 0 2
  pub first : finds pack 0 0 0 0 10
  pub second : finds pack 1 0 0 10 9
  pub second_octets : stretch_of (nth_row pack 1) pack ≡ p3
  pub no_third : finds pack 2 12 0 0 0
  pub largest : finds pack 4294967295 12 0 0 0
  -- rows are two octets of start and two of length, high octet first, and go on from 0
  pub rows_of : rows_from 0 (10 ∷ 300 ∷ 9 ∷ []) ≡ 0 ∷ 0 ∷ 0 ∷ 10 ∷ 0 ∷ 10 ∷ 1 ∷ 44 ∷ 1 ∷ 54 ∷ 0 ∷ 9 ∷ []
  -- first row start, rows and four octets that are not the pack: 26, ahead of rows that do not continue
  pub one_more : reads (0x00 ∷ pack) 26 0 0
  pub count_off : reads (messages ++ (rows ++ (0 ∷ 1 ∷ 0 ∷ 0x13 ∷ []))) 26 0 0
  pub start_off : reads (messages ++ (rows ++ (0 ∷ 2 ∷ 0 ∷ 0x14 ∷ []))) 26 0 0
  pub low_first : reads (messages ++ (rows ++ (2 ∷ 0 ∷ 0x13 ∷ 0 ∷ []))) 26 0 0
  -- a row that does not continue: 27, ahead of a bad message
  pub no_rows : reads (0xFF ∷ 0 ∷ 0 ∷ 0 ∷ 1 ∷ []) 27 0 0
  pub not_at_zero : reads (messages ++ (0 ∷ 1 ∷ 0 ∷ 9 ∷ 0 ∷ 10 ∷ 0 ∷ 9 ∷ 0 ∷ 2 ∷ 0 ∷ 0x13 ∷ [])) 27 0 0
  pub gap : reads (p1 ++ (0xFF ∷ p3) ++ (0 ∷ 0 ∷ 0 ∷ 10 ∷ 0 ∷ 11 ∷ 0 ∷ 9 ∷ 0 ∷ 2 ∷ 0 ∷ 0x14 ∷ [])) 27 0 0
  pub overlap : reads (messages ++ (0 ∷ 0 ∷ 0 ∷ 10 ∷ 0 ∷ 9 ∷ 0 ∷ 10 ∷ 0 ∷ 2 ∷ 0 ∷ 0x13 ∷ [])) 27 0 0
  pub ends_short : reads (messages ++ (0 ∷ 0 ∷ 0 ∷ 10 ∷ 0 ∷ 10 ∷ 0 ∷ 8 ∷ 0 ∷ 2 ∷ 0 ∷ 0x13 ∷ [])) 27 0 0
  pub ends_long : reads (messages ++ (0 ∷ 0 ∷ 0 ∷ 10 ∷ 0 ∷ 10 ∷ 0 ∷ 10 ∷ 0 ∷ 2 ∷ 0 ∷ 0x13 ∷ [])) 27 0 0
  -- the first bad message's own number, its place moved by its start in bits: P4 is 2 at 72, P5 10 at 80
  pub bad_first : reads (take 9 p1 ++ p3 ++ (0 ∷ 0 ∷ 0 ∷ 9 ∷ 0 ∷ 9 ∷ 0 ∷ 9 ∷ 0 ∷ 2 ∷ 0 ∷ 18 ∷ [])) 2 72 0
  pub bad_second : reads (p1 ++ take 9 p1 ++ (0 ∷ 0 ∷ 0 ∷ 10 ∷ 0 ∷ 10 ∷ 0 ∷ 9 ∷ 0 ∷ 2 ∷ 0 ∷ 19 ∷ [])) 2 152 0
  pub long_second : reads (p3 ++ (p1 ++ (0 ∷ [])) ++ (0 ∷ 0 ∷ 0 ∷ 9 ∷ 0 ∷ 9 ∷ 0 ∷ 11 ∷ 0 ∷ 2 ∷ 0 ∷ 20 ∷ [])) 10 152 0
  pub both_bad : reads (take 9 p1 ++ take 8 p1 ++ (0 ∷ 0 ∷ 0 ∷ 9 ∷ 0 ∷ 9 ∷ 0 ∷ 8 ∷ 0 ∷ 2 ∷ 0 ∷ 17 ∷ [])) 2 72 0
  pub bad_ahead_of_none : finds (p1 ++ take 9 p1 ++ (0 ∷ 0 ∷ 0 ∷ 10 ∷ 0 ∷ 10 ∷ 0 ∷ 9 ∷ 0 ∷ 2 ∷ 0 ∷ 19 ∷ [])) 2 2 152 0 0
  -- a row of length 0 continues, and its message is 2 at its start
  pub empty_message : reads (p1 ++ (0 ∷ 0 ∷ 0 ∷ 10 ∷ 0 ∷ 10 ∷ 0 ∷ 0 ∷ 0 ∷ 2 ∷ 0 ∷ 10 ∷ [])) 2 80 0
  -- writing, and its grounds
  pub writes : write_pack messages (10 ∷ 9 ∷ []) 31 ≡ accepted pack
  pub writes_none : write_pack [] [] 4 ≡ accepted (0 ∷ 0 ∷ 0 ∷ 0 ∷ [])
  pub no_room : write_pack messages (10 ∷ 9 ∷ []) 30 ≡ refused 11 0
  pub no_room_for_none : write_pack [] [] 3 ≡ refused 11 0
  pub too_few : write_pack messages (10 ∷ []) 31 ≡ refused 27 0
  pub too_many : write_pack messages (10 ∷ 10 ∷ []) 31 ≡ refused 27 0
  pub no_wrap : write_pack messages (4294967295 ∷ 20 ∷ []) 31 ≡ refused 27 0
  pub bad_ahead_of_room : write_pack (p1 ++ take 9 p1) (10 ∷ 9 ∷ []) 0 ≡ refused 2 152

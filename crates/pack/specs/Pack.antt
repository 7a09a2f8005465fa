-- A tone pack: messages back to back, a row for each, how many there are, and where the rows begin.
use Rattle.std.specs.Prelude.{ℕ, zero, suc, ◌+◌, ◌-◌, ◌*◌, ◌≤◌, Bool, ◌&&◌, List, [], ◌∷◌, ◌++◌, map, length, get_or, leb, ltb, eqb}
use Rattle.bits.specs.Outcome.{Outcome, accepted, and_then, demand}
use Rattle.tone.specs.Tone.{Tone}
use Rattle.tone.specs.Writing.{tone_octets, WellFormed}
use Rattle.tone.specs.Reading.{read_tone}
use Rattle.inside.specs.Inside.{number, pair, join, lengths, sum, cut, moved_by}

-- the most octets that a pack has
abbrev pub most_pack : ℕ
most_pack = 65535

-- ---- the writing of a pack

-- for each length a row: where the message starts, and how long it is
abbrev pub rows_from : ℕ → List ℕ → List ℕ
rows_from start [] = []
rows_from start (n ∷ ns) = (pair start ++ pair n) ++ rows_from (start + n) ns

-- the pack of messages that lie back to back and have these lengths: their octets, the rows, how many there are, and the start of the first row
unfoldable pub pack_of : List ℕ → List ℕ → List ℕ
pack_of octets ns = octets ++ (rows_from 0 ns ++ (pair (length ns) ++ pair (length octets)))

-- how many octets it has
abbrev pub pack_length : List ℕ → List ℕ → ℕ
pack_length octets ns = length octets + 4 * length ns + 4

-- the messages of tones
abbrev pub messages_of : List Tone → List (List ℕ)
messages_of ts = map tone_octets ts

-- the pack of tones
unfoldable pub pack_octets : List Tone → List ℕ
pack_octets ts = pack_of (join (messages_of ts)) (lengths (messages_of ts))

-- each tone is well formed
abbrev pub AllFormed : List Tone → Type 0
AllFormed [] = Unit {0}
AllFormed (t ∷ ts) = WellFormed t × AllFormed ts

-- tones that a pack can hold: each is well formed, and the pack is not too long
pub record Packable (ts : List Tone) : Type 0 where
  pub each : AllFormed ts
  pub size : pack_length (join (messages_of ts)) (lengths (messages_of ts)) ≤ most_pack

-- ---- what stands where in a pack

-- a row: where a message starts, and how many octets it has
pub record Row : Type 0 where
  pub start : ℕ
  pub length : ℕ

-- the row at an octet
abbrev pub row_at : List ℕ → ℕ → Row
row_at p at = record { start = number p at; length = number p (at + 2) }

-- so many rows, the first of them at an octet
abbrev pub rows_at : ℕ → List ℕ → ℕ → List Row
rows_at zero p at = []
rows_at (suc n) p at = row_at p at ∷ rows_at n p (at + 4)

-- the lengths that rows have
abbrev pub lengths_in : List Row → List ℕ
lengths_in rs = map (λ (r : Row). r.length) rs

-- where the first row starts: the last two octets
abbrev pub first_row : List ℕ → ℕ
first_row p = number p (length p - 2)

-- how many messages there are: the two octets ahead of these
abbrev pub count : List ℕ → ℕ
count p = number p (length p - 4)

-- the rows of a pack
abbrev pub rows_in : List ℕ → List Row
rows_in p = rows_at (count p) p (first_row p)

-- the messages, cut by the lengths that the rows have
abbrev pub messages_in : List ℕ → List (List ℕ)
messages_in p = cut (lengths_in (rows_in p)) p

-- ---- reading

-- each row starts where the one before ends, and the last ends at `end`
unfoldable pub continues : ℕ → List Row → ℕ → Bool
continues at [] end = eqb at end
continues at (r ∷ rs) end = eqb r.start at && continues (at + r.length) rs end

-- the messages in turn, the first at octet `start`: their tones, or the first bad one's refusal, moved by where that one starts
unfoldable pub read_in_turn : ℕ → List (List ℕ) → Outcome (List Tone)
read_in_turn start [] = accepted []
read_in_turn start (m ∷ ms) =
    and_then (moved_by start (read_tone m)) (λ t.
    and_then (read_in_turn (start + length m) ms) (λ ts.
    accepted (t ∷ ts)))

-- reading a pack: 1, 2, 26, 27, then the messages' own
unfoldable pub read_pack : List ℕ → Outcome (List Tone)
read_pack p =
    demand (leb (length p) most_pack) 1
    (demand (leb 4 (length p)) 2
    (demand (eqb (first_row p + 4 * count p + 4) (length p)) 26
    (demand (continues 0 (rows_in p) (first_row p)) 27
    (read_in_turn 0 (messages_in p)))))

-- ---- the nth message, counted from 0

-- no row
abbrev pub no_row : Row
no_row = record { start = 0; length = 0 }

-- its row: the pack's refusals, then 12
unfoldable pub nth_row : List ℕ → ℕ → Outcome Row
nth_row p n = and_then (read_pack p) (λ ts. demand (ltb n (length ts)) 12 (accepted (get_or (rows_in p) n no_row)))

-- ---- writing messages that lie back to back, with a row of lengths

-- into so much room: 1, 27, the messages' own, 11
unfoldable pub write_pack : List ℕ → List ℕ → ℕ → Outcome (List ℕ)
write_pack octets ns room =
    demand (leb (pack_length octets ns) most_pack) 1
    (demand (eqb (sum ns) (length octets)) 27
    (and_then (read_in_turn 0 (cut ns octets)) (λ _.
    demand (leb (pack_length octets ns) room) 11
    (accepted (pack_of octets ns)))))

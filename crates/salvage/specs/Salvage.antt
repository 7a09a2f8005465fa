-- Getting tones out of a broken pack: whole messages are kept, and what is no message is skipped octet by octet.
use Rattle.std.specs.Prelude.{ℕ, zero, suc, ◌+◌, List, [], ◌∷◌, ◌++◌, map, length, take, drop, leb, eqb}
use Rattle.bits.specs.Choice.{pick}
use Rattle.bits.specs.Outcome.{Outcome, accepted, demand}
use Rattle.tone.specs.Writing.{most_octets}
use Rattle.tone.specs.Reading.{tone_at}
use Rattle.inside.specs.Inside.{join}
use Rattle.pack.specs.Pack.{most_pack, pack_of, Row, lengths_in}

-- ---- what is kept, and what is skipped

-- the octets of an input that count: its first 65,535
abbrev pub counting : List ℕ → List ℕ
counting p = take most_pack p

-- how many octets the message has that starts at an octet: whole through its own end octet, well formed, and not too long; else none
unfoldable pub message_at : List ℕ → ℕ → ℕ
message_at c at = let n = tone_at c at in pick (leb n most_octets) n 0

-- a piece of what counts: a message that is kept, by its start and its length, or one octet that is skipped
pub data Piece : Type 0 where
  kept : Row → Piece
  skipped : ℕ → Piece

-- how many octets it has
abbrev pub taken : Piece → ℕ
taken (kept r) = r.length
taken (skipped at) = 1

-- the piece that starts at an octet: the message, if one starts here; else this one octet
unfoldable pub piece_at : List ℕ → ℕ → Piece
piece_at c at = let n = message_at c at in pick (eqb n 0) (skipped at) (kept (record { start = at; length = n }))

-- piece after piece from an octet on; as many steps as there are octets are enough
unfoldable pub pieces_from : ℕ → List ℕ → ℕ → List Piece
pieces_from zero c at = []
pieces_from (suc steps) c at = pick (leb (length c) at) [] (let x = piece_at c at in x ∷ pieces_from steps c (at + taken x))

-- the pieces of what counts, from octet 0 on
unfoldable pub pieces : List ℕ → List Piece
pieces c = pieces_from (length c) c 0

-- the messages that are kept, each by its old start and its length
abbrev pub kept_in : List Piece → List Row
kept_in [] = []
kept_in (kept r ∷ xs) = r ∷ kept_in xs
kept_in (skipped at ∷ xs) = kept_in xs

-- how many octets are skipped
abbrev pub skipped_in : List Piece → ℕ
skipped_in [] = 0
skipped_in (kept r ∷ xs) = skipped_in xs
skipped_in (skipped at ∷ xs) = suc (skipped_in xs)

-- ---- what comes out

-- the octets of a message, by its row
abbrev pub stretch_in : List ℕ → Row → List ℕ
stretch_in c r = take r.length (drop r.start c)

-- the messages of rows
abbrev pub stretches_in : List ℕ → List Row → List (List ℕ)
stretches_in c rs = map (stretch_in c) rs

-- the new pack: the messages that are kept back to back, and what a pack has behind them
unfoldable pub new_pack : List ℕ → List Row → List ℕ
new_pack c rs = pack_of (join (stretches_in c rs)) (lengths_in rs)

-- for each message its old start, its new start and its length
abbrev pub report_from : ℕ → List Row → List ℕ
report_from new [] = []
report_from new (r ∷ rs) = r.start ∷ new ∷ r.length ∷ report_from (new + r.length) rs

-- the report: that of each message, then how many octets are skipped
unfoldable pub new_report : List Row → ℕ → List ℕ
new_report rs skips = report_from 0 rs ++ (skips ∷ [])

-- what comes out: how many messages are kept, how many octets are skipped, the pack and the report
pub record Salvaged : Type 0 where
  pub messages : ℕ
  pub skips : ℕ
  pub pack : List ℕ
  pub report : List ℕ

-- of rows that are kept, and so many octets that are skipped
abbrev pub salvaged_by : List ℕ → List Row → ℕ → Salvaged
salvaged_by c rs skips = record { messages = length rs; skips = skips; pack = new_pack c rs; report = new_report rs skips }

-- of what counts
unfoldable pub salvaged : List ℕ → Salvaged
salvaged c = let xs = pieces c in salvaged_by c (kept_in xs) (skipped_in xs)

-- into so much room for the pack and for the report: 1, then 11 for either
unfoldable pub into_room : Salvaged → ℕ → ℕ → Outcome Salvaged
into_room s room cells =
    demand (leb (length s.pack) most_pack) 1
    (demand (leb (length s.pack) room) 11
    (demand (leb (length s.report) cells) 11
    (accepted s)))

-- getting the tones out of an input
abbrev pub salvage : List ℕ → ℕ → ℕ → Outcome Salvaged
salvage p room cells = into_room (salvaged (counting p)) room cells

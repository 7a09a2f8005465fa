-- Where the code looks for messages, what it keeps of them, and what going through an input comes to.
use Rattle.std.specs.Prelude.{ℕ, ◌+◌, ◌-◌, ◌*◌, ◌/◌, ◌%◌, ◌≤◌, ◌<◌, ◌≡◌, ◌⊎◌, List, map, length, get_or, take, eqb, Result, Ok, Err}
use Rattle.bits.specs.Choice.{pick}
use Rattle.bits.specs.Refusals.{refusal}
use Rattle.bits.specs.declared.refusal.Refusal.{Refusal}
use Rattle.inside.specs.Inside.{sum}
use Rattle.pack.specs.Pack.{most_pack, Row, lengths_in}
use Rattle.salvage.specs.declared.Kept.{Kept}
use Rattle.salvage.specs.Salvage.{message_at, kept_in, pieces, salvaged_by, salvaged, into_room}
use Rattle.salvage.specs.Promises.{Salvaging, Salvages}

-- ---- where a message may start

-- 1 where two octets may begin a message: 2 or 3, and then 74; else 0
abbrev pub front_of : ℕ → ℕ → ℕ
front_of x y = pick (eqb (x / 2) 1) (pick (eqb y 74) 1 0) 0

-- no octet from one up to another may begin a message
pub record NoFront (c : List ℕ) (from to : ℕ) : Type 0 where
  pub each : (i : ℕ) → from ≤ i → i < to → front_of (get_or c i 0) (get_or c (i + 1) 0) ≡ 0

-- n of the octets from one up to another may begin a message: where n is 0, none may
pub record Fronts (c : List ℕ) (from to n : ℕ) : Type 0 where
  pub so : n ≡ 0 → NoFront c from to

-- the octets from one up to another are passed, for no message starts there
pub record Passed (c : List ℕ) (from to : ℕ) : Type 0 where
  pub onward : from ≤ to
  pub inside : to ≤ length c
  pub none : (i : ℕ) → from ≤ i → i < to → message_at c i ≡ 0

-- ---- what is kept

-- the row that a cell stands for: start × 65,536 + length
abbrev pub row_of : ℕ → Row
row_of cell = record { start = cell / 65536; length = cell % 65536 }

-- the rows of cells
abbrev pub rows_of : List ℕ → List Row
rows_of cells = map row_of cells

-- how many octets the pack of rows has
abbrev pub pack_size : List Row → ℕ
pack_size rs = sum (lengths_in rs) + 4 * length rs + 4

-- the same, by their cells
abbrev pub cells_size : List ℕ → ℕ
cells_size cells = sum (lengths_in (rows_of cells)) + 4 * length cells + 4

-- each cell's message lies within the octets
pub record Stretches (c cells : List ℕ) : Type 0 where
  pub each : (i : ℕ) → i < length cells → get_or cells i 0 / 65536 + get_or cells i 0 % 65536 ≤ length c

-- there are cells enough: one for each eight octets, or as many as a pack has messages at most
abbrev pub Enough : ℕ → ℕ → Type 0
Enough octets cells = (octets ≤ 8 * cells) ⊎ (5460 ≤ cells)

-- the rows of all that is kept of what counts
abbrev pub all_kept : List ℕ → List Row
all_kept c = kept_in (pieces c)

-- the first cells hold the rows of all that is kept, and its pack is not too long
pub record KeptAll (c cells : List ℕ) (messages octets : ℕ) : Type 0 where
  pub rows : rows_of (take messages cells) ≡ all_kept c
  pub many : messages ≡ length (all_kept c)
  pub sums : octets ≡ sum (lengths_in (all_kept c))
  pub size : pack_size (all_kept c) ≤ most_pack

-- the pack of all that is kept is too long
pub record KeptTooMuch (c : List ℕ) : Type 0 where
  pub size : most_pack < pack_size (all_kept c)

-- going through what counts comes to one of these, the second refused 1
abbrev pub WalkedOver : List ℕ → List ℕ → Result Kept Refusal → Type 0
WalkedOver c cells (Ok k) = KeptAll c cells k.messages k.octets.0
WalkedOver c cells (Err r) = (r ≡ refusal 1 0) × KeptTooMuch c

-- ---- what comes out

-- getting the tones out of what counts answers r and leaves out' and report'
abbrev pub GetsOut : List ℕ → List ℕ → List ℕ → List ℕ → List ℕ → Salvaging → Type 0
GetsOut c out report out' report' r = Salvages (into_room (salvaged c) (length out) (length report)) out report out' report' r

-- handing out the messages of cells, of so many octets, answers r and leaves out' and report'
abbrev pub HandsOut : List ℕ → List ℕ → ℕ → List ℕ → List ℕ → List ℕ → List ℕ → Salvaging → Type 0
HandsOut c cells octets out report out' report' r = Salvages (into_room (salvaged_by c (rows_of cells) (length c - octets)) (length out) (length report)) out report out' report' r

-- What each public call promises: every number returned and every cell lent, on acceptance and on refusal.
use Rattle.std.specs.Prelude.{ℕ, ◌+◌, ◌≡◌, List, length, take, drop, Result, Ok, Err}
use Rattle.std.specs.Borrow.{Bor}
use Rattle.bits.specs.Outcome.{Outcome, accepted, refused}
use Rattle.bits.specs.Places.{octet_count}
use Rattle.bits.specs.Refusals.{number_of, answered}
use Rattle.bits.specs.declared.refusal.Refusal.{Refusal}
use Rattle.tone.specs.Tone.{Tone}
use Rattle.written.specs.Written.{Writing, Fills}
use Rattle.pack.specs.declared.Found.{Found}
use Rattle.pack.specs.Pack.{Row, read_pack, nth_row, write_pack}

-- ---- read

-- the numbers of an answer to reading
pub record ReadNumbers : Type 0 where
  pub refusal : ℕ
  pub place : ℕ
  pub messages : ℕ

-- an answer to reading: how many messages there are, or the refusal
abbrev pub Reading : Type 0
Reading = Result ℕ Refusal

-- the answer that the rules ask for
abbrev pub read_answer : Outcome (List Tone) → Reading
read_answer o = answered (λ ts. length ts) o

-- the numbers that the rules ask for: on a refusal its number and place, all others 0
abbrev pub read_numbers : Outcome (List Tone) → ReadNumbers
read_numbers (accepted ts) = record { refusal = 0; place = 0; messages = length ts }
read_numbers (refused n p) = record { refusal = n; place = p; messages = 0 }

-- the numbers of each case of the answer
abbrev pub numbers_of_reading : Reading → ReadNumbers
numbers_of_reading (Ok k) = record { refusal = 0; place = 0; messages = k }
numbers_of_reading (Err r) = record { refusal = number_of r.why; place = r.place.0; messages = 0 }

-- `read` of the pack p answers r
pub record ReadPromise (p : List ℕ) (r : Reading) : Type 0 where
  pub answer : r ≡ read_answer (read_pack p)
  pub said : numbers_of_reading r ≡ read_numbers (read_pack p)

-- ---- find

-- the numbers of an answer to finding a message
pub record FindNumbers : Type 0 where
  pub refusal : ℕ
  pub place : ℕ
  pub start : ℕ
  pub length : ℕ

-- an answer to finding a message: its row, or the refusal
abbrev pub Finding : Type 0
Finding = Result Found Refusal

-- the message of a row
abbrev pub found_at : Row → Found
found_at r = record { start = octet_count r.start; length = octet_count r.length }

-- the answer that the rules ask for
abbrev pub find_answer : Outcome Row → Finding
find_answer o = answered found_at o

-- the numbers that the rules ask for: on a refusal its number and place, all others 0
abbrev pub find_numbers : Outcome Row → FindNumbers
find_numbers (accepted r) = record { refusal = 0; place = 0; start = r.start; length = r.length }
find_numbers (refused n p) = record { refusal = n; place = p; start = 0; length = 0 }

-- the numbers of each case of the answer
abbrev pub numbers_of_finding : Finding → FindNumbers
numbers_of_finding (Ok f) = record { refusal = 0; place = 0; start = f.start.0; length = f.length.0 }
numbers_of_finding (Err r) = record { refusal = number_of r.why; place = r.place.0; start = 0; length = 0 }

-- `find` of message n in the pack p answers r
pub record FindPromise (p : List ℕ) (n : ℕ) (r : Finding) : Type 0 where
  pub answer : r ≡ find_answer (nth_row p n)
  pub said : numbers_of_finding r ≡ find_numbers (nth_row p n)

-- ---- message

-- a message as a stretch of the pack; on a refusal the empty front
abbrev pub stretch_of : Outcome Row → List ℕ → List ℕ
stretch_of (accepted r) p = take r.length (drop r.start p)
stretch_of (refused n f) p = take 0 p

-- the octets of the pack that stand ahead of that stretch
abbrev pub stretch_start : Outcome Row → ℕ
stretch_start (accepted r) = r.start
stretch_start (refused n f) = 0

-- `message` n of the pack p hands back the part r: these octets, where they stand in the pack's own memory
pub record MessagePromise (p : Bor (List ℕ)) (n : ℕ) (r : Bor (List ℕ)) : Type 0 where
  pub octets : r.now ≡ stretch_of (nth_row p.now n) p.now
  pub block : r.ref_ptr.0 ≡ p.ref_ptr.0
  pub start : r.ref_ptr.1 ≡ p.ref_ptr.1 + stretch_start (nth_row p.now n)

-- ---- write

-- `write` of messages back to back and a row of lengths into the buffer `out` answers r and leaves out' in the buffer
abbrev pub WritePromise : List ℕ → List ℕ → List ℕ → List ℕ → Writing → Type 0
WritePromise octets ns out out' r = Fills (write_pack octets ns (length out)) out out' r

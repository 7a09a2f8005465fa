-- Every refusal of a pack has one of document 01's numbers.
use Prim.Native.Nat.{ℕ, ◌+◌, ◌*◌}
use mathlib.Core.Path.{◌≡◌, refl, ap, ◌∙◌}
use mathlib.Core.List.{List, [], ◌∷◌}
use lib.ListN.{length, get_or}
use lib.Dec.{leb, ltb, eqb}
use Rattle.bits.specs.Outcome.{Outcome, accepted, refused, and_then, demand}
use Rattle.bits.proofs.Refusals.{GivenBy, given_then, given_demand}
use Rattle.tone.specs.Tone.{Tone}
use Rattle.tone.specs.Reading.{read_tone}
use Rattle.tone.proofs.Numbered.{tone_numbered}
use Rattle.inside.specs.Inside.{sum, cut, moved_by}
use Rattle.pack.specs.Pack.{most_pack, pack_of, pack_length, Row, first_row, count, rows_in, messages_in, continues, read_in_turn, read_pack, no_row, nth_row, write_pack}
use Rattle.pack.specs.Promises.{Reading, read_answer, read_numbers, numbers_of_reading, ReadPromise, Finding, find_answer, find_numbers, numbers_of_finding, FindPromise}

-- ---- messages in turn

moved_numbered : {A : Type 0} (start : ℕ) (o : Outcome A) → GivenBy o → GivenBy (moved_by start o)
moved_numbered start (accepted a) g = tt
moved_numbered start (refused n p) g = g

pub turn_numbered : (start : ℕ) (ms : List (List ℕ)) → GivenBy (read_in_turn start ms)
unfolding read_in_turn
turn_numbered start [] = tt
turn_numbered start (m ∷ ms) =
    given_then (moved_by start (read_tone m)) (λ t. and_then (read_in_turn (start + length m) ms) (λ ts. accepted (t ∷ ts))) (moved_numbered start (read_tone m) (tone_numbered m))
    (λ t. given_then (read_in_turn (start + length m) ms) (λ ts. accepted (t ∷ ts)) (turn_numbered (start + length m) ms) (λ ts. tt))

-- ---- a pack, and its nth message

pub pack_numbered : (p : List ℕ) → GivenBy (read_pack p)
unfolding read_pack
pack_numbered p =
    let turns = read_in_turn 0 (messages_in p) in
    let rows = demand (continues 0 (rows_in p) (first_row p)) 27 turns in
    let adds = demand (eqb (first_row p + 4 * count p + 4) (length p)) 26 rows in
    given_demand (leb (length p) most_pack) 1 (demand (leb 4 (length p)) 2 adds) refl
    (given_demand (leb 4 (length p)) 2 adds refl
    (given_demand (eqb (first_row p + 4 * count p + 4) (length p)) 26 rows refl
    (given_demand (continues 0 (rows_in p) (first_row p)) 27 turns refl
    (turn_numbered 0 (messages_in p)))))

pub row_numbered : (p : List ℕ) (n : ℕ) → GivenBy (nth_row p n)
unfolding nth_row
row_numbered p n =
    given_then (read_pack p) (λ ts. demand (ltb n (length ts)) 12 (accepted (get_or (rows_in p) n no_row))) (pack_numbered p)
    (λ ts. given_demand (ltb n (length ts)) 12 (accepted (get_or (rows_in p) n no_row)) refl tt)

-- ---- writing

pub write_numbered : (octets ns : List ℕ) (room : ℕ) → GivenBy (write_pack octets ns room)
unfolding write_pack
write_numbered octets ns room =
    let last = demand (leb (pack_length octets ns) room) 11 (accepted (pack_of octets ns)) in
    let turns = and_then (read_in_turn 0 (cut ns octets)) (λ _. last) in
    given_demand (leb (pack_length octets ns) most_pack) 1 (demand (eqb (sum ns) (length octets)) 27 turns) refl
    (given_demand (eqb (sum ns) (length octets)) 27 turns refl
    (given_then (read_in_turn 0 (cut ns octets)) (λ _. last) (turn_numbered 0 (cut ns octets))
    (λ ts. given_demand (leb (pack_length octets ns) room) 11 (accepted (pack_of octets ns)) refl tt)))

-- ---- an answer keeps the promise on its numbers

read_said : (o : Outcome (List Tone)) → GivenBy o → numbers_of_reading (read_answer o) ≡ read_numbers o
read_said (accepted ts) g = refl
read_said (refused n p) g = ap (λ (k : ℕ). record { refusal = k; place = p; messages = 0 }) g

pub reads : (p : List ℕ) {r : Reading} → r ≡ read_answer (read_pack p) → ReadPromise p r
reads p e = record { answer = e; said = ap numbers_of_reading e ∙ read_said (read_pack p) (pack_numbered p) }

find_said : (o : Outcome Row) → GivenBy o → numbers_of_finding (find_answer o) ≡ find_numbers o
find_said (accepted r) g = refl
find_said (refused n p) g = ap (λ (k : ℕ). record { refusal = k; place = p; start = 0; length = 0 }) g

pub finds : (p : List ℕ) (n : ℕ) {r : Finding} → r ≡ find_answer (nth_row p n) → FindPromise p n r
finds p n e = record { answer = e; said = ap numbers_of_finding e ∙ find_said (nth_row p n) (row_numbered p n) }

-- What the rules of a pack come to.
use Prim.Native.Nat.{ℕ, zero, suc, ◌+◌, ◌*◌, ◌≤◌, ◌<◌}
use native.Mathlib.Omega.{arith}
use mathlib.Core.Path.{◌≡◌, refl, sym, ap, ◌∙◌}
use mathlib.Core.Bool.{Bool, true, false}
use mathlib.Core.List.{List, [], ◌∷◌, ◌++◌}
use lib.ListN.{length, get_or, length-append, length-map}
use lib.Dec.{leb, eqb}
use borrow.Author.Tests.{leb-true, eqb-true}
use Rattle.bits.specs.Outcome.{Outcome, accepted, refused, and_then, demand}
use Rattle.tone.specs.Tone.{Tone}
use Rattle.tone.specs.Reading.{read_tone}
use Rattle.inside.specs.Inside.{pair, sum, moved_by}
use Rattle.inside.proofs.Stretches.{length_cut}
use Rattle.pack.specs.Pack.{most_pack, rows_from, pack_of, pack_length, Row, rows_at, lengths_in, first_row, count, rows_in, messages_in, continues, read_in_turn, read_pack}
use Rattle.pack.proofs.Turning.{continues_sum}

-- ---- lengths

-- as many rows as are asked for
pub length_rows_at : (n : ℕ) (p : List ℕ) (at : ℕ) → length (rows_at n p at) ≡ n
length_rows_at zero p at = refl
length_rows_at (suc n) p at = ap suc (length_rows_at n p (at + 4))

-- a row takes four octets
pub length_rows_from : (start : ℕ) (ns : List ℕ) → length (rows_from start ns) ≡ 4 * length ns
length_rows_from start [] = refl
length_rows_from start (n ∷ ns) = let e = length_rows_from (start + n) ns in omega arith

pub length_pack_of : (octets ns : List ℕ) → length (pack_of octets ns) ≡ pack_length octets ns
unfolding pack_of
length_pack_of octets ns =
    let e = length_rows_from 0 ns in
    let t : List ℕ = pair (length ns) ++ pair (length octets) in
    length-append octets (rows_from 0 ns ++ t) ∙ ap (λ (k : ℕ). length octets + k) (length-append (rows_from 0 ns) t) ∙ omega arith

-- ---- demands that were met

-- what is accepted behind a demand meets it
pub demanded : {A : Type 0} (b : Bool) (n : ℕ) (x : Outcome A) {a : A} → demand b n x ≡ accepted a → (b ≡ true) × (x ≡ accepted a)
demanded true n x e = (refl, e)
demanded false n x e = let z : ◌≡◌ {A = ℕ} 0 1 = cc in absurd (omega arith)

-- messages in turn that are accepted: the first one's tone, and those of the others
pub record First (start : ℕ) (m : List ℕ) (ms : List (List ℕ)) (ts : List Tone) : Type 0 where
  pub tone : Tone
  pub others : List Tone
  pub reads : read_tone m ≡ accepted tone
  pub behind : read_in_turn (start + length m) ms ≡ accepted others
  pub all : ts ≡ tone ∷ others

pub turn_first : (start : ℕ) (m : List ℕ) (ms : List (List ℕ)) {ts : List Tone} → read_in_turn start (m ∷ ms) ≡ accepted ts → First start m ms ts
unfolding read_in_turn
turn_first start m ms {ts} e = go (read_tone m) refl (read_in_turn (start + length m) ms) refl e
  where
    go : (x : Outcome Tone) → read_tone m ≡ x → (y : Outcome (List Tone)) → read_in_turn (start + length m) ms ≡ y
        → and_then (moved_by start x) (λ t. and_then y (λ rest. accepted (t ∷ rest))) ≡ accepted ts → First start m ms ts
    go (accepted t) q (accepted rest) r h = record { tone = t; others = rest; reads = q; behind = r; all = cc }
    go (accepted t) q (refused n p) r h = let z : ◌≡◌ {A = ℕ} 0 1 = cc in absurd (omega arith)
    go (refused n p) q y r h = let z : ◌≡◌ {A = ℕ} 0 1 = cc in absurd (omega arith)

-- as many tones as messages
pub turn_length : (start : ℕ) (ms : List (List ℕ)) {ts : List Tone} → read_in_turn start ms ≡ accepted ts → length ts ≡ length ms
unfolding read_in_turn
turn_length start [] {ts} e = let z : ts ≡ [] = cc in rw z refl
turn_length start (m ∷ ms) {ts} e = let f = turn_first start m ms e in ap length f.all ∙ ap suc (turn_length (start + length m) ms f.behind)

-- each tone is what its message reads as
pub turn_nth : (none : Tone) (start : ℕ) (ms : List (List ℕ)) {ts : List Tone} → read_in_turn start ms ≡ accepted ts → (n : ℕ) → n < length ts → read_tone (get_or ms n []) ≡ accepted (get_or ts n none)
unfolding read_in_turn
turn_nth none start [] {ts} e n h = let z : ts ≡ [] = cc in absurd (omega (arith, ap length z))
turn_nth none start (m ∷ ms) {ts} e zero h = let f = turn_first start m ms e in f.reads ∙ ap (λ (l : List Tone). accepted (get_or l 0 none)) (sym f.all)
turn_nth none start (m ∷ ms) {ts} e (suc n) h =
    let f = turn_first start m ms e in
    turn_nth none (start + length m) ms f.behind n (omega (arith, ap length f.all)) ∙ ap (λ (l : List Tone). accepted (get_or l (suc n) none)) (sym f.all)

-- ---- a pack that is accepted

-- what each demand of reading says of it
pub record Met (p : List ℕ) (ts : List Tone) : Type 0 where
  pub most : length p ≤ most_pack
  pub least : 4 ≤ length p
  pub adds : first_row p + 4 * count p + 4 ≡ length p
  pub rows : continues 0 (rows_in p) (first_row p) ≡ true
  pub turns : read_in_turn 0 (messages_in p) ≡ accepted ts

pub met : (p : List ℕ) {ts : List Tone} → read_pack p ≡ accepted ts → Met p ts
unfolding read_pack
met p e =
    let w = read_in_turn 0 (messages_in p) in
    let z = demand (continues 0 (rows_in p) (first_row p)) 27 w in
    let y = demand (eqb (first_row p + 4 * count p + 4) (length p)) 26 z in
    let a = demanded (leb (length p) most_pack) 1 (demand (leb 4 (length p)) 2 y) e in
    let b = demanded (leb 4 (length p)) 2 y a.1 in
    let c = demanded (eqb (first_row p + 4 * count p + 4) (length p)) 26 z b.1 in
    let d = demanded (continues 0 (rows_in p) (first_row p)) 27 w c.1 in
    record { most = leb-true (length p) most_pack a.0; least = leb-true 4 (length p) b.0; adds = eqb-true (first_row p + 4 * count p + 4) (length p) c.0; rows = d.0; turns = d.1 }

-- the answer is the count
pub read_count : (p : List ℕ) {ts : List Tone} → Met p ts → length ts ≡ count p
read_count p m = turn_length 0 (messages_in p) m.turns ∙ length_cut (lengths_in (rows_in p)) p ∙ length-map (rows_in p) (λ (r : Row). r.length) ∙ length_rows_at (count p) p (first_row p)

-- the lengths add up to where the rows begin
pub lengths_add_up : (p : List ℕ) {ts : List Tone} → Met p ts → sum (lengths_in (rows_in p)) ≡ first_row p
lengths_add_up p m = omega (arith, continues_sum 0 (rows_in p) (first_row p) m.rows)

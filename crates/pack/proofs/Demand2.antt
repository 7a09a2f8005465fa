-- Demand 2 of the rules: a pack is accepted exactly if it is the writing of some list of well-formed tones.
use Prim.Native.Nat.{ℕ, zero, suc, ◌+◌, ◌-◌, ◌*◌, ◌≤◌}
use native.Mathlib.Omega.{arith}
use mathlib.Core.Path.{◌≡◌, refl, sym, ap, ap₂, subst, ◌∙◌}
use mathlib.Core.Logic.{◌↔◌}
use mathlib.Core.Bool.{true}
use mathlib.Core.List.{List, [], ◌∷◌, ◌++◌, append_assoc}
use lib.ListN.{length, take, drop, length-append, length-map, take-append-drop, drop_of_length-le}
use lib.Seq.{length-take-le}
use lib.Dec.{eqb}
use borrow.Author.Tests.{le-leb, eq-eqb, eqb-true}
use Rattle.bits.specs.Bits.{Octets}
use Rattle.bits.specs.Outcome.{accepted}
use Rattle.bits.proofs.Choice.{both}
use Rattle.tone.specs.Tone.{Tone}
use Rattle.tone.specs.Writing.{tone_octets}
use Rattle.tone.proofs.Demand2.{accepted_is_written, written_is_accepted}
use Rattle.inside.specs.Inside.{number, pair, join, lengths, sum, cut}
use Rattle.inside.proofs.Pairs.{number_pair, pair_number}
use Rattle.inside.proofs.Stretches.{length_join, lengths_cut, join_cut, cut_join, AllOctets, octets_cut}
use Rattle.pack.specs.Pack.{most_pack, rows_from, pack_of, messages_of, pack_octets, AllFormed, Packable, Row, rows_at, lengths_in, first_row, count, rows_in, messages_in, continues, read_in_turn, read_pack}
use Rattle.pack.proofs.Rules.{length_rows_from, length_pack_of, length_rows_at, turn_first, Met, met, lengths_add_up}

-- ---- messages in turn

-- the messages of well-formed tones are accepted, as these tones
pub turn_written : (start : ℕ) (ts : List Tone) → AllFormed ts → read_in_turn start (messages_of ts) ≡ accepted ts
unfolding read_in_turn
turn_written start [] f = refl
turn_written start (t ∷ ts) f = rw (written_is_accepted t f.0, turn_written (start + length (tone_octets t)) ts f.1) refl

-- messages that are accepted are those of well-formed tones
turn_accepted : (start : ℕ) (ms : List (List ℕ)) {ts : List Tone} → AllOctets ms → read_in_turn start ms ≡ accepted ts → AllFormed ts × (messages_of ts ≡ ms)
unfolding read_in_turn
turn_accepted start [] {ts} o e = let z : ts ≡ [] = cc in (subst AllFormed (sym z) tt, ap messages_of z)
turn_accepted start (m ∷ ms) {ts} o e =
    let f = turn_first start m ms e in
    let a = accepted_is_written m f.tone o.0 f.reads in
    let b = turn_accepted (start + length m) ms o.1 f.behind in
    (subst AllFormed (sym f.all) (a.0, b.0), ap messages_of f.all ∙ ap₂ (λ (x : List ℕ) (xs : List (List ℕ)). x ∷ xs) a.1 b.1)

-- by their lengths and octets alone
pub turn_exactly : (start : ℕ) (ns octets : List ℕ) {ts : List Tone} → Octets octets → read_in_turn start (cut ns octets) ≡ accepted ts → AllFormed ts × (messages_of ts ≡ cut ns octets)
turn_exactly start ns octets o e = turn_accepted start (cut ns octets) (octets_cut ns octets o) e

-- ---- rows that were written

-- the rows of lengths
abbrev rows_of : ℕ → List ℕ → List Row
rows_of start [] = []
rows_of start (n ∷ ns) = record { start = start; length = n } ∷ rows_of (start + n) ns

lengths_rows_of : (start : ℕ) (ns : List ℕ) → lengths_in (rows_of start ns) ≡ ns
lengths_rows_of start [] = refl
lengths_rows_of start (n ∷ ns) = ap (λ (xs : List ℕ). n ∷ xs) (lengths_rows_of (start + n) ns)

continues_rows_of : (start : ℕ) (ns : List ℕ) → continues start (rows_of start ns) (start + sum ns) ≡ true
unfolding continues
continues_rows_of start [] = eq-eqb start (start + 0) (omega arith)
continues_rows_of start (n ∷ ns) =
    let e : start + n + sum ns ≡ start + (n + sum ns) = omega arith in
    rw (eq-eqb start start refl, ← e) (continues_rows_of (start + n) ns)

-- rows that stand behind a front are read there
rows_written : (front rest : List ℕ) (start : ℕ) (ns : List ℕ) → rows_at (length ns) (front ++ (rows_from start ns ++ rest)) (length front) ≡ rows_of start ns
rows_written front rest start [] = refl
rows_written front rest start (n ∷ ns) =
    let more = rows_from (start + n) ns ++ rest in
    let p = front ++ (pair start ++ (pair n ++ more)) in
    let a : number p (length front) ≡ start = number_pair front (pair n ++ more) start in
    let q : (front ++ pair start) ++ (pair n ++ more) ≡ p = append_assoc front (pair start) (pair n ++ more) in
    let b : number p (length front + 2) ≡ n = ap₂ number (sym q) (sym (length-append front (pair start))) ∙ number_pair (front ++ pair start) more n in
    let w : (front ++ (pair start ++ pair n)) ++ more ≡ p = append_assoc front (pair start ++ pair n) more in
    let c : rows_at (length ns) p (length front + 4) ≡ rows_of (start + n) ns =
    ap₂ (rows_at (length ns)) (sym w) (sym (length-append front (pair start ++ pair n))) ∙ rows_written (front ++ (pair start ++ pair n)) rest (start + n) ns in
    ap₂ (λ (r : Row) (rs : List Row). r ∷ rs) (ap₂ (λ (x y : ℕ). record { start = x; length = y }) a b) c

-- ---- what was written is accepted

module _ (ts : List Tone) (k : Packable ts) where
  abbrev ms : List (List ℕ)
  ms = messages_of ts

  abbrev octets : List ℕ
  octets = join ms

  abbrev ns : List ℕ
  ns = lengths ms

  abbrev rows : List ℕ
  rows = rows_from 0 ns

  abbrev p : List ℕ
  p = pack_octets ts

  long : length p ≡ length octets + 4 * length ns + 4
  unfolding pack_octets
  long = length_pack_of octets ns

  -- where its rows begin
  pub first_there : first_row p ≡ length octets
  unfolding pack_octets pack_of
  first_there =
      let front = octets ++ (rows ++ pair (length ns)) in
      let e : front ++ (pair (length octets) ++ []) ≡ pack_of octets ns = append_assoc octets (rows ++ pair (length ns)) (pair (length octets)) ∙ ap (λ (l : List ℕ). octets ++ l) (append_assoc rows (pair (length ns)) (pair (length octets))) in
      let h : length (pack_of octets ns) - 2 ≡ length front = omega (arith, long, length-append octets (rows ++ pair (length ns)), length-append rows (pair (length ns)), length_rows_from 0 ns) in
      ap₂ number (sym e) h ∙ number_pair front [] (length octets)

  count_there : count p ≡ length ns
  unfolding pack_octets pack_of
  count_there =
      let front = octets ++ rows in
      let e : front ++ (pair (length ns) ++ pair (length octets)) ≡ pack_of octets ns = append_assoc octets rows (pair (length ns) ++ pair (length octets)) in
      let h : length (pack_of octets ns) - 4 ≡ length front = omega (arith, long, length-append octets rows, length_rows_from 0 ns) in
      ap₂ number (sym e) h ∙ number_pair front (pair (length octets)) (length ns)

  rows_there : rows_in p ≡ rows_of 0 ns
  unfolding pack_octets pack_of
  rows_there = ap₂ (λ (x y : ℕ). rows_at x p y) count_there first_there ∙ rows_written octets (pair (length ns) ++ pair (length octets)) 0 ns

  rows_continue : continues 0 (rows_in p) (first_row p) ≡ true
  rows_continue = let e : length octets ≡ 0 + sum ns = omega (arith, length_join ms) in rw (rows_there, first_there, e) (continues_rows_of 0 ns)

  -- the messages in it are these, and its rows have their lengths
  pub lengths_there : lengths_in (rows_in p) ≡ ns
  lengths_there = ap lengths_in rows_there ∙ lengths_rows_of 0 ns

  pub messages_there : messages_in p ≡ ms
  unfolding pack_octets pack_of
  messages_there = rw lengths_there (cut_join ms (rows ++ (pair (length ns) ++ pair (length octets))))

  -- the pack of well-formed tones is accepted, as these tones
  pub pack_is_accepted : read_pack p ≡ accepted ts
  unfolding read_pack
  pack_is_accepted =
      let a : length p ≤ most_pack = omega (arith, long, k.size) in
      let b : 4 ≤ length p = omega (arith, long) in
      let c : first_row p + 4 * count p + 4 ≡ length p = omega (arith, long, first_there, count_there) in
      rw (le-leb (length p) most_pack a, le-leb 4 (length p) b, eq-eqb (first_row p + 4 * count p + 4) (length p) c, rows_continue, messages_there) (turn_written 0 ts k.each)

-- ---- what is accepted was written

-- rows that continue each other are the writing of their lengths
rows_octets : (n : ℕ) (p : List ℕ) (i at end : ℕ) → Octets p → i + 4 * n ≤ length p → continues at (rows_at n p i) end ≡ true
    → drop i p ≡ rows_from at (lengths_in (rows_at n p i)) ++ drop (i + 4 * n) p
unfolding continues
rows_octets zero p i at end o h c = let e : i ≡ i + 4 * 0 = omega arith in ap (λ (k : ℕ). drop k p) e
rows_octets (suc n) p i at end o h c =
    let l = number p (i + 2) in
    let q = both (eqb (number p i) at) (continues (at + l) (rows_at n p (i + 4)) end) c in
    let a : number p i ≡ at = eqb-true (number p i) at q.0 in
    let e : i + 2 + 2 ≡ i + 4 = omega arith in
    let f : i + 4 + 4 * n ≡ i + 4 * suc n = omega arith in
    let d₁ : drop i p ≡ pair at ++ drop (i + 2) p = pair_number p i o (omega arith) ∙ ap (λ (x : ℕ). pair x ++ drop (i + 2) p) a in
    let d₂ : drop (i + 2) p ≡ pair l ++ drop (i + 4) p = pair_number p (i + 2) o (omega arith) ∙ ap (λ (k : ℕ). pair l ++ drop k p) e in
    let d₃ = rows_octets n p (i + 4) (at + l) end o (omega arith) q.1 in
    d₁ ∙ ap (λ (x : List ℕ). pair at ++ x) (d₂ ∙ ap (λ (x : List ℕ). pair l ++ x) (d₃ ∙ ap (λ (k : ℕ). rows_from (at + l) (lengths_in (rows_at n p (i + 4))) ++ drop k p) f))

module _ (p : List ℕ) (ts : List Tone) (o : Octets p) (e : read_pack p ≡ accepted ts) where
  m : Met p ts
  m = met p e

  turns : AllFormed ts × (messages_of ts ≡ messages_in p)
  turns = turn_exactly 0 (lengths_in (rows_in p)) p o m.turns

  inside : first_row p ≤ length p
  inside = omega (arith, m.adds)

  -- the messages are what stands ahead of the rows, and have the lengths that the rows have
  octets_are : join (messages_of ts) ≡ take (first_row p) p
  octets_are = ap join turns.1 ∙ join_cut (lengths_in (rows_in p)) p ∙ ap (λ (k : ℕ). take k p) (lengths_add_up p m)

  lengths_are : lengths (messages_of ts) ≡ lengths_in (rows_in p)
  lengths_are = ap lengths turns.1 ∙ lengths_cut (lengths_in (rows_in p)) p (omega (arith, lengths_add_up p m, inside))

  many : length (lengths_in (rows_in p)) ≡ count p
  many = length-map (rows_in p) (λ (r : Row). r.length) ∙ length_rows_at (count p) p (first_row p)

  -- the last four octets
  ending : drop (first_row p + 4 * count p) p ≡ pair (count p) ++ pair (first_row p)
  ending =
      let i = first_row p + 4 * count p in
      let a : length p - 4 ≡ i = omega (arith, m.adds) in
      let b : length p - 2 ≡ i + 2 = omega (arith, m.adds) in
      let d : drop (i + 2 + 2) p ≡ [] = drop_of_length-le p {i = i + 2 + 2} (omega (arith, m.adds)) in
      pair_number p i o (omega (arith, m.adds))
      ∙ ap₂ (λ (x : ℕ) (y : List ℕ). pair x ++ y) (ap (number p) (sym a))
      (pair_number p (i + 2) o (omega (arith, m.adds)) ∙ ap₂ (λ (x : ℕ) (y : List ℕ). pair x ++ y) (ap (number p) (sym b)) d)

  pub pack_is_written : pack_octets ts ≡ p
  unfolding pack_octets pack_of
  pack_is_written =
      let l : length (take (first_row p) p) ≡ first_row p = length-take-le (first_row p) p inside in
      ap₂ pack_of octets_are lengths_are
      ∙ ap₂ (λ (x y : ℕ). take (first_row p) p ++ (rows_from 0 (lengths_in (rows_in p)) ++ (pair x ++ pair y))) many l
      ∙ ap (λ (x : List ℕ). take (first_row p) p ++ (rows_from 0 (lengths_in (rows_in p)) ++ x)) (sym ending)
      ∙ ap (λ (x : List ℕ). take (first_row p) p ++ x) (sym (rows_octets (count p) p (first_row p) 0 (first_row p) o (omega (arith, m.adds)) m.rows))
      ∙ take-append-drop (first_row p) p

  -- and its tones are well formed, and not too many
  pub pack_is_packable : Packable ts
  unfolding pack_octets
  pack_is_packable = record { each = turns.0; size = omega (arith, m.most, sym (length_pack_of (join (messages_of ts)) (lengths (messages_of ts))) ∙ ap length pack_is_written) }

-- ---- both

-- a pack is accepted as the tones ts exactly if these can be packed and the pack is their writing
pub pack_exactly : (p : List ℕ) (ts : List Tone) → Octets p → (read_pack p ≡ accepted ts) ↔ (Packable ts × (pack_octets ts ≡ p))
pack_exactly p ts o = (λ e. (pack_is_packable p ts o e, pack_is_written p ts o e), λ k. ap read_pack (sym k.1) ∙ pack_is_accepted ts k.0)

-- two lists of tones with one pack are one list
pub one_pack : (ts us : List Tone) → Packable ts → Packable us → pack_octets ts ≡ pack_octets us → ts ≡ us
one_pack ts us j k e = let q : accepted ts ≡ accepted us = sym (pack_is_accepted ts j) ∙ ap read_pack e ∙ pack_is_accepted us k in cc

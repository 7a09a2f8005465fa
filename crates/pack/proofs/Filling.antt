-- What filling a pack leaves in the buffer, and what each return of `write` shows.
use Prim.Native.Nat.{ℕ, suc, ◌+◌, ◌-◌, ◌*◌, ◌≤◌, ◌<◌}
use native.Mathlib.Omega.{arith}
use native.Mathlib.Numerals.{add-one}
use native.Mathlib.Nat.{add-zero}
use mathlib.Core.Path.{◌≡◌, refl, sym, ap, ap₂, ◌∙◌}
use mathlib.Core.List.{List, [], ◌∷◌, ◌++◌}
use lib.ListN.{length, get_or, take, drop, set, length-append, length-drop, drop_of_length-le}
use lib.Seq.{sets, length-sets, sets-eq, drop-cons, drop-drop, take-append_seam, drop-append-add}
use lib.Dec.{leb}
use mir.Val.{Fits}
use mir.Syntax.{w64}
use borrow.Author.Tests.{le-leb, lt-leb, eq-eqb, ne_eqb}
use Rattle.std.specs.Prelude.{Result, Ok, Err, ⊤}
use Rattle.bits.specs.Outcome.{accepted, demand}
use Rattle.bits.specs.Places.{octet_count}
use Rattle.bits.specs.Refusals.{refusal}
use Rattle.bits.specs.declared.refusal.Refusal.{Refusal}
use Rattle.tone.specs.Tone.{Tone}
use Rattle.inside.specs.Inside.{pair, sum, cut}
use Rattle.written.proofs.Unique.{written, unwritten}
use Rattle.pack.specs.Pack.{most_pack, rows_from, pack_of, pack_length, read_in_turn, write_pack}
use Rattle.pack.specs.Answers.{turn_of}
use Rattle.pack.specs.Promises.{WritePromise}
use Rattle.inside.proofs.Answered.{refusal_there, accepted_there}
use Rattle.pack.proofs.Numbered.{turn_numbered}
use Rattle.pack.proofs.Turning.{wider}
use Rattle.pack.proofs.Rules.{length_rows_from, length_pack_of}

-- ---- cells put one behind the other

pub sets_append : (l : List ℕ) (i : ℕ) (xs ys : List ℕ) → sets l i (xs ++ ys) ≡ sets (sets l i xs) (i + length xs) ys
sets_append l i [] ys = ap (λ (k : ℕ). sets l k ys) (sym (add-zero i))
sets_append l i (x ∷ xs) ys =
    let e : suc i + length xs ≡ i + suc (length xs) = omega arith in
    sets_append (set l i x) (suc i) xs ys ∙ ap (λ (k : ℕ). sets (sets (set l i x) (suc i) xs) k ys) e

-- ---- rows

module _ (out : List ℕ) (at start n : ℕ) {out₁ : List ℕ} (e₁ : out₁ ≡ sets out at (pair start)) where
  pub row_room : at + 4 ≤ length out → at + 2 + 2 ≤ length out₁
  row_room h = let l = length-sets out at (pair start) in omega (arith, ap length e₁, l)

  pub row_put : {out₂ : List ℕ} → out₂ ≡ sets out₁ (at + 2) (pair n) → out₂ ≡ sets out at (pair start ++ pair n)
  row_put e₂ = e₂ ∙ ap (λ (l : List ℕ). sets l (at + 2) (pair n)) e₁ ∙ sym (sets_append out at (pair start) (pair n))

  pub row_same : {out₂ : List ℕ} → out₂ ≡ sets out₁ (at + 2) (pair n) → length out₂ ≡ length out
  row_same e₂ = ap length (row_put e₂) ∙ length-sets out at (pair start ++ pair n)

pub ruleset one_row = (row_room, row_put, row_same)

-- the rows of the lengths from i on are still to be put
pub record Rowing (ns old : List ℕ) (from : ℕ) (out : List ℕ) (start at i : ℕ) : Type 0 where
  pub whole : sets out at (rows_from start (drop i ns)) ≡ sets old from (rows_from 0 ns)
  pub long : length out ≡ length old
  pub room : at + 4 * (length ns - i) ≤ length old
  pub sums : start + sum (drop i ns) ≡ sum ns

module _ (ns old : List ℕ) (from : ℕ) where
  pub rowing_begin : from + 4 * length ns ≤ length old → Rowing ns old from old 0 from 0
  rowing_begin h = record { whole = refl; long = refl; room = omega arith; sums = omega arith }

  module _ {out : List ℕ} {start at i : ℕ} (r : Rowing ns old from out start at i) where
    pub rowing_same : length out ≡ length old
    rowing_same = r.long

    pub rowing_end : length ns ≤ i → out ≡ sets old from (rows_from 0 ns)
    rowing_end h = let e : drop i ns ≡ [] = drop_of_length-le ns h in sym (ap (λ (l : List ℕ). sets out at (rows_from start l)) e) ∙ r.whole

    module _ (h : i < length ns) where
      next : drop i ns ≡ get_or ns i 0 ∷ drop (i + 1) ns
      next = drop-cons ns i 0 h ∙ ap (λ (k : ℕ). get_or ns i 0 ∷ drop k ns) (sym (add-one i))

      added : start + (get_or ns i 0 + sum (drop (i + 1) ns)) ≡ sum ns
      added = ap (λ (l : List ℕ). start + sum l) (sym next) ∙ r.sums

      pub rowing_room : at + 4 ≤ length out
      rowing_room = omega (arith, r.long, r.room)

      pub rowing_start : sum ns < 65536 → start < 65536
      rowing_start k = omega (arith, added)

      pub rowing_length : sum ns < 65536 → get_or ns i 0 < 65536
      rowing_length k = omega (arith, added)

      pub rowing_fits : sum ns < 65536 → Fits w64 (start + get_or ns i 0)
      rowing_fits k = record { fits = omega (arith, added) }

      pub rowing_turn : {out₁ : List ℕ} → out₁ ≡ sets out at (pair start ++ pair (get_or ns i 0)) → Rowing ns old from out₁ (start + get_or ns i 0) (at + 4) (i + 1)
      rowing_turn {out₁} e =
          let n = get_or ns i 0 in
          record {
            whole = ap (λ (l : List ℕ). sets l (at + 4) (rows_from (start + n) (drop (i + 1) ns))) e
                ∙ sym (sets_append out at (pair start ++ pair n) (rows_from (start + n) (drop (i + 1) ns)))
                ∙ ap (λ (l : List ℕ). sets out at (rows_from start l)) (sym next)
                ∙ r.whole;
            long = ap length e ∙ length-sets out at (pair start ++ pair n) ∙ r.long;
            room = omega (arith, r.room);
            sums = omega (arith, added);
          }

pub ruleset rowings = (rowing_begin, rowing_same, rowing_end, rowing_room, rowing_start, rowing_length, rowing_fits, rowing_turn, wider)

-- ---- the whole pack

module _ (octets ns out : List ℕ) (room : pack_length octets ns ≤ length out) where
  -- the rows, how many there are, and where they begin
  abbrev tail : List ℕ
  tail = rows_from 0 ns ++ (pair (length ns) ++ pair (length octets))

  module _ {out₁ : List ℕ} (e₁ : out₁ ≡ octets ++ drop (length octets) out) where
    pub filled_octets : length out₁ ≡ length out
    filled_octets = ap length e₁ ∙ length-append octets (drop (length octets) out) ∙ ap (λ (k : ℕ). length octets + k) (length-drop (length octets) out) ∙ omega arith

    pub filled_rows_room : length octets + 4 * length ns ≤ length out₁
    filled_rows_room = omega (arith, filled_octets)

    module _ {out₂ : List ℕ} (e₂ : out₂ ≡ sets out₁ (length octets) (rows_from 0 ns)) where
      pub filled_count_room : length octets + 4 * length ns + 2 ≤ length out₂
      filled_count_room = let l = length-sets out₁ (length octets) (rows_from 0 ns) in omega (arith, filled_octets, ap length e₂, l)

      module _ {out₃ : List ℕ} (e₃ : out₃ ≡ sets out₂ (length octets + 4 * length ns) (pair (length ns))) where
        pub filled_first_room : length octets + 4 * length ns + 2 + 2 ≤ length out₃
        filled_first_room =
            let l = length-sets out₁ (length octets) (rows_from 0 ns) in
            let k = length-sets out₂ (length octets + 4 * length ns) (pair (length ns)) in
            omega (arith, filled_octets, ap length e₂, ap length e₃, l, k)

        module _ {out₄ : List ℕ} (e₄ : out₄ ≡ sets out₃ (length octets + 4 * length ns + 2) (pair (length octets))) where
          -- put one behind the other, they are put at once
          at_once : out₄ ≡ sets out₁ (length octets) tail
          at_once =
              let n = length octets in
              let r = rows_from 0 ns in
              let h : n + length r ≡ n + 4 * length ns = ap (λ (k : ℕ). n + k) (length_rows_from 0 ns) in
              e₄
              ∙ ap (λ (l : List ℕ). sets l (n + 4 * length ns + 2) (pair n)) e₃
              ∙ sym (sets_append out₂ (n + 4 * length ns) (pair (length ns)) (pair n))
              ∙ ap₂ (λ (l : List ℕ) (k : ℕ). sets l k (pair (length ns) ++ pair n)) e₂ (sym h)
              ∙ sym (sets_append out₁ n r (pair (length ns) ++ pair n))

          pub filled_pack : out₄ ≡ pack_of octets ns ++ drop (pack_length octets ns) out
          unfolding pack_of
          filled_pack =
              let n = length octets in
              let h : n + length tail ≡ pack_length octets ns = sym (length-append octets tail) ∙ length_pack_of octets ns in
              let f : take n out₁ ≡ octets = ap (take n) e₁ ∙ take-append_seam octets (drop n out) in
              let g : drop (n + length tail) out₁ ≡ drop (pack_length octets ns) out =
              ap (drop (n + length tail)) e₁ ∙ drop-append-add octets (drop n out) (length tail) ∙ drop-drop (length tail) n out ∙ ap (λ (k : ℕ). drop k out) h in
              at_once
              ∙ sets-eq tail out₁ n (omega (arith, h, filled_octets))
              ∙ ap₂ (λ (a b : List ℕ). a ++ tail ++ b) f g

          pub filled_same : length out₄ ≡ length out
          filled_same = ap length at_once ∙ length-sets out₁ (length octets) tail ∙ filled_octets

pub ruleset fillings = (filled_octets, filled_rows_room, filled_count_room, filled_first_room, filled_pack, filled_same)

-- ---- write

module _ (octets ns out : List ℕ) where
  pub write_long : {r : Refusal} → r ≡ refusal 1 0 → most_pack < pack_length octets ns → WritePromise octets ns out out (Err r)
  unfolding write_pack
  write_long z h = unwritten (write_pack octets ns (length out)) out (rw (z, lt-leb (pack_length octets ns) most_pack h) refl)

  pub write_octets_long : {r : Refusal} → r ≡ refusal 1 0 → 65531 < length octets → WritePromise octets ns out out (Err r)
  write_octets_long z h = write_long z (omega arith)

  module _ (a : pack_length octets ns ≤ most_pack) {total : ℕ} (s : total ≡ sum ns) where
    pub write_apart : {r : Refusal} → r ≡ refusal 27 0 → (total ≡ length octets → ⊥) → WritePromise octets ns out out (Err r)
    unfolding write_pack
    write_apart z h = unwritten (write_pack octets ns (length out)) out (rw (z, le-leb (pack_length octets ns) most_pack a, ← s, ne_eqb total (length octets) h) refl)

    module _ (b : total ≡ length octets) {j : Result ⊤ Refusal} (q : j ≡ turn_of (read_in_turn 0 (cut ns octets))) where
      pub write_bad : {r : Refusal} → j ≡ Err r → WritePromise octets ns out out (Err r)
      unfolding write_pack
      write_bad {r} g =
          let there = refusal_there (λ (ts : List Tone). tt) (read_in_turn 0 (cut ns octets)) (turn_numbered 0 (cut ns octets)) (sym g ∙ q) in
          unwritten (write_pack octets ns (length out)) out (rw (le-leb (pack_length octets ns) most_pack a, ← s, eq-eqb total (length octets) b, there) refl)

      module _ {u : ⊤} (g : j ≡ Ok u) where
        -- nothing is left but the room
        write_turns : write_pack octets ns (length out) ≡ demand (leb (pack_length octets ns) (length out)) 11 (accepted (pack_of octets ns))
        unfolding write_pack
        write_turns =
            let there = accepted_there (λ (ts : List Tone). tt) (read_in_turn 0 (cut ns octets)) (sym g ∙ q) in
            rw (le-leb (pack_length octets ns) most_pack a, ← s, eq-eqb total (length octets) b, there.1) refl

        pub write_small : {r : Refusal} → r ≡ refusal 11 0 → length out < pack_length octets ns → WritePromise octets ns out out (Err r)
        write_small z h = unwritten (write_pack octets ns (length out)) out (write_turns ∙ (rw (z, lt-leb (pack_length octets ns) (length out) h) refl))

        pub write_done : pack_length octets ns ≤ length out → {out' : List ℕ} → out' ≡ pack_of octets ns ++ drop (pack_length octets ns) out → WritePromise octets ns out out' (Ok (octet_count (pack_length octets ns)))
        write_done h {out'} e =
            written (write_pack octets ns (length out)) out out' (pack_of octets ns)
            (write_turns ∙ (rw (le-leb (pack_length octets ns) (length out) h) refl))
            (sym (length_pack_of octets ns))
            (e ∙ ap (λ (k : ℕ). pack_of octets ns ++ drop k out) (sym (length_pack_of octets ns)))

pub ruleset writings = (write_long, write_octets_long, write_apart, write_bad, write_small, write_done)

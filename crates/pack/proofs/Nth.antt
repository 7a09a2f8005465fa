-- The nth message of a pack: which ground against finding it is given, and what its row is.
use Prim.Native.Nat.{ℕ, zero, suc, ◌+◌, ◌*◌, ◌≤◌, ◌<◌}
use native.Mathlib.Omega.{arith}
use mathlib.Core.Path.{◌≡◌, refl, sym, ap, ◌∙◌}
use mathlib.Core.Bool.{Bool, true, false}
use mathlib.Core.List.{List, [], ◌∷◌}
use lib.ListN.{length, get_or, take, length-map, get_or-map}
use lib.Dec.{ltb, eqb}
use borrow.Author.Tests.{lt-ltb, le-ltb, ltb-true, ltb-false, eqb-true}
use Rattle.bits.specs.Outcome.{Outcome, accepted, refused}
use Rattle.bits.proofs.Choice.{both}
use Rattle.tone.specs.Tone.{Tone}
use mir.Val.{Fits}
use mir.Syntax.{w64}
use Rattle.inside.specs.Inside.{number, sum}
use Rattle.pack.specs.Pack.{most_pack, Row, row_at, rows_at, lengths_in, first_row, count, rows_in, continues, read_pack, no_row, nth_row}
use Rattle.pack.proofs.Turning.{continues_sum}
use Rattle.pack.proofs.Rules.{length_rows_at, Met, met, read_count}

-- ---- the grounds

module _ (p : List ℕ) where
  -- the pack's own refusal, whatever n is
  pub pack_first : (n : ℕ) {k f : ℕ} → read_pack p ≡ refused k f → nth_row p n ≡ refused k f
  unfolding nth_row
  pack_first n e = rw e refl

  -- then 12, and only for a sound pack
  pub no_message : (n : ℕ) {ts : List Tone} → read_pack p ≡ accepted ts → length ts ≤ n → nth_row p n ≡ refused 12 0
  unfolding nth_row
  no_message n {ts} e h = rw (e, le-ltb n (length ts) h) refl

  -- else its row
  pub a_message : (n : ℕ) {ts : List Tone} → read_pack p ≡ accepted ts → n < length ts → nth_row p n ≡ accepted (get_or (rows_in p) n no_row)
  unfolding nth_row
  a_message n {ts} e h = rw (e, lt-ltb n (length ts) h) refl

-- ---- the nth row

-- it stands behind so many rows
pub nth_rows_at : (k : ℕ) (p : List ℕ) (at n : ℕ) → n < k → get_or (rows_at k p at) n no_row ≡ row_at p (at + 4 * n)
nth_rows_at zero p at n h = absurd (omega arith)
nth_rows_at (suc k) p at zero h = let e : at ≡ at + 4 * 0 = omega arith in ap (row_at p) e
nth_rows_at (suc k) p at (suc n) h = let e : at + 4 + 4 * n ≡ at + 4 * suc n = omega arith in nth_rows_at k p (at + 4) n (omega arith) ∙ ap (row_at p) e

-- the lengths of rows that lie within octets
module _ (p : List ℕ) (from count : ℕ) where
  pub lengths_many : count ≡ length (lengths_in (rows_at count p from))
  lengths_many = sym (length-map (rows_at count p from) (λ (r : Row). r.length) ∙ length_rows_at count p from)

  module _ {i : ℕ} (h : i < length (lengths_in (rows_at count p from))) where
    among : i < count
    among = rw lengths_many h

    -- the nth stands in the nth row
    pub lengths_nth : {n : ℕ} → (n ≡ number p (from + 4 * i + 2)) × (n < 65536) → n ≡ get_or (lengths_in (rows_at count p from)) i 0
    lengths_nth e = e.0 ∙ sym (get_or-map (λ (r : Row). r.length) (rows_at count p from) i no_row ∙ ap (λ (r : Row). r.length) (nth_rows_at count p from i among))

    module _ (inside : from + 4 * count ≤ length p) where
      pub lengths_inside : from + 4 * i + 2 + 2 ≤ length p
      lengths_inside = omega (arith, among)

      module _ (short : length p ≤ 65535) where
        pub times_fit : Fits w64 (4 * i)
        times_fit = record { fits = omega (arith, lengths_inside) }

        pub start_fit : Fits w64 (from + 4 * i)
        start_fit = record { fits = omega (arith, lengths_inside) }

        pub length_fit : Fits w64 (from + 4 * i + 2)
        length_fit = record { fits = omega (arith, lengths_inside) }

pub ruleset row_lengths = (lengths_many, lengths_nth, lengths_inside, times_fit, start_fit, length_fit)

-- of rows that continue each other it starts where the lengths ahead of it end
pub nth_start : (at : ℕ) (rs : List Row) (end n : ℕ) → continues at rs end ≡ true → n < length rs → (get_or rs n no_row).start ≡ at + sum (take n (lengths_in rs))
unfolding continues
nth_start at [] end n h k = absurd (omega arith)
nth_start at (r ∷ rs) end zero h k = let e : r.start ≡ at = eqb-true r.start at (both (eqb r.start at) (continues (at + r.length) rs end) h).0 in omega arith
nth_start at (r ∷ rs) end (suc n) h k =
    let e = nth_start (at + r.length) rs end n (both (eqb r.start at) (continues (at + r.length) rs end) h).1 (omega arith) in
    omega arith

-- and ends within them
pub nth_ends : (at : ℕ) (rs : List Row) (end n : ℕ) → continues at rs end ≡ true → n < length rs → (get_or rs n no_row).start + (get_or rs n no_row).length ≤ end
unfolding continues
nth_ends at [] end n h k = absurd (omega arith)
nth_ends at (r ∷ rs) end zero h k =
    let q = both (eqb r.start at) (continues (at + r.length) rs end) h in
    let e : r.start ≡ at = eqb-true r.start at q.0 in
    omega (arith, continues_sum (at + r.length) rs end q.1)
nth_ends at (r ∷ rs) end (suc n) h k = nth_ends (at + r.length) rs end n (both (eqb r.start at) (continues (at + r.length) rs end) h).1 (omega arith)

-- ---- what is found

-- a row that is found: the pack is accepted, and the row is one of its own
pub record Nth (p : List ℕ) (n : ℕ) (r : Row) : Type 0 where
  pub tones : List Tone
  pub reads : read_pack p ≡ accepted tones
  pub there : n < length tones
  pub row : r ≡ get_or (rows_in p) n no_row

pub nth_there : (p : List ℕ) (n : ℕ) {r : Row} → nth_row p n ≡ accepted r → Nth p n r
nth_there p n {r} e = go (read_pack p) refl
  where
    go : (x : Outcome (List Tone)) → read_pack p ≡ x → Nth p n r
    go (refused k f) q = let w = sym (pack_first p n q) ∙ e in let z : ◌≡◌ {A = ℕ} 0 1 = cc in absurd (omega arith)
    go (accepted ts) q = within (ltb n (length ts)) refl
      where
        within : (b : Bool) → ltb n (length ts) ≡ b → Nth p n r
        within true h = let w = sym (a_message p n q (ltb-true n (length ts) h)) ∙ e in record { tones = ts; reads = q; there = ltb-true n (length ts) h; row = cc }
        within false h = let w = sym (no_message p n q (ltb-false n (length ts) h)) ∙ e in let z : ◌≡◌ {A = ℕ} 0 1 = cc in absurd (omega arith)

module _ (p : List ℕ) (n : ℕ) {r : Row} (e : nth_row p n ≡ accepted r) where
  nth_met : Met p (nth_there p n e).tones
  nth_met = met p (nth_there p n e).reads

  -- it is one of as many rows as messages
  pub nth_among : n < length (rows_in p)
  nth_among = rw (length_rows_at (count p) p (first_row p), ← read_count p nth_met) (nth_there p n e).there

  -- its stretch ends ahead of the rows, and so within the pack
  pub row_inside : r.start + r.length ≤ length p
  row_inside = let h = nth_ends 0 (rows_in p) (first_row p) n nth_met.rows nth_among in rw (nth_there p n e).row (omega (arith, h, nth_met.adds))

  pub row_short : length p ≤ most_pack
  row_short = nth_met.most

-- The loops that go along rows and lengths.
use Prim.Native.Nat.{ℕ, zero, suc, ◌+◌, ◌-◌, ◌*◌, ◌≤◌, ◌<◌}
use native.Mathlib.Omega.{arith}
use native.Mathlib.Numerals.{add-one}
use mathlib.Core.Path.{◌≡◌, refl, sym, ap, ap₂, subst, ◌∙◌}
use mathlib.Core.Bool.{true, false, ◌&&◌}
use mathlib.Core.List.{List, [], ◌∷◌}
use lib.ListN.{length, get_or, take, drop, length-drop, drop_of_length-le}
use lib.Seq.{length-take-le, drop-drop, drop-cons}
use lib.Dec.{eqb}
use mir.Val.{Fits}
use mir.Syntax.{w32, w64}
use borrow.Author.Tests.{eqb-true, eq-eqb, ne_eqb}
use Rattle.std.specs.Prelude.{Result, Ok, Err, ⊤}
use Rattle.bits.specs.Outcome.{Outcome, accepted, refused, and_then}
use Rattle.bits.specs.declared.refusal.Refusal.{Refusal}
use Rattle.bits.proofs.Choice.{both}
use Rattle.tone.specs.Tone.{Tone}
use Rattle.tone.specs.Reading.{read_tone}
use Rattle.inside.specs.Inside.{number, sum, cut, moved_by}
use Rattle.inside.specs.Answers.{inside_of}
use Rattle.pack.specs.Pack.{Row, rows_at, lengths_in, continues, read_in_turn}
use Rattle.pack.specs.Answers.{turn_of}

-- ---- rows that continue each other

-- rows that continue each other from one octet up to another have lengths that add up to what lies between
pub continues_sum : (at : ℕ) (rs : List Row) (end : ℕ) → continues at rs end ≡ true → at + sum (lengths_in rs) ≡ end
unfolding continues
continues_sum at [] end h = omega (arith, eqb-true at end h)
continues_sum at (r ∷ rs) end h = omega (arith, continues_sum (at + r.length) rs end (both (eqb r.start at) (continues (at + r.length) rs end) h).1)

-- the rows that are left, and whether they continue each other, is what is left to be told
pub record Continuing (p : List ℕ) (rows n at row left : ℕ) : Type 0 where
  pub whole : continues 0 (rows_at n p rows) rows ≡ continues at (rows_at left p row) rows
  pub inside : row + 4 * left ≤ length p
  -- a start that was found equal is below 65,536, and `at` is a length more
  pub small : at < 131072

module _ (p : List ℕ) (rows n : ℕ) where
  pub continuing_begin : rows + 4 * n ≤ length p → Continuing p rows n 0 rows n
  continuing_begin h = record { whole = refl; inside = h; small = omega arith }

  module _ {at row left : ℕ} (c : Continuing p rows n at row left) where
    -- what is told of the next row and of those behind it
    next_row : 0 < left → continues 0 (rows_at n p rows) rows ≡ (eqb (number p row) at && continues (at + number p (row + 2)) (rows_at (left - 1) p (row + 4)) rows)
    unfolding continues
    next_row h = c.whole ∙ go left h
      where
        go : (k : ℕ) → 0 < k → continues at (rows_at k p row) rows ≡ (eqb (number p row) at && continues (at + number p (row + 2)) (rows_at (k - 1) p (row + 4)) rows)
        go zero h = absurd (omega arith)
        go (suc k) h = let e : suc k - 1 ≡ k = omega arith in rw e refl

    pub continuing_turn : 0 < left → {a b : ℕ} → (a ≡ number p row) × (a < 65536) → a ≡ at → (b ≡ number p (row + 2)) × (b < 65536) → Continuing p rows n (at + b) (row + 4) (left - 1)
    continuing_turn h {a} {b} e g f = record {
      whole = next_row h ∙ (rw (eq-eqb (number p row) at (sym e.0 ∙ g), ← f.0) refl);
      inside = omega (arith, c.inside);
      small = omega (arith, e.1, f.1);
    }

    pub continuing_not : 0 < left → {a : ℕ} → (a ≡ number p row) × (a < 65536) → (a ≡ at → ⊥) → false ≡ continues 0 (rows_at n p rows) rows
    continuing_not h {a} e g = sym (next_row h ∙ (rw (ne_eqb (number p row) at (λ (x : number p row ≡ at). g (e.0 ∙ x))) refl))

    pub continuing_end : left ≤ 0 → eqb at rows ≡ continues 0 (rows_at n p rows) rows
    unfolding continues
    continuing_end h = sym (c.whole ∙ go left h)
      where
        go : (k : ℕ) → k ≤ 0 → continues at (rows_at k p row) rows ≡ eqb at rows
        go zero h = refl
        go (suc k) h = absurd (omega arith)

  -- a turn, counted by the rows behind
  module _ {at i : ℕ} (c : Continuing p rows n at (rows + 4 * i) (n - i)) where
    pub counted_turn : i < n → {a b : ℕ} → (a ≡ number p (rows + 4 * i)) × (a < 65536) → a ≡ at → (b ≡ number p (rows + 4 * i + 2)) × (b < 65536)
        → Continuing p rows n (at + b) (rows + 4 * (i + 1)) (n - (i + 1))
    counted_turn h {a} {b} e g f =
        let r : rows + 4 * i + 4 ≡ rows + 4 * (i + 1) = omega arith in
        let l : n - i - 1 ≡ n - (i + 1) = omega arith in
        subst (λ (k : ℕ). Continuing p rows n (at + b) k (n - (i + 1))) r
        (subst (λ (k : ℕ). Continuing p rows n (at + b) (rows + 4 * i + 4) k) l (continuing_turn c (omega arith) e g f))

pub ruleset continuings = (continuing_begin, continuing_turn, continuing_not, continuing_end)

-- ---- messages in turn

-- what is left to be judged: messages of these lengths, from octet `at` on
pub record Turn (o : Outcome (List Tone)) (m ns : List ℕ) (at : ℕ) : Type 0 where
  pub resumes : turn_of o ≡ turn_of (read_in_turn at (cut ns (drop at m)))
  pub room : at + sum ns ≤ length m

module _ (m : List ℕ) where
  pub turn_begin : (ns : List ℕ) → sum ns ≤ length m → Turn (read_in_turn 0 (cut ns m)) m ns 0
  turn_begin ns h = record { resumes = refl; room = omega arith }

  module _ {o : Outcome (List Tone)} {ns : List ℕ} {at : ℕ} where
    pub turn_end : Turn o m ns at → ns ≡ [] → Ok tt ≡ turn_of o
    unfolding read_in_turn
    turn_end t e = sym (t.resumes ∙ (rw e refl))

    module _ {n : ℕ} (t : Turn o m (n ∷ ns) at) {j : Result ⊤ Refusal} (q : j ≡ inside_of (moved_by at (read_tone (take (at + n - at) (drop at m))))) where
      -- the message's own octets, and what they are
      own : take (at + n - at) (drop at m) ≡ take n (drop at m)
      own = let e : at + n - at ≡ n = omega arith in ap (λ (k : ℕ). take k (drop at m)) e

      judged : (x : Outcome Tone) → read_tone (take n (drop at m)) ≡ x → j ≡ inside_of (moved_by at x)
      judged x e = q ∙ ap (λ (y : List ℕ). inside_of (moved_by at (read_tone y))) own ∙ ap (λ (y : Outcome Tone). inside_of (moved_by at y)) e

      long : length (take n (drop at m)) ≡ n
      long = length-take-le n (drop at m) (rw (length-drop at m) (omega (arith, t.room)))

      pub turn_on : {u : ⊤} → j ≡ Ok u → Turn o m ns (at + n)
      unfolding read_in_turn
      turn_on g = record { resumes = t.resumes ∙ go (read_tone (take n (drop at m))) (judged (read_tone (take n (drop at m))) refl); room = omega (arith, t.room) }
        where
          rest : (k : Outcome (List Tone)) (a : Tone) → turn_of (and_then k (λ ts. accepted (a ∷ ts))) ≡ turn_of k
          rest (accepted ts) a = refl
          rest (refused n p) a = refl

          go : (x : Outcome Tone) → j ≡ inside_of (moved_by at x)
              → turn_of (and_then (moved_by at x) (λ a. and_then (read_in_turn (at + length (take n (drop at m))) (cut ns (drop n (drop at m)))) (λ ts. accepted (a ∷ ts)))) ≡ turn_of (read_in_turn (at + n) (cut ns (drop (at + n) m)))
          go (accepted a) e = rest (read_in_turn (at + length (take n (drop at m))) (cut ns (drop n (drop at m)))) a ∙ ap₂ (λ (k : ℕ) (l : List ℕ). turn_of (read_in_turn (at + k) (cut ns l))) long (drop-drop n at m)
          go (refused k f) e = cc

      pub turn_off : {r : Refusal} → j ≡ Err r → Err r ≡ turn_of o
      unfolding read_in_turn
      turn_off {r} g = sym g ∙ go (read_tone (take n (drop at m))) (judged (read_tone (take n (drop at m))) refl) ∙ sym t.resumes
        where
          go : (x : Outcome Tone) → j ≡ inside_of (moved_by at x)
              → j ≡ turn_of (and_then (moved_by at x) (λ a. and_then (read_in_turn (at + length (take n (drop at m))) (cut ns (drop n (drop at m)))) (λ ts. accepted (a ∷ ts))))
          go (accepted a) e = cc
          go (refused k f) e = e

-- ---- along lengths

-- a number of 32 bits fits 64
pub wider : {x : ℕ} → Fits w32 x → Fits w64 x
wider h = record { fits = omega (arith, h.fits) }

-- the messages of the lengths from i on are still to be judged
pub record AlongLengths (m ns : List ℕ) (at i : ℕ) : Type 0 where
  pub turn : Turn (read_in_turn 0 (cut ns m)) m (drop i ns) at

module _ (m ns : List ℕ) where
  pub lengths_begin : sum ns ≤ length m → AlongLengths m ns 0 0
  lengths_begin h = record { turn = turn_begin m ns h }

  module _ {at i : ℕ} (a : AlongLengths m ns at i) where
    module _ (h : i < length ns) {n : ℕ} (e : n ≡ get_or ns i 0) where
      next : Turn (read_in_turn 0 (cut ns m)) m (n ∷ drop (i + 1) ns) at
      next = subst (λ (xs : List ℕ). Turn (read_in_turn 0 (cut ns m)) m xs at) (drop-cons ns i 0 h ∙ ap₂ (λ (x k : ℕ). x ∷ drop k ns) (sym e) (sym (add-one i))) a.turn

      pub lengths_inside : at + n ≤ length m
      lengths_inside = omega (arith, next.room)

      pub lengths_fit : length m ≤ 65535 → Fits w64 (at + n)
      lengths_fit k = record { fits = omega (arith, next.room) }

      module _ {j : Result ⊤ Refusal} (q : j ≡ inside_of (moved_by at (read_tone (take (at + n - at) (drop at m))))) where
        pub lengths_turn : {u : ⊤} → j ≡ Ok u → AlongLengths m ns (at + n) (i + 1)
        lengths_turn g = record { turn = turn_on m next q g }

        pub lengths_bad : {r : Refusal} → j ≡ Err r → Err r ≡ turn_of (read_in_turn 0 (cut ns m))
        lengths_bad g = turn_off m next q g

    pub lengths_end : length ns ≤ i → Ok tt ≡ turn_of (read_in_turn 0 (cut ns m))
    lengths_end h = turn_end m a.turn (drop_of_length-le ns h)

pub ruleset along_lengths = (lengths_begin, lengths_inside, lengths_fit, lengths_turn, lengths_bad, lengths_end)

-- ---- what lengths add up to

-- the lengths ahead of i are added up
pub record Summing (ns : List ℕ) (total i : ℕ) : Type 0 where
  pub summed : total + sum (drop i ns) ≡ sum ns
  pub most : total ≤ 4294967295 * i

module _ (ns : List ℕ) where
  pub summing_begin : Summing ns 0 0
  summing_begin = record { summed = omega arith; most = omega arith }

  pub summing_turn : {total i : ℕ} → Summing ns total i → i < length ns → Fits w32 (get_or ns i 0) → Summing ns (total + get_or ns i 0) (i + 1)
  summing_turn {total} {i} s h b =
      let d : drop i ns ≡ get_or ns i 0 ∷ drop (i + 1) ns = drop-cons ns i 0 h ∙ ap (λ (k : ℕ). get_or ns i 0 ∷ drop k ns) (sym (add-one i)) in
      let e : sum (drop i ns) ≡ get_or ns i 0 + sum (drop (i + 1) ns) = ap sum d in
      record { summed = omega (arith, s.summed); most = omega (arith, s.most, b.fits) }

  pub summing_fits : {total i : ℕ} → length ns ≤ 65535 → Summing ns total i → i < length ns → Fits w32 (get_or ns i 0) → Fits w64 (total + get_or ns i 0)
  summing_fits {total} {i} k s h b = record { fits = omega (arith, s.most, b.fits) }

  pub summing_end : {total i : ℕ} → Summing ns total i → length ns ≤ i → total ≡ sum ns
  summing_end {total} {i} s h = let z : sum (drop i ns) ≡ 0 = ap sum (drop_of_length-le ns h) in omega (arith, s.summed)

pub ruleset summings = (summing_begin, summing_turn, summing_fits, summing_end, wider)

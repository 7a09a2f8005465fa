-- A sound pack yields its own messages as the first ones kept. Its rows may spell more.
use Prim.Native.Nat.{ℕ, ◌+◌, ◌-◌, ◌≤◌}
use native.Mathlib.Omega.{arith}
use mathlib.Core.Path.{◌≡◌, refl, sym, ap, ap₂, ◌∙◌}
use mathlib.Core.Bool.{true}
use mathlib.Core.List.{List, [], ◌∷◌, ◌++◌, map}
use lib.ListN.{length, take, drop, length-drop}
use lib.Seq.{length-take-le, take_all, drop-drop}
use lib.Dec.{eqb}
use borrow.Author.Tests.{le-leb, eqb-true}
use Rattle.bits.specs.Outcome.{accepted}
use Rattle.bits.proofs.Choice.{both}
use Rattle.tone.specs.Tone.{Tone}
use Rattle.tone.specs.Writing.{tone_length}
use Rattle.tone.specs.Reading.{read_tone, tone_at}
use Rattle.tone.proofs.Demand2.{read_well_formed}
use Rattle.tone.proofs.Largest.{octets_least}
use Rattle.tone.proofs.Stretch.{reads_stretch}
use Rattle.tone.proofs.Standing.{read_stands, stands_at}
use Rattle.inside.specs.Inside.{cut, sum}
use Rattle.pack.specs.Pack.{most_pack, Row, lengths_in, first_row, rows_in, continues, read_in_turn, read_pack}
use Rattle.pack.proofs.Rules.{turn_first, met}
use Rattle.pack.proofs.Turning.{continues_sum}
use Rattle.salvage.specs.Salvage.{counting, message_at, Piece, kept, taken, piece_at, pieces_from, pieces, kept_in, skipped_in}
use Rattle.salvage.proofs.Pieces.{piece_kept, onward, onward_next}

-- ---- messages back to back

module _ (p : List ℕ) (at n : ℕ) (h : at + n ≤ length p) {t : Tone} (q : read_tone (take n (drop at p)) ≡ accepted t) where
  -- a stretch that reads is the message that starts there
  reads_message : (message_at p at ≡ n) × (1 ≤ n)
  unfolding message_at
  reads_message =
      let z : at + n - at ≡ n = omega arith in
      let r = reads_stretch p at (at + n) (omega arith) h (ap (λ (k : ℕ). read_tone (take k (drop at p))) z ∙ q) in
      let s = read_stands p at (omega arith) r in
      let k : tone_length t ≡ n = omega (arith, s.0) in
      let w = read_well_formed (take n (drop at p)) t q in
      let e : tone_at p at ≡ n = stands_at p at (omega arith) s.1 ∙ k in
      let m : tone_at p at ≤ 4096 = omega (arith, e, k, w.size) in
      ((rw (le-leb (tone_at p at) 4096 m) e), omega (arith, k, octets_least t w.formed))

-- rows that continue each other, whose messages read, are kept one after the other
rows_kept : (p : List ℕ) (at : ℕ) (rs : List Row) (end : ℕ) {ts : List Tone} → end ≤ length p → continues at rs end ≡ true → read_in_turn at (cut (lengths_in rs) (drop at p)) ≡ accepted ts
    → onward p at ≡ map kept rs ++ onward p end
unfolding continues read_in_turn
rows_kept p at [] end l c q = let z : at ≡ end = eqb-true at end c in ap (onward p) z
rows_kept p at (r ∷ rs) end {ts} l c q =
    let n = r.length in
    let b = both (eqb r.start at) (continues (at + n) rs end) c in
    let s : r.start ≡ at = eqb-true r.start at b.0 in
    let u : at + n + sum (lengths_in rs) ≡ end = continues_sum (at + n) rs end b.1 in
    let m = take n (drop at p) in
    let k : length m ≡ n = length-take-le n (drop at p) (omega (arith, length-drop at p, u)) in
    let f = turn_first at m (cut (lengths_in rs) (drop n (drop at p))) q in
    let a = reads_message p at n (omega (arith, u)) f.reads in
    let d : message_at p at ≡ 0 → ⊥ = λ z. omega (arith, z, a.0, a.1) in
    let x : piece_at p at ≡ kept r = piece_kept p at d ∙ ap₂ (λ (i j : ℕ). kept (record { start = i; length = j })) (sym s) a.0 in
    let g : read_in_turn (at + n) (cut (lengths_in rs) (drop (at + n) p)) ≡ accepted f.others =
    ap₂ (λ (i : ℕ) (o : List ℕ). read_in_turn (at + i) (cut (lengths_in rs) o)) (sym k) (sym (drop-drop n at p)) ∙ f.behind in
    onward_next p at (omega (arith, u, a.1)) ∙ ap (λ (y : Piece). y ∷ onward p (at + taken y)) x ∙ ap (λ (ys : List Piece). kept r ∷ ys) (rows_kept p (at + n) rs end l b.1 g)

-- ---- a sound pack

kept_rows : (rs : List Row) (xs : List Piece) → kept_in (map kept rs ++ xs) ≡ rs ++ kept_in xs
kept_rows [] xs = refl
kept_rows (r ∷ rs) xs = ap (λ (qs : List Row). r ∷ qs) (kept_rows rs xs)

no_skips : (rs : List Row) (xs : List Piece) → skipped_in (map kept rs ++ xs) ≡ skipped_in xs
no_skips [] xs = refl
no_skips (r ∷ rs) xs = no_skips rs xs

module _ (p : List ℕ) {ts : List Tone} (q : read_pack p ≡ accepted ts) where
  -- all of it counts
  pub sound_counts : counting p ≡ p
  sound_counts = take_all most_pack p (met p q).most

  -- its messages come first, as they lie there, and nothing ahead of them is skipped
  pub sound_pieces : pieces p ≡ map kept (rows_in p) ++ onward p (first_row p)
  unfolding pieces
  sound_pieces =
      let m = met p q in
      let z : length p ≡ length p - 0 = omega arith in
      ap (λ (k : ℕ). pieces_from k p 0) z ∙ rows_kept p 0 (rows_in p) (first_row p) (omega (arith, m.adds)) m.rows m.turns

  -- a sound pack yields its own messages as the first ones kept; behind them come those that its rows spell
  pub sound_pack_first : kept_in (pieces p) ≡ rows_in p ++ kept_in (onward p (first_row p))
  sound_pack_first = ap kept_in sound_pieces ∙ kept_rows (rows_in p) (onward p (first_row p))

  -- what is skipped is skipped behind them
  pub sound_pack_skips : skipped_in (pieces p) ≡ skipped_in (onward p (first_row p))
  sound_pack_skips = ap skipped_in sound_pieces ∙ no_skips (rows_in p) (onward p (first_row p))

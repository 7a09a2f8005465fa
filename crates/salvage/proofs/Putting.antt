-- What filling leaves in the lent buffers: the new pack, and the report.
use Prim.Native.Nat.{ℕ, zero, suc, ◌+◌, ◌-◌, ◌*◌, ◌/◌, ◌%◌, ◌≤◌, ◌<◌}
use native.Mathlib.Omega.{arith}
use native.Mathlib.Numerals.{add-one}
use native.Mathlib.Nat.{zero-add}
use mathlib.Core.Path.{◌≡◌, refl, sym, ap, ap₂, subst, ◌∙◌}
use mathlib.Core.List.{List, [], ◌∷◌, ◌++◌, append_assoc, append-nil}
use lib.ListN.{get_or-map, length, get_or, take, drop, set, length-append, length-map, length-set, length-drop, take-append-drop, drop_of_length-le}
use lib.Seq.{sets, length-sets, sets-eq, drop-cons, length-take-le, take-suc, take_all, take-append_seam, drop-append_seam, drop-drop}
use borrow.Rule.Slice.PartMut.{put_mid}
use mir.Val.{Fits}
use mir.Syntax.{w32, w64}
use Rattle.bits.specs.Lent.{over}
use Rattle.inside.specs.Inside.{pair, join, lengths, sum}
use Rattle.inside.proofs.Stretches.{length_join, join_append}
use Rattle.pack.specs.Pack.{pack_of, pack_length, Row, lengths_in, rows_from}
use Rattle.pack.proofs.Filling.{sets_append, Rowing, rowing_begin, rowing_end, rowing_room, rowing_start, rowing_fits, rowing_turn, filled_pack}
use Rattle.pack.proofs.Rules.{length_pack_of}
use Rattle.salvage.specs.Salvage.{stretch_in, stretches_in, new_pack, report_from, new_report}
use Rattle.salvage.proofs.Pieces.{InOrder, order_ends}
use Rattle.salvage.specs.Answers.{row_of, rows_of, cells_size, Stretches}

-- ---- cells

-- the length that a cell says
pub length_there : (cells : List ℕ) (i : ℕ) → get_or (lengths_in (rows_of cells)) i 0 ≡ get_or cells i 0 % 65536
length_there [] i = refl
length_there (x ∷ cells) zero = refl
length_there (x ∷ cells) (suc i) = length_there cells i

-- what a cell says is a number of 64 bits
module _ (cells : List ℕ) (known : (i : ℕ) → Fits w32 (get_or cells i 0)) (i : ℕ) where
  pub start_fits : Fits w64 (get_or cells i 0 / 65536)
  start_fits = let k = (known i).fits in record { fits = omega (arith, k) }

  pub end_fits : Fits w64 (get_or cells i 0 / 65536 + get_or cells i 0 % 65536)
  end_fits = let k = (known i).fits in record { fits = omega (arith, k) }

-- the stretch that it says
pub stretch_there : (c cells : List ℕ) (i : ℕ) → i < length cells → get_or (stretches_in c (rows_of cells)) i [] ≡ stretch_in c (row_of (get_or cells i 0))
stretch_there c [] i h = absurd (omega arith)
stretch_there c (x ∷ cells) zero h = refl
stretch_there c (x ∷ cells) (suc i) h = stretch_there c cells i (omega arith)

-- as many of each as cells
pub length_rows : (cells : List ℕ) → length (rows_of cells) ≡ length cells
length_rows cells = length-map cells row_of

pub length_lengths : (cells : List ℕ) → length (lengths_in (rows_of cells)) ≡ length cells
length_lengths cells = length-map (rows_of cells) (λ (r : Row). r.length) ∙ length_rows cells

pub length_stretches : (c cells : List ℕ) → length (stretches_in c (rows_of cells)) ≡ length cells
length_stretches c cells = length-map (rows_of cells) (stretch_in c) ∙ length_rows cells

-- a stretch within the octets is as long as its row says
stretch_long : (c : List ℕ) (r : Row) → r.start + r.length ≤ length c → length (stretch_in c r) ≡ r.length
stretch_long c r h = length-take-le r.length (drop r.start c) (omega (arith, length-drop r.start c))

-- so are rows in order
pub rows_long : (c : List ℕ) (at : ℕ) (rs : List Row) → InOrder at rs (length c) → lengths (stretches_in c rs) ≡ lengths_in rs
rows_long c at [] o = refl
rows_long c at (r ∷ rs) o = ap₂ (λ (n : ℕ) (ns : List ℕ). n ∷ ns) (stretch_long c r (order_ends (r.start + r.length) rs (length c) o.1)) (rows_long c (r.start + r.length) rs o.1)

pub stretches_long : (c cells : List ℕ) → Stretches c cells → lengths (stretches_in c (rows_of cells)) ≡ lengths_in (rows_of cells)
stretches_long c [] s = refl
stretches_long c (x ∷ cells) s =
    ap₂ (λ (n : ℕ) (ns : List ℕ). n ∷ ns) (stretch_long c (row_of x) (s.each 0 (omega arith))) (stretches_long c cells (record { each = λ i h. s.each (suc i) (omega arith) }))

-- ---- stretches joined

-- one stretch more
join_more : {A : Type 0} (ss : List (List A)) (i : ℕ) → i < length ss → join (take (i + 1) ss) ≡ join (take i ss) ++ get_or ss i []
join_more ss i h =
    ap (λ (k : ℕ). join (take k ss)) (add-one i) ∙ ap join (take-suc ss i [] h) ∙ join_append (take i ss) (get_or ss i [] ∷ []) ∙ ap (λ (l : List _). join (take i ss) ++ l) (append-nil (get_or ss i []))

-- the first stretches are no longer than all
join_most : {A : Type 0} (ss : List (List A)) (i : ℕ) → length (join (take i ss)) ≤ length (join ss)
join_most ss i =
    let e = ap length (ap join (sym (take-append-drop i ss)) ∙ join_append (take i ss) (drop i ss)) in
    omega (arith, e, length-append (join (take i ss)) (join (drop i ss)))

-- ---- messages back to back

-- the first i messages are put, and end at `new`
pub record Putting (c cells old out : List ℕ) (new i : ℕ) : Type 0 where
  pub filled : out ≡ over (join (take i (stretches_in c (rows_of cells)))) old
  pub ends : new ≡ length (join (take i (stretches_in c (rows_of cells))))
  pub some : i ≤ length cells

module _ (c cells old : List ℕ) (s : Stretches c cells) (room : (cells_size cells ≤ length old) × (cells_size cells ≤ 65535)) where
  abbrev ss : List (List ℕ)
  ss = stretches_in c (rows_of cells)

  all_long : length (join ss) ≡ sum (lengths_in (rows_of cells))
  all_long = length_join ss ∙ ap sum (stretches_long c cells s)

  pub putting_begins : Putting c cells old old 0 0
  putting_begins = record { filled = refl; ends = refl; some = omega arith }

  module _ {out : List ℕ} {new i : ℕ} (p : Putting c cells old out new i) where
    pub putting_ends : length cells ≤ i → out ≡ over (join ss) old
    putting_ends h = p.filled ∙ ap (λ (l : List (List ℕ)). over (join l) old) (take_all i ss (omega (arith, length_stretches c cells)))

    -- up to there the buffer is full, and it is as long as before
    new_inside : new ≤ length old
    new_inside = omega (arith, p.ends, join_most ss i, all_long, room.0)

    pub putting_long : length out ≡ length old
    putting_long = ap length p.filled ∙ length-append (join (take i ss)) (drop (length (join (take i ss))) old) ∙ omega (arith, length-drop (length (join (take i ss))) old, p.ends, new_inside)

    pub putting_start : new ≤ length out
    putting_start = omega (arith, putting_long, new_inside)

    -- the next message
    module _ (h : i < length cells) where
      abbrev cell : ℕ
      cell = get_or cells i 0

      abbrev src : List ℕ
      src = take (cell / 65536 + cell % 65536 - cell / 65536) (drop (cell / 65536) c)

      pub putting_within : cell / 65536 + cell % 65536 ≤ length c
      putting_within = s.each i h

      -- it is the next stretch
      src_is : src ≡ get_or ss i []
      src_is = let z : cell / 65536 + cell % 65536 - cell / 65536 ≡ cell % 65536 = omega arith in ap (λ (k : ℕ). take k (drop (cell / 65536) c)) z ∙ sym (stretch_there c cells i h)

      src_long : length src ≡ cell % 65536
      src_long = ap length (src_is ∙ stretch_there c cells i h) ∙ stretch_long c (row_of cell) putting_within

      front_more : join (take (i + 1) ss) ≡ join (take i ss) ++ src
      front_more = join_more ss i (omega (arith, length_stretches c cells)) ∙ ap (λ (l : List ℕ). join (take i ss) ++ l) (sym src_is)

      more_long : length (join (take (i + 1) ss)) ≡ new + cell % 65536
      more_long = ap length front_more ∙ length-append (join (take i ss)) src ∙ omega (arith, p.ends, src_long)

      -- there is room for it
      pub putting_room : new + cell % 65536 ≤ length old
      putting_room = omega (arith, more_long, join_most ss (i + 1), all_long, room.0)

      pub putting_fits : Fits w64 (new + cell % 65536)
      putting_fits = record { fits = omega (arith, more_long, join_most ss (i + 1), all_long, room.1) }

      pub putting_lends : length src ≤ length (take (length out - new) (drop new out))
      putting_lends =
          let a = length-take-le (length out - new) (drop new out) (omega (arith, length-drop new out)) in
          omega (arith, a, src_long, putting_room, putting_long)

      -- with it, one more is put
      pub putting_more : {ys : List ℕ} → ys ≡ src ++ drop (length src) (take (length out - new) (drop new out)) → Putting c cells old (put_mid new (length out - new) out ys) (new + cell % 65536) (i + 1)
      putting_more {ys} e = record {
        filled =
            ap (λ (l : List ℕ). put_mid new (length out - new) out l) (e ∙ ap (λ (l : List ℕ). src ++ drop (length src) l) all_lent)
            ∙ ap₂ (λ (a b : List ℕ). a ++ ((src ++ drop (length src) (drop new out)) ++ b)) ahead none
            ∙ ap (λ (l : List ℕ). join (take i ss) ++ l) (append-nil (src ++ drop (length src) (drop new out)))
            ∙ ap (λ (l : List ℕ). join (take i ss) ++ (src ++ l)) behind
            ∙ sym (append_assoc (join (take i ss)) src (drop (new + cell % 65536) old))
            ∙ ap₂ (λ (a : List ℕ) (k : ℕ). a ++ drop k old) (sym front_more) (sym more_long);
        ends = sym more_long;
        some = omega arith;
      }
        where
          all_lent : take (length out - new) (drop new out) ≡ drop new out
          all_lent = take_all (length out - new) (drop new out) (omega (arith, length-drop new out))

          none : drop (length out - new) (drop new out) ≡ []
          none = drop_of_length-le (drop new out) {i = length out - new} (omega (arith, length-drop new out))

          ahead : take new out ≡ join (take i ss)
          ahead = ap₂ (λ (k : ℕ) (l : List ℕ). take k l) p.ends p.filled ∙ take-append_seam (join (take i ss)) (drop (length (join (take i ss))) old)

          behind : drop (length src) (drop new out) ≡ drop (new + cell % 65536) old
          behind =
              ap₂ (λ (k : ℕ) (l : List ℕ). drop k l) src_long (ap₂ (λ (k : ℕ) (l : List ℕ). drop k l) p.ends p.filled ∙ drop-append_seam (join (take i ss)) (drop (length (join (take i ss))) old))
              ∙ drop-drop (cell % 65536) (length (join (take i ss))) old ∙ ap (λ (k : ℕ). drop (k + cell % 65536) old) (sym p.ends)

pub ruleset putting = (start_fits, end_fits, putting_begins, putting_ends, putting_long, putting_start, putting_within, putting_fits, putting_lends)

-- ---- rows of the pack

module _ (cells old : List ℕ) (from : ℕ) where
  abbrev ns : List ℕ
  ns = lengths_in (rows_of cells)

  pub rows_begin : (from + 4 * length cells ≤ length old) × (cells_size cells ≤ 65535) → Rowing ns old from old 0 from 0
  rows_begin h = rowing_begin ns old from (rw (length_lengths cells) h.0)

  module _ {out : List ℕ} {start at i : ℕ} (r : Rowing ns old from out start at i) where
    pub rows_same : length out ≡ length old
    rows_same = r.long

    pub rows_end : length cells ≤ i → out ≡ sets old from (rows_from 0 ns)
    rows_end h = rowing_end ns old from r (rw (length_lengths cells) h)

    module _ (h : i < length cells) (room : (from + 4 * length cells ≤ length old) × (cells_size cells ≤ 65535)) where
      there : i < length ns
      there = rw (length_lengths cells) h

      small : sum ns < 65536
      small = omega (arith, room.1)

      pub rows_room : at + 4 ≤ length out
      rows_room = rowing_room ns old from r there

      pub rows_start : start < 65536
      rows_start = rowing_start ns old from r there small

      pub rows_fits : Fits w64 (start + get_or cells i 0 % 65536)
      rows_fits = subst (λ (n : ℕ). Fits w64 (start + n)) (length_there cells i) (rowing_fits ns old from r there small)

      pub rows_turn : {out₁ : List ℕ} → out₁ ≡ sets out at (pair start ++ pair (get_or cells i 0 % 65536)) → Rowing ns old from out₁ (start + get_or cells i 0 % 65536) (at + 4) (i + 1)
      rows_turn {out₁} e =
          let n = length_there cells i in
          subst (λ (k : ℕ). Rowing ns old from out₁ (start + k) (at + 4) (i + 1)) n (rowing_turn ns old from r there (e ∙ ap (λ (k : ℕ). sets out at (pair start ++ pair k)) (sym n)))

pub ruleset pack_rows = (rows_begin, rows_same, rows_end, rows_room, rows_start, rows_fits)

-- ---- the whole pack

module _ (c cells out : List ℕ) (s : Stretches c cells) {o : ℕ} (e : o ≡ sum (lengths_in (rows_of cells))) (room : (cells_size cells ≤ length out) × (cells_size cells ≤ 65535)) where
  abbrev back : List ℕ
  back = join (stretches_in c (rows_of cells))

  abbrev sizes : List ℕ
  sizes = lengths_in (rows_of cells)

  long : o ≡ length back
  long = e ∙ ap sum (sym (stretches_long c cells s)) ∙ sym (length_join (stretches_in c (rows_of cells)))

  fits : pack_length back sizes ≤ length out
  fits = omega (arith, long, e, length_lengths cells, room.0)

  pub pack_put : {out₁ out₂ out₃ out₄ : List ℕ} → out₁ ≡ over back out → out₂ ≡ sets out₁ o (rows_from 0 sizes) → out₃ ≡ sets out₂ (o + 4 * length cells) (pair (length cells))
      → out₄ ≡ sets out₃ (o + 4 * length cells + 2) (pair o) → out₄ ≡ over (new_pack c (rows_of cells)) out
  unfolding new_pack
  pack_put {out₁} {out₂} {out₃} {out₄} e₁ e₂ e₃ e₄ =
      let n = sym (length_lengths cells) in
      filled_pack back sizes out fits e₁ (e₂ ∙ ap (λ (k : ℕ). sets out₁ k (rows_from 0 sizes)) long)
      (e₃ ∙ ap₂ (λ (j k : ℕ). sets out₂ (j + 4 * k) (pair k)) long n)
      (e₄ ∙ ap₂ (λ (j k : ℕ). sets out₃ (j + 4 * k + 2) (pair j)) long n)
      ∙ ap (λ (k : ℕ). pack_of back sizes ++ drop k out) (sym (length_pack_of back sizes))

-- ---- the report

-- three numbers for each row
pub length_report : (new : ℕ) (rs : List Row) → length (report_from new rs) ≡ 3 * length rs
length_report new [] = refl
length_report new (r ∷ rs) = let e = length_report (new + r.length) rs in omega arith

pub length_new_report : (rs : List Row) (skips : ℕ) → length (new_report rs skips) ≡ 3 * length rs + 1
unfolding new_report
length_new_report rs skips = length-append (report_from 0 rs) (skips ∷ []) ∙ ap (λ (k : ℕ). k + 1) (length_report 0 rs)

-- the numbers of the rows from i on are still to be put
pub record Reporting (cells old report : List ℕ) (new at i : ℕ) : Type 0 where
  pub whole : sets report at (report_from new (drop i (rows_of cells))) ≡ sets old 0 (report_from 0 (rows_of cells))
  pub long : length report ≡ length old
  pub place : at ≡ 3 * i
  pub sums : new + sum (lengths_in (drop i (rows_of cells))) ≡ sum (lengths_in (rows_of cells))
  pub some : i ≤ length cells

module _ (cells old : List ℕ) {skips : ℕ} (room : (3 * length cells + 1 ≤ length old) × (cells_size cells ≤ 65535) × (skips ≤ 65535)) where
  pub report_begins : Reporting cells old old 0 0 0
  report_begins = record { whole = refl; long = refl; place = refl; sums = omega arith; some = omega arith }

  module _ {report : List ℕ} {new at i : ℕ} (r : Reporting cells old report new at i) where
    pub report_same : length report ≡ length old
    report_same = r.long

    pub report_last : at < length report
    report_last = omega (arith, r.long, r.place, r.some, room.0)

    pub report_ends : length cells ≤ i → set report at skips ≡ over (new_report (rows_of cells) skips) old
    unfolding new_report
    report_ends h =
        let rs = rows_of cells in
        let n = length_new_report rs skips in
        let none : drop i rs ≡ [] = drop_of_length-le rs {i = i} (omega (arith, length_rows cells)) in
        let a : report ≡ sets old 0 (report_from 0 rs) = ap (λ (l : List Row). sets report at (report_from new l)) (sym none) ∙ r.whole in
        let p : at ≡ 0 + length (report_from 0 rs) = omega (arith, r.place, r.some, length_report 0 rs, length_rows cells) in
        ap₂ (λ (l : List ℕ) (k : ℕ). sets l k (skips ∷ [])) a p
        ∙ sym (sets_append old 0 (report_from 0 rs) (skips ∷ []))
        ∙ sets-eq (new_report rs skips) old 0 (omega (arith, n, length_rows cells, room.0))
        ∙ ap (λ (k : ℕ). new_report rs skips ++ drop k old) (zero-add (length (new_report rs skips)))

    module _ (h : i < length cells) where
      abbrev one : ℕ
      one = get_or cells i 0

      next : drop i (rows_of cells) ≡ row_of one ∷ drop (i + 1) (rows_of cells)
      next =
          drop-cons (rows_of cells) i (row_of 0) (rw (length_rows cells) h)
          ∙ ap₂ (λ (x : Row) (k : ℕ). x ∷ drop k (rows_of cells)) (get_or-map row_of cells i 0) (sym (add-one i))

      added : new + (one % 65536 + sum (lengths_in (drop (i + 1) (rows_of cells)))) ≡ sum (lengths_in (rows_of cells))
      added = ap (λ (l : List Row). new + sum (lengths_in l)) (sym next) ∙ r.sums

      pub report_first : at < length report
      report_first = omega (arith, r.long, r.place, room.0)

      pub report_second : (x : ℕ) → at + 1 < length (set report at x)
      report_second x = rw (length-set report at x) (omega (arith, r.long, r.place, room.0))

      pub report_third : (x y : ℕ) → at + 2 < length (set (set report at x) (at + 1) y)
      report_third x y = rw (length-set (set report at x) (at + 1) y, length-set report at x) (omega (arith, r.long, r.place, room.0))

      pub report_fits : Fits w32 (new + one % 65536)
      report_fits = record { fits = omega (arith, added, room.1) }

      pub report_turn : Reporting cells old (set (set (set report at (one / 65536)) (at + 1) new) (at + 2) (one % 65536)) (new + one % 65536) (at + 3) (i + 1)
      report_turn =
          let xs = one / 65536 ∷ new ∷ one % 65536 ∷ [] in
          let more = report_from (new + one % 65536) (drop (i + 1) (rows_of cells)) in
          let q : at + 2 ≡ suc (suc at) = omega arith in
          let put : set (set (set report at (one / 65536)) (at + 1) new) (at + 2) (one % 65536) ≡ sets report at xs =
          ap₂ (λ (j k : ℕ). set (set (set report at (one / 65536)) j new) k (one % 65536)) (add-one at) q in
          record {
            whole = ap (λ (l : List ℕ). sets l (at + 3) more) put ∙ sym (sets_append report at xs more) ∙ ap (λ (l : List Row). sets report at (report_from new l)) (sym next) ∙ r.whole;
            long = ap length put ∙ length-sets report at xs ∙ r.long;
            place = omega (arith, r.place);
            sums = omega (arith, added);
            some = omega arith;
          }

pub ruleset reporting = (report_begins, report_same, report_last, report_ends, report_first, report_second, report_third, report_fits)

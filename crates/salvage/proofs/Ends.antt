-- What each return of `counting`, `hand_out` and `salvage` shows.
use Prim.Native.Nat.{ℕ, zero, suc, ◌+◌, ◌-◌, ◌*◌, ◌≤◌, ◌<◌}
use native.Mathlib.Omega.{arith}
use mathlib.Core.Path.{◌≡◌, refl, sym, ap, ap₂, subst, ◌∙◌}
use mathlib.Core.Logic.{inl, inr}
use mathlib.Core.List.{List, [], ◌∷◌}
use lib.ListN.{get_or-map, length, get_or, take, length-map}
use lib.Seq.{take_all}
use borrow.Author.Tests.{le-leb, lt-leb}
use Rattle.std.specs.Prelude.{Result, Ok, Err}
use Rattle.bits.specs.Lent.{over}
use Rattle.bits.specs.Outcome.{Outcome, accepted, refused}
use Rattle.bits.specs.Places.{octet_count}
use Rattle.bits.specs.Refusals.{number_of, refusal}
use Rattle.bits.specs.declared.refusal.Refusal.{Refusal}
use Rattle.inside.specs.Inside.{join, sum}
use Rattle.inside.proofs.Stretches.{length_join}
use Rattle.pack.specs.Pack.{most_pack, Row, lengths_in}
use Rattle.pack.proofs.Rules.{length_pack_of}
use Rattle.written.proofs.Unique.{by_number}
use Rattle.salvage.specs.declared.Kept.{Kept}
use Rattle.salvage.specs.Salvage.{counting, pieces, skipped_in, stretches_in, new_pack, new_report, Salvaged, salvaged_by, salvaged, into_room}
use Rattle.salvage.specs.Answers.{row_of, rows_of, pack_size, cells_size, Stretches, all_kept, KeptAll, Enough, KeptTooMuch, WalkedOver, HandsOut, GetsOut}
use Rattle.salvage.specs.Promises.{Salvaging, Salvages, SalvagePromise}
use Rattle.salvage.proofs.Putting.{length_rows, length_lengths, rows_long, stretches_long, length_new_report}
use Rattle.salvage.proofs.Pieces.{order_within, kept_in_order, kept_and_skipped}

-- an input that is not too long counts whole
pub all_counts : (p : List ℕ) → length p ≤ 65535 → p ≡ counting p
all_counts p h = sym (take_all 65535 p h)

-- ---- hand_out

-- a refusal leaves what was lent
refuses : (o : Outcome Salvaged) (out report : List ℕ) {r : Refusal} → o ≡ refused (number_of r.why) r.place.0 → Salvages o out report out report (Err r)
refuses o out report {r} e = record { answer = rw e (ap Err (sym (by_number r))); said = rw e refl; pack = rw e refl; reported = rw e refl }

module _ (c cells out report : List ℕ) (s : Stretches c cells) {o : ℕ} (e : (o ≡ sum (lengths_in (rows_of cells))) × (o ≤ length c)) (small : (cells_size cells ≤ 65535) × (length c ≤ 65535)) where
  abbrev out_of : Salvaged
  out_of = salvaged_by c (rows_of cells) (length c - o)

  pub pack_long : length (new_pack c (rows_of cells)) ≡ o + 4 * length cells + 4
  unfolding new_pack
  pack_long =
      let back = join (stretches_in c (rows_of cells)) in
      let l = length_join (stretches_in c (rows_of cells)) ∙ ap sum (stretches_long c cells s) in
      length_pack_of back (lengths_in (rows_of cells)) ∙ omega (arith, e.0, l, length_lengths cells)

  report_long : length (new_report (rows_of cells) (length c - o)) ≡ 3 * length cells + 1
  report_long = length_new_report (rows_of cells) (length c - o) ∙ ap (λ (n : ℕ). 3 * n + 1) (length_rows cells)

  pub hand_small : {r : Refusal} → r ≡ refusal 11 0 → length out < o + 4 * length cells + 4 → HandsOut c cells o out report out report (Err r)
  unfolding into_room
  hand_small z h =
      let n = length (new_pack c (rows_of cells)) in
      let l = pack_long in
      refuses (into_room out_of (length out) (length report)) out report
      (rw (z, le-leb n most_pack (omega (arith, l, small.0, e.0)), lt-leb n (length out) (omega (arith, l))) refl)

  module _ (room : o + 4 * length cells + 4 ≤ length out) where
    pub hand_few : {r : Refusal} → r ≡ refusal 11 0 → length report < 3 * length cells + 1 → HandsOut c cells o out report out report (Err r)
    unfolding into_room
    hand_few z h =
        let n = length (new_pack c (rows_of cells)) in
        let l = pack_long in
        let k = length (new_report (rows_of cells) (length c - o)) in
        refuses (into_room out_of (length out) (length report)) out report
        (rw (z, le-leb n most_pack (omega (arith, l, small.0, e.0)), le-leb n (length out) (omega (arith, l)), lt-leb k (length report) (omega (arith, report_long))) refl)

    pub hand_done : 3 * length cells + 1 ≤ length report → {out' report' : List ℕ} → out' ≡ over (new_pack c (rows_of cells)) out → report' ≡ over (new_report (rows_of cells) (length c - o)) report
        → HandsOut c cells o out report out' report' (Ok (record { messages = length cells; octets = octet_count (o + 4 * length cells + 4); skipped = octet_count (length c - o) }))
    unfolding into_room
    hand_done h {out'} {report'} a b =
        let n = length (new_pack c (rows_of cells)) in
        let l = pack_long in
        let k = length (new_report (rows_of cells) (length c - o)) in
        let z : into_room out_of (length out) (length report) ≡ accepted out_of =
        rw (le-leb n most_pack (omega (arith, l, small.0, e.0)), le-leb n (length out) (omega (arith, l)), le-leb k (length report) (omega (arith, report_long))) refl in
        let m = sym (length_rows cells) in
        record {
          answer = rw z (ap₂ (λ (x y : ℕ). Ok (record { messages = x; octets = octet_count y; skipped = octet_count (length c - o) })) m (sym l));
          said = rw z (ap₂ (λ (x y : ℕ). record { refusal = 0; place = 0; messages = x; octets = y; skipped = length c - o }) m (sym l));
          pack = rw z a;
          reported = rw z b;
        }

pub ruleset handings = (hand_small, hand_few, hand_done)

-- ---- salvage

-- no more than 65,535 octets count
short : (n : ℕ) (l : List ℕ) → length (take n l) ≤ n
short zero l = omega arith
short (suc n) [] = omega arith
short (suc n) (x ∷ l) = omega (arith, short n l)

pub counting_most : (p : List ℕ) {c : List ℕ} → c ≡ counting p → length c ≤ 65535
counting_most p e = rw e (short 65535 p)

-- as many elements as are taken are there
there_taken : (n : ℕ) (l : List ℕ) → length (take n l) ≡ n → n ≤ length l
there_taken zero l e = omega arith
there_taken (suc n) [] e = omega arith
there_taken (suc n) (x ∷ l) e = let z : length (take n l) ≡ n = omega arith in omega (arith, there_taken n l z)

-- the pack of all that is kept has as many octets as its rows say
pub all_long : (c : List ℕ) → length (new_pack c (all_kept c)) ≡ pack_size (all_kept c)
unfolding new_pack
all_long c =
    let ss = stretches_in c (all_kept c) in
    let l = length_join ss ∙ ap sum (rows_long c 0 (all_kept c) (kept_in_order c)) in
    let n = length-map (all_kept c) (λ (r : Row). r.length) in
    length_pack_of (join ss) (lengths_in (all_kept c)) ∙ omega (arith, l, n)

module _ (c cells : List ℕ) {w : Result Kept Refusal} (q : WalkedOver c cells w) where
  pub salvage_long : {r : Refusal} → w ≡ Err r → (out report : List ℕ) → GetsOut c out report out report (Err r)
  unfolding into_room salvaged
  salvage_long {r} g out report =
      let k : (r ≡ refusal 1 0) × KeptTooMuch c = subst (WalkedOver c cells) g q in
      let n = length (new_pack c (all_kept c)) in
      refuses (into_room (salvaged c) (length out) (length report)) out report (rw (k.0, lt-leb n most_pack (omega (arith, all_long c, k.1.size))) refl)

  module _ {kept : Kept} (g : w ≡ Ok kept) where
    kept_all : KeptAll c cells kept.messages kept.octets.0
    kept_all = subst (WalkedOver c cells) g q

    abbrev own : List ℕ
    own = take (kept.messages - 0) cells

    own_is : own ≡ take kept.messages cells
    own_is = let z : kept.messages - 0 ≡ kept.messages = omega arith in ap (λ (n : ℕ). take n cells) z

    rows_are : rows_of own ≡ all_kept c
    rows_are = ap rows_of own_is ∙ kept_all.rows

    many : length own ≡ kept.messages
    many = sym (length_rows own) ∙ ap length rows_are ∙ sym kept_all.many

    pub salvage_part : kept.messages ≤ length cells
    salvage_part = there_taken kept.messages cells (sym (ap length own_is) ∙ many)

    pub salvage_stretches : Stretches c own
    salvage_stretches = record {
      each = λ i h.
          let r : get_or (rows_of own) i (row_of 0) ≡ row_of (get_or own i 0) = get_or-map row_of own i 0 in
          let l = order_within (row_of 0) 0 (all_kept c) (length c) (kept_in_order c) i (rw (← rows_are, length_rows own) h) in
          subst (λ (x : Row). x.start + x.length ≤ length c) (ap (λ (rs : List Row). get_or rs i (row_of 0)) (sym rows_are) ∙ r) l;
    }

    pub salvage_sums : kept.octets.0 ≡ sum (lengths_in (rows_of own))
    salvage_sums = kept_all.sums ∙ ap (λ (rs : List Row). sum (lengths_in rs)) (sym rows_are)

    pub salvage_inside : kept.octets.0 ≤ length c
    salvage_inside = omega (arith, kept_all.sums, kept_and_skipped c)

    pub salvage_size : cells_size own ≤ 65535
    salvage_size = omega (arith, salvage_sums, many, kept_all.sums, kept_all.many, kept_all.size)

    pub salvage_done : {out report out' report' : List ℕ} {r : Salvaging} → HandsOut c own kept.octets.0 out report out' report' r → GetsOut c out report out' report' r
    unfolding salvaged
    salvage_done {out} {report} {out'} {report'} {r} h =
        let z : length c - kept.octets.0 ≡ skipped_in (pieces c) = omega (arith, kept_all.sums, kept_and_skipped c) in
        let s : salvaged_by c (rows_of own) (length c - kept.octets.0) ≡ salvaged c = ap₂ (λ (rs : List Row) (n : ℕ). salvaged_by c rs n) rows_are z in
        subst (λ (x : Salvaged). Salvages (into_room x (length out) (length report)) out report out' report' r) s h

pub ruleset endings = (salvage_long, salvage_part, salvage_stretches, salvage_sums, salvage_inside, salvage_size, salvage_done)

-- what comes out of what counts comes out of the input
pub counted_out : (p : List ℕ) {c out report out' report' : List ℕ} {r : Salvaging} → c ≡ counting p → GetsOut c out report out' report' r → SalvagePromise p out report out' report' r
counted_out p {c} {out} {report} {out'} {report'} {r} e h = subst (λ (x : List ℕ). GetsOut x out report out' report' r) e h

-- cells enough, by the input's length
pub enough_short : (c : List ℕ) → length c ≤ 512 → Enough (length c) 64
enough_short c h = inl (omega arith)

pub enough_middle : (c : List ℕ) → length c ≤ 4096 → Enough (length c) 512
enough_middle c h = inl (omega arith)

pub enough_any : (c : List ℕ) → Enough (length c) 5460
enough_any c = inr (omega arith)

pub ruleset outs = (counting_most, counted_out, enough_short, enough_middle, enough_any)

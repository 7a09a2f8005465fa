-- What holds of the calls: demand 2 for packs, the nth message, and both ways round.
use Prim.Native.Nat.{ℕ, ◌+◌, ◌*◌, ◌≤◌, ◌<◌}
use native.Mathlib.Omega.{arith}
use mathlib.Core.Path.{◌≡◌, refl, sym, ap, ap₂, subst, ◌∙◌}
use mathlib.Core.Logic.{◌↔◌}
use mathlib.Core.List.{List, [], append-nil}
use lib.ListN.{length, get_or, take, drop, length-map, get_or-map}
use lib.Seq.{take_all, take_at, ext_get_or}
use lib.Dec.{leb, eqb}
use denote.Ref.{Bor}
use borrow.Author.Tests.{eqb-true, leb-true}
use Rattle.bits.specs.Bits.{Octets}
use Rattle.bits.specs.Lent.{over}
use Rattle.std.specs.Prelude.{Ok}
use Rattle.bits.specs.Outcome.{Outcome, accepted, refused, and_then, demand}
use Rattle.bits.specs.Places.{octet_count}
use Rattle.bits.specs.declared.OctetCount.{OctetCount}
use Rattle.tone.specs.Tone.{Tone}
use Rattle.tone.specs.Writing.{tone_octets}
use Rattle.tone.specs.Reading.{read_tone}
use Rattle.inside.specs.Inside.{number, join, lengths, sum, cut}
use Rattle.inside.proofs.Stretches.{length_join, length_cut, lengths_cut, sum_ahead, join_cut, cut_join, nth_cut}
use Rattle.written.specs.Written.{Writing, write_answer, octets_after}
use Rattle.written.proofs.Unique.{fills_written}
use Rattle.inside.proofs.Answered.{accepted_there}
use Rattle.pack.specs.Pack.{most_pack, pack_of, pack_length, messages_of, pack_octets, Packable, Row, lengths_in, first_row, count, rows_in, messages_in, read_in_turn, read_pack, no_row, nth_row, write_pack}
use Rattle.pack.specs.Promises.{Reading, read_answer, ReadPromise, Finding, found_at, find_answer, FindPromise, stretch_of, stretch_start, MessagePromise, WritePromise}
use Rattle.pack.proofs.Rules.{length_pack_of, length_rows_at, demanded, turn_nth, Met, met, read_count}
use Rattle.pack.proofs.Nth.{a_message, nth_rows_at, nth_start}
use Rattle.pack.proofs.Order.{room_enough}
use Rattle.pack.proofs.Demand2.{turn_written, turn_exactly, lengths_there, messages_there, pack_is_accepted, pack_is_written, pack_is_packable}

-- ---- `read`

-- what an accepting answer says
pub read_says : (p : List ℕ) {k : ℕ} → ReadPromise p (Ok k) → (ts : List Tone) × (read_pack p ≡ accepted ts) × (k ≡ length ts)
read_says p {k} h = accepted_there (λ (ts : List Tone). length ts) (read_pack p) h.answer

-- `read` accepts exactly the packs of some list of well-formed tones, the empty list among them
pub read_accepts : (p : List ℕ) {r : Reading} → Octets p → ReadPromise p r → ((k : ℕ) × (r ≡ Ok k)) ↔ ((ts : List Tone) × Packable ts × (pack_octets ts ≡ p))
read_accepts p {r} o h = (
  λ a. let s = read_says p (subst (ReadPromise p) a.1 h) in (s.0, pack_is_packable p s.0 o s.1, pack_is_written p s.0 o s.1),
  λ w. (length w.0, h.answer ∙ ap read_answer (ap read_pack (sym w.2) ∙ pack_is_accepted w.0 w.1)),
)

-- and answers how many they are
pub read_of_pack : (ts : List Tone) {r : Reading} → Packable ts → ReadPromise (pack_octets ts) r → r ≡ Ok (length ts)
read_of_pack ts k h = h.answer ∙ ap read_answer (pack_is_accepted ts k)

-- ---- `find` and `message`

module _ (p : List ℕ) {ts : List Tone} (e : read_pack p ≡ accepted ts) (n : ℕ) (h : n < length ts) where
  m : Met p ts
  m = met p e

  many : length (lengths_in (rows_in p)) ≡ length ts
  many = length-map (rows_in p) (λ (r : Row). r.length) ∙ length_rows_at (count p) p (first_row p) ∙ sym (read_count p m)

  among : n < length (rows_in p)
  among = rw (length_rows_at (count p) p (first_row p), ← read_count p m) h

  -- the nth row starts where the messages ahead end
  nth_ahead : (get_or (rows_in p) n no_row).start ≡ sum (take n (lengths_in (rows_in p)))
  nth_ahead = nth_start 0 (rows_in p) (first_row p) n m.rows among ∙ omega arith

  -- and its stretch is the nth message
  pub nth_stretch : stretch_of (nth_row p n) p ≡ get_or (messages_in p) n []
  nth_stretch =
      ap (λ (x : Outcome Row). stretch_of x p) (a_message p n e h)
      ∙ ap₂ (λ (l s : ℕ). take l (drop s p)) (sym (get_or-map (λ (r : Row). r.length) (rows_in p) n no_row)) nth_ahead
      ∙ sym (nth_cut (lengths_in (rows_in p)) p n (rw many h))

  -- which reads as the nth tone
  pub nth_reads : (none : Tone) → read_tone (stretch_of (nth_row p n) p) ≡ accepted (get_or ts n none)
  nth_reads none = ap read_tone nth_stretch ∙ turn_nth none 0 (messages_in p) m.turns n h

  -- where it starts
  pub nth_begins : stretch_start (nth_row p n) ≡ sum (take n (lengths_in (rows_in p)))
  nth_begins = ap stretch_start (a_message p n e h) ∙ nth_ahead

-- ---- a pack of tones, and its nth message

module _ (ts : List Tone) (k : Packable ts) (n : ℕ) (h : n < length ts) where
  -- the octets of the messages ahead
  abbrev pub octets_ahead : ℕ
  octets_ahead = length (join (take n (messages_of ts)))

  begins : stretch_start (nth_row (pack_octets ts) n) ≡ octets_ahead
  begins = nth_begins (pack_octets ts) (pack_is_accepted ts k) n h ∙ ap (λ (ns : List ℕ). sum (take n ns)) (lengths_there ts k) ∙ sum_ahead n (messages_of ts)

  stretches : stretch_of (nth_row (pack_octets ts) n) (pack_octets ts) ≡ get_or (messages_of ts) n []
  stretches = nth_stretch (pack_octets ts) (pack_is_accepted ts k) n h ∙ ap (λ (ms : List (List ℕ)). get_or ms n []) (messages_there ts k)

  -- `message` hands back the nth message: its octets, in the caller's own memory behind those of the messages ahead
  pub message_of_pack : (p r : Bor (List ℕ)) → p.now ≡ pack_octets ts → MessagePromise p n r
      → (r.now ≡ get_or (messages_of ts) n []) × (r.ref_ptr.0 ≡ p.ref_ptr.0) × (r.ref_ptr.1 ≡ p.ref_ptr.1 + octets_ahead)
  message_of_pack p r e q = (
    q.octets ∙ ap (λ (x : List ℕ). stretch_of (nth_row x n) x) e ∙ stretches,
    q.block,
    q.start ∙ ap (λ (x : ℕ). p.ref_ptr.1 + x) (ap (λ (x : List ℕ). stretch_start (nth_row x n)) e ∙ begins),
  )

  -- and that reads as the nth tone
  pub message_reads : (none : Tone) (p r : Bor (List ℕ)) → p.now ≡ pack_octets ts → MessagePromise p n r → read_tone r.now ≡ accepted (get_or ts n none)
  message_reads none p r e q = ap read_tone (q.octets ∙ ap (λ (x : List ℕ). stretch_of (nth_row x n) x) e) ∙ nth_reads (pack_octets ts) (pack_is_accepted ts k) n h none

  -- `find` answers the same stretch
  pub find_of_pack : {r : Finding} → FindPromise (pack_octets ts) n r → r ≡ Ok (found_at (record { start = octets_ahead; length = length (get_or (messages_of ts) n []) }))
  find_of_pack q =
      let a = a_message (pack_octets ts) n (pack_is_accepted ts k) h in
      let s : (get_or (rows_in (pack_octets ts)) n no_row).start ≡ octets_ahead = sym (ap stretch_start a) ∙ begins in
      let l : (get_or (rows_in (pack_octets ts)) n no_row).length ≡ length (get_or (messages_of ts) n []) =
      sym (get_or-map (λ (x : Row). x.length) (rows_in (pack_octets ts)) n no_row) ∙ ap (λ (ns : List ℕ). get_or ns n 0) (lengths_there ts k) ∙ get_or-map length (messages_of ts) n [] in
      q.answer ∙ ap find_answer a ∙ ap₂ (λ (x y : ℕ). Ok (found_at (record { start = x; length = y }))) s l

-- `find` n answers what the nth row in the octets says
pub row_is_message : (p : List ℕ) {k : ℕ} (n : ℕ) {r : Finding} → ReadPromise p (Ok k) → n < k → FindPromise p n r
    → r ≡ Ok (found_at (record { start = number p (first_row p + 4 * n); length = number p (first_row p + 4 * n + 2) }))
row_is_message p n h j q =
    let s = read_says p h in
    let c : n < count p = omega (arith, read_count p (met p s.1), s.2) in
    q.answer ∙ ap find_answer (a_message p n s.1 (rw (← s.2) j) ∙ ap accepted (nth_rows_at (count p) p (first_row p) n c))

-- ---- `write`

-- what an accepting answer says: the messages are those of well-formed tones, and the buffer begins with their pack
pub record Wrote (octets ns out out' : List ℕ) (n : OctetCount) : Type 0 where
  pub tones : List Tone
  pub packable : Packable tones
  pub messages : join (messages_of tones) ≡ octets
  pub rows : lengths (messages_of tones) ≡ ns
  pub long : n.0 ≡ length (pack_octets tones)
  pub room : length (pack_octets tones) ≤ length out
  pub lent : out' ≡ over (pack_octets tones) out

pub write_says : (octets ns out out' : List ℕ) {n : OctetCount} → Octets octets → WritePromise octets ns out out' (Ok n) → Wrote octets ns out out' n
unfolding write_pack pack_octets
write_says octets ns out out' {n} o h =
    let w = fills_written h in
    let a = demanded (leb (pack_length octets ns) most_pack) 1 (demand (eqb (sum ns) (length octets)) 27 inner) w.1 in
    let b = demanded (eqb (sum ns) (length octets)) 27 inner a.1 in
    go w (leb-true (pack_length octets ns) most_pack a.0) (eqb-true (sum ns) (length octets) b.0) (read_in_turn 0 (cut ns octets)) refl b.1
  where
    last : Outcome (List ℕ)
    last = demand (leb (pack_length octets ns) (length out)) 11 (accepted (pack_of octets ns))

    inner : Outcome (List ℕ)
    inner = and_then (read_in_turn 0 (cut ns octets)) (λ _. last)

    go : (w : (w : List ℕ) × (write_pack octets ns (length out) ≡ accepted w) × (n.0 ≡ length w) × (out' ≡ over w out)) → pack_length octets ns ≤ most_pack → sum ns ≡ length octets
        → (x : Outcome (List Tone)) → read_in_turn 0 (cut ns octets) ≡ x → and_then x (λ _. last) ≡ accepted w.0 → Wrote octets ns out out' n
    go w small adds (accepted ts) q e =
        let t = turn_exactly 0 ns octets o q in
        let j : join (messages_of ts) ≡ octets = ap join t.1 ∙ join_cut ns octets ∙ take_all (sum ns) octets (omega arith) in
        let l : lengths (messages_of ts) ≡ ns = ap lengths t.1 ∙ lengths_cut ns octets (omega arith) in
        let d = demanded (leb (pack_length octets ns) (length out)) 11 (accepted (pack_of octets ns)) e in
        let f = d.1 in
        let v : pack_of octets ns ≡ w.0 = cc in
        let p : pack_of (join (messages_of ts)) (lengths (messages_of ts)) ≡ w.0 = ap₂ pack_of j l ∙ v in
        record {
          tones = ts;
          packable = record { each = t.0; size = rw (j, l) small };
          messages = j;
          rows = l;
          long = w.2 ∙ ap length (sym p);
          room = omega (arith, ap length p, ap length v, length_pack_of octets ns, leb-true (pack_length octets ns) (length out) d.0);
          lent = w.3 ∙ ap (λ (x : List ℕ). over x out) (sym p);
        }
    go w small adds (refused k f) q e = let z : ◌≡◌ {A = ℕ} 0 1 = cc in absurd (omega arith)

-- the octets that it says it wrote are the pack
written_front : (octets ns out out' : List ℕ) {n : OctetCount} (o : Octets octets) (h : WritePromise octets ns out out' (Ok n)) → take n.0 out' ≡ pack_octets (write_says octets ns out out' o h).tones
written_front octets ns out out' {n} o h =
    let w = write_says octets ns out out' o h in
    ap (take n.0) w.lent ∙ take_at (pack_octets w.tones) (drop (length (pack_octets w.tones)) out) n.0 (sym w.long)

-- the messages of tones that can be packed, and their lengths, are written where there is room
pub write_pack_lem : (ts : List Tone) (out out' : List ℕ) {r : Writing} → Packable ts → length (pack_octets ts) ≤ length out → WritePromise (join (messages_of ts)) (lengths (messages_of ts)) out out' r
    → (r ≡ Ok (octet_count (length (pack_octets ts)))) × (out' ≡ over (pack_octets ts) out)
unfolding pack_octets
write_pack_lem ts out out' k room h =
    let octets = join (messages_of ts) in
    let ns = lengths (messages_of ts) in
    let c : cut ns octets ≡ messages_of ts = ap (cut ns) (sym (append-nil octets)) ∙ cut_join (messages_of ts) [] in
    let e : write_pack octets ns (length out) ≡ accepted (pack_of octets ns) =
    room_enough octets ns (length out) k.size (sym (length_join (messages_of ts))) (ap (read_in_turn 0) c ∙ turn_written 0 ts k.each) (omega (arith, length_pack_of octets ns)) in
    (h.answer ∙ ap write_answer e, h.leaves ∙ ap (λ (x : Outcome (List ℕ)). octets_after x out) e)

-- `write` accepts exactly the messages of some list of well-formed tones, with their lengths, for which there is room
pub write_accepts : (octets ns out out' : List ℕ) {r : Writing} → Octets octets → WritePromise octets ns out out' r
    → ((n : OctetCount) × (r ≡ Ok n)) ↔ ((ts : List Tone) × Packable ts × (join (messages_of ts) ≡ octets) × (lengths (messages_of ts) ≡ ns) × (length (pack_octets ts) ≤ length out))
write_accepts octets ns out out' {r} o h = (
  λ a. let w = write_says octets ns out out' o (subst (WritePromise octets ns out out') a.1 h) in (w.tones, w.packable, w.messages, w.rows, w.room),
  λ w. (
    octet_count (length (pack_octets w.0)),
    (write_pack_lem w.0 out out' w.1 w.4 (subst (λ (x : List ℕ). WritePromise (join (messages_of w.0)) x out out' r) (sym w.3) (subst (λ (x : List ℕ). WritePromise x ns out out' r) (sym w.2) h))).0,
  ),
)

-- ---- both ways round

-- what `write` wrote `read` accepts, with as many messages as lengths
pub read_of_write : (octets ns out out' : List ℕ) {n : OctetCount} {r : Reading} → Octets octets → WritePromise octets ns out out' (Ok n) → ReadPromise (take n.0 out') r → r ≡ Ok (length ns)
read_of_write octets ns out out' {n} {r} o h q =
    let w = write_says octets ns out out' o h in
    let e = written_front octets ns out out' o h in
    let l : length w.tones ≡ length ns = sym (length-map w.tones tone_octets) ∙ sym (length-map (messages_of w.tones) length) ∙ ap length w.rows in
    read_of_pack w.tones w.packable (subst (λ (x : List ℕ). ReadPromise x r) e q) ∙ ap Ok l

-- and `message` hands back the messages that were written
pub message_of_write : (octets ns out out' : List ℕ) {n : OctetCount} (p s : Bor (List ℕ)) (i : ℕ) → Octets octets → WritePromise octets ns out out' (Ok n) → p.now ≡ take n.0 out' → i < length ns
    → MessagePromise p i s → s.now ≡ get_or (cut ns octets) i []
message_of_write octets ns out out' p s i o h g j q =
    let w = write_says octets ns out out' o h in
    let ms = messages_of w.tones in
    let l : length w.tones ≡ length ns = sym (length-map w.tones tone_octets) ∙ sym (length-map ms length) ∙ ap length w.rows in
    let c : cut ns octets ≡ ms = ap₂ cut (sym w.rows) (sym w.messages ∙ sym (append-nil (join ms))) ∙ cut_join ms [] in
    (message_of_pack w.tones w.packable i (rw l j) p s (g ∙ written_front octets ns out out' o h) q).0 ∙ ap (λ (x : List (List ℕ)). get_or x i []) (sym c)

-- messages that `message` hands back, one for each number
abbrev pub TakenOut : Bor (List ℕ) → ℕ → List (List ℕ) → Type 0
TakenOut p k ms = (i : ℕ) → i < k → (r : Bor (List ℕ)) × MessagePromise p i r × (get_or ms i [] ≡ r.now)

-- the messages that are taken out of a pack one by one are all of its messages
pub taken_out : (p : Bor (List ℕ)) {k : ℕ} (ms : List (List ℕ)) → ReadPromise p.now (Ok k) → length ms ≡ k → TakenOut p k ms → ms ≡ messages_in p.now
taken_out q {k} ms h l each =
    let p = q.now in
    let s = read_says p h in
    let m = met p s.1 in
    let n : length (messages_in p) ≡ k = length_cut (lengths_in (rows_in p)) p ∙ length-map (rows_in p) (λ (r : Row). r.length) ∙ length_rows_at (count p) p (first_row p) ∙ sym (read_count p m) ∙ sym s.2 in
    ext_get_or [] ms (messages_in p) (l ∙ sym n) (λ i j. (each i (rw (← l) j)).2 ∙ (each i (rw (← l) j)).1.octets ∙ nth_stretch p s.1 i (rw (← s.2, ← l) j))

-- `write` of the messages that `read` and `message` gave, into enough room, gives the same octets
pub write_of_read : (p : Bor (List ℕ)) {k : ℕ} (ms : List (List ℕ)) (out out' : List ℕ) {r : Writing} → Octets p.now → ReadPromise p.now (Ok k) → length ms ≡ k
    → TakenOut p k ms → length p.now ≤ length out → WritePromise (join ms) (lengths ms) out out' r
    → (r ≡ Ok (octet_count (length p.now))) × (out' ≡ over p.now out)
write_of_read q ms out out' {r} o h l each room w =
    let p = q.now in
    let s = read_says p h in
    let k = pack_is_packable p s.0 o s.1 in
    let e : pack_octets s.0 ≡ p = pack_is_written p s.0 o s.1 in
    let t : messages_in p ≡ messages_of s.0 = ap messages_in (sym e) ∙ messages_there s.0 k in
    let g : ms ≡ messages_of s.0 = taken_out q ms h l each ∙ t in
    let d = write_pack_lem s.0 out out' k (rw e room) (subst (λ (x : List (List ℕ)). WritePromise (join x) (lengths x) out out' r) g w) in
    (d.0 ∙ ap (λ (x : List ℕ). Ok (octet_count (length x))) e, d.1 ∙ ap (λ (x : List ℕ). over x out) e)

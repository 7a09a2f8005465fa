-- What holds of the call: what it leaves in the buffers is what the rule keeps, and the calls on packs take it.
use Prim.Native.Nat.{ℕ, ◌+◌, ◌≤◌, ◌<◌}
use native.Mathlib.Omega.{arith}
use mathlib.Core.Path.{◌≡◌, sym, ap, ap₂, subst, ◌∙◌}
use mathlib.Core.List.{List, []}
use lib.ListN.{length, get_or, take, length-map}
use lib.Seq.{take-append_seam}
use denote.Ref.{Bor}
use Rattle.bits.specs.Bits.{Octets}
use Rattle.std.specs.Prelude.{Ok}
use Rattle.bits.specs.Outcome.{accepted}
use Rattle.bits.specs.declared.OctetCount.{OctetCount}
use Rattle.bits.specs.Lent.{over}
use Rattle.bits.proofs.Octets.{octets_take}
use Rattle.tone.specs.Tone.{Tone}
use Rattle.inside.specs.Inside.{sum}
use Rattle.pack.specs.Pack.{most_pack, pack_octets, Row, lengths_in, rows_in, read_pack}
use Rattle.pack.specs.Promises.{Reading, ReadPromise, MessagePromise}
use Rattle.pack.proofs.Calls.{read_of_pack, message_of_pack}
use Rattle.salvage.specs.Salvage.{counting, pieces, kept_in, skipped_in, stretch_in, stretches_in, new_pack, new_report, Salvaged, salvaged}
use Rattle.salvage.specs.Promises.{SalvagePromise}
use Rattle.salvage.proofs.Pieces.{kept_and_skipped}
use Rattle.salvage.proofs.Keeping.{PackReads, new_pack_reads}
use Rattle.salvage.proofs.First.{sound_counts, sound_pack_first}
use Rattle.salvage.proofs.Order.{room_says, RoomSays}
use Rattle.salvage.proofs.Unique.{Came, salvage_says}

module _ (p out report out' report' : List ℕ) {k : ℕ} {o s : OctetCount} (h : SalvagePromise p out report out' report' (Ok (record { messages = k; octets = o; skipped = s }))) where
  -- what counts of the input, and the rows of what is kept of it
  abbrev c : List ℕ
  c = counting p

  abbrev rs : List Row
  rs = kept_in (pieces c)

  came : Came p out report out' report' k o s
  came = salvage_says p out report out' report' h

  came_is : (came.what ≡ salvaged c) × (length (salvaged c).pack ≤ most_pack)
  came_is = let a = subst (RoomSays (salvaged c) (length out) (length report)) came.outcome (room_says (salvaged c) (length out) (length report)) in (a.0, a.1)

  -- the answer: messages kept, octets of the pack, octets skipped
  pub messages_kept : k ≡ length (kept_in (pieces (counting p)))
  unfolding salvaged
  messages_kept = came.messages ∙ ap (λ (x : Salvaged). x.messages) came_is.0

  pub octets_skipped : s.0 ≡ skipped_in (pieces (counting p))
  unfolding salvaged
  octets_skipped = ap (λ (x : OctetCount). x.0) came.skips ∙ ap (λ (x : Salvaged). x.skips) came_is.0

  -- kept and skipped octets together are all that count
  pub all_accounted : sum (lengths_in (kept_in (pieces (counting p)))) + s.0 ≡ length (counting p)
  all_accounted = ap (λ (n : ℕ). sum (lengths_in rs) + n) octets_skipped ∙ kept_and_skipped c

  -- the buffer begins with the new pack, and the row with the report
  pub pack_there : take o.0 out' ≡ new_pack (counting p) (kept_in (pieces (counting p)))
  unfolding salvaged
  pack_there =
      let w = came.what in
      ap₂ take (ap (λ (x : OctetCount). x.0) came.octets) came.lent ∙ take-append_seam w.pack _ ∙ ap (λ (x : Salvaged). x.pack) came_is.0

  pub report_there : take (length (new_report (kept_in (pieces (counting p))) s.0)) report' ≡ new_report (kept_in (pieces (counting p))) s.0
  unfolding salvaged
  report_there =
      let r = new_report rs s.0 in
      let e : came.what.report ≡ r = ap (λ (x : Salvaged). x.report) came_is.0 ∙ ap (new_report rs) (sym octets_skipped) in
      ap (take (length r)) (came.reported ∙ ap (λ (x : List ℕ). over x report) e) ∙ take-append_seam r _

  module _ (octets : Octets p) where
    -- what the new pack reads as: as many tones as messages are kept
    new : PackReads c rs
    unfolding salvaged
    new = new_pack_reads c (octets_take most_pack p octets) came_is.1

    there : take o.0 out' ≡ pack_octets new.tones
    there = pack_there ∙ sym new.written

    many : length new.tones ≡ k
    many = sym (length-map new.tones _) ∙ ap length new.those ∙ length-map rs (stretch_in c) ∙ sym messages_kept

    -- the new pack reads, with as many messages
    pub pack_reads : {r : Reading} → ReadPromise (take o.0 out') r → r ≡ Ok k
    pack_reads {r} q = read_of_pack new.tones new.packable (subst (λ (l : List ℕ). ReadPromise l r) there q) ∙ ap Ok many

    -- and its messages are the ones that are kept
    pub pack_messages : (b r : Bor (List ℕ)) (n : ℕ) → b.now ≡ take o.0 out' → n < k → MessagePromise b n r → r.now ≡ get_or (stretches_in (counting p) (kept_in (pieces (counting p)))) n []
    pack_messages b r n e i q =
        (message_of_pack new.tones new.packable n (omega (arith, i, many)) b r (e ∙ there) q).0 ∙ ap (λ (ms : List (List ℕ)). get_or ms n []) new.those

-- a sound pack, if it is not refused, yields its own messages as the first ones
pub sound_pack_comes_first : (p out report out' report' : List ℕ) {k : ℕ} {o s : OctetCount} {ts : List Tone} → SalvagePromise p out report out' report' (Ok (record { messages = k; octets = o; skipped = s })) → read_pack p ≡ accepted ts
    → take (length (rows_in p)) (kept_in (pieces (counting p))) ≡ rows_in p
sound_pack_comes_first p out report out' report' h q = ap (λ (l : List ℕ). take (length (rows_in p)) (kept_in (pieces l))) (sound_counts p q) ∙ ap (take (length (rows_in p))) (sound_pack_first p q) ∙ take-append_seam (rows_in p) _

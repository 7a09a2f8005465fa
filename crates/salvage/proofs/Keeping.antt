-- What is kept reads: each message by itself, and the new pack, whose messages are the ones that are kept.
use Prim.Native.Nat.{ℕ, ◌+◌, ◌-◌, ◌≤◌}
use native.Mathlib.Omega.{arith}
use mathlib.Core.Path.{◌≡◌, refl, sym, ap, ap₂, ◌∙◌}
use mathlib.Core.List.{List, [], ◌∷◌}
use lib.ListN.{length, take, drop}
use Rattle.bits.specs.Bits.{Octets}
use Rattle.bits.specs.Outcome.{accepted}
use Rattle.bits.proofs.Octets.{octets_take, octets_drop}
use Rattle.tone.specs.Tone.{Tone}
use Rattle.tone.specs.Reading.{read_tone}
use Rattle.tone.proofs.Demand2.{accepted_is_written}
use Rattle.tone.proofs.Stretch.{stretch_reads}
use Rattle.tone.proofs.Standing.{stands_read}
use Rattle.inside.specs.Inside.{join, lengths}
use Rattle.pack.specs.Pack.{most_pack, pack_of, messages_of, pack_octets, AllFormed, Packable, Row, lengths_in, messages_in, read_pack}
use Rattle.pack.proofs.Rules.{length_pack_of}
use Rattle.pack.proofs.Demand2.{messages_there, pack_is_accepted}
use Rattle.salvage.specs.Salvage.{message_at, pieces, kept_in, stretch_in, stretches_in, new_pack}
use Rattle.salvage.proofs.Pieces.{message_inside, message_most, message_stands, by_pieces, kept_in_order}
use Rattle.salvage.proofs.Putting.{rows_long}

-- ---- each message

-- a message that starts at an octet reads by itself
pub message_reads : (c : List ℕ) (at : ℕ) → at ≤ length c → 1 ≤ message_at c at → (t : Tone) × (read_tone (take (message_at c at) (drop at c)) ≡ accepted t)
message_reads c at h l =
    let n = message_at c at in
    let a = message_stands c at h l in
    let z : at + n - at ≡ n = omega arith in
    (a.tone, ap (λ (k : ℕ). read_tone (take k (drop at c))) (sym z) ∙ stretch_reads c at (at + n) (omega arith) (message_inside c at h) (omega (arith, message_most c at)) (stands_read c at h a))

-- each row's message reads by itself
abbrev pub AllRead : List ℕ → List Row → Type 0
AllRead c [] = Unit {0}
AllRead c (r ∷ rs) = ((t : Tone) × (read_tone (stretch_in c r) ≡ accepted t)) × AllRead c rs

-- each message that is kept reads by itself
pub kept_read : (c : List ℕ) → AllRead c (kept_in (pieces c))
kept_read c = by_pieces c (λ at xs. AllRead c (kept_in xs)) tt (λ at h xs a. a) (λ at h d xs a. (message_reads c at (omega arith) (omega (arith, d)), a))

-- ---- their pack

-- the tones of messages that read
pub record Tones (c : List ℕ) (rs : List Row) : Type 0 where
  pub tones : List Tone
  pub formed : AllFormed tones
  pub messages : messages_of tones ≡ stretches_in c rs

tones_of : (c : List ℕ) (rs : List Row) → Octets c → AllRead c rs → Tones c rs
tones_of c [] o a = record { tones = []; formed = tt; messages = refl }
tones_of c (r ∷ rs) o a =
    let t = a.0.0 in
    let w = accepted_is_written (stretch_in c r) t (octets_take r.length (drop r.start c) (octets_drop r.start c o)) a.0.1 in
    let s = tones_of c rs o a.1 in
    record { tones = t ∷ s.tones; formed = (w.0, s.formed); messages = ap₂ (λ (m : List ℕ) (ms : List (List ℕ)). m ∷ ms) w.1 s.messages }

-- the new pack reads, and its messages are the ones that are kept
pub record PackReads (c : List ℕ) (rs : List Row) : Type 0 where
  pub tones : List Tone
  pub packable : Packable tones
  pub written : pack_octets tones ≡ new_pack c rs
  pub reads : read_pack (new_pack c rs) ≡ accepted tones
  pub messages : messages_in (new_pack c rs) ≡ stretches_in c rs
  pub those : messages_of tones ≡ stretches_in c rs

pub new_pack_reads : (c : List ℕ) → Octets c → length (new_pack c (kept_in (pieces c))) ≤ most_pack → PackReads c (kept_in (pieces c))
unfolding pack_octets new_pack
new_pack_reads c o h =
    let rs = kept_in (pieces c) in
    let s = tones_of c rs o (kept_read c) in
    let ts = s.tones in
    let n : lengths (messages_of ts) ≡ lengths_in rs = ap lengths s.messages ∙ rows_long c 0 rs (kept_in_order c) in
    let e : pack_octets ts ≡ new_pack c rs = ap₂ pack_of (ap join s.messages) n in
    let k : Packable ts = record { each = s.formed; size = omega (arith, h, ap length e, length_pack_of (join (messages_of ts)) (lengths (messages_of ts))) } in
    record {
      tones = ts;
      packable = k;
      written = e;
      reads = ap read_pack (sym e) ∙ pack_is_accepted ts k;
      messages = ap messages_in (sym e) ∙ messages_there ts k ∙ s.messages;
      those = s.messages;
    }

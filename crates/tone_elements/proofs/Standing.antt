-- The entry that stands at a place of a message.
use Prim.Native.Nat.{ℕ, ◌+◌, ◌-◌, ◌*◌, ◌/◌, ◌%◌, ◌^◌, ◌≤◌, ◌<◌}
use native.Mathlib.Omega.{arith}
use native.Mathlib.Nat.{add-zero}
use mathlib.Core.Path.{◌≡◌, refl, sym, ap, ◌∙◌}
use mathlib.Core.Bool.{Bool}
use mathlib.Core.List.{List, ◌++◌, append_assoc}
use lib.ListN.{length, drop, length-append, length-drop}
use lib.Seq.{take_at, drop_at, drop-drop}
use Rattle.bits.specs.Bits.{num, bits_n, bits_of, field}
use Rattle.bits.specs.Window.{Look}
use Rattle.bits.proofs.Numbers.{length_bits, num_bits}
use Rattle.bits.proofs.Octets.{length_bits_of}
use Rattle.bits.proofs.Looking.{seen}
use Rattle.tone.specs.Table.{kind, payload, width}
use Rattle.tone.specs.Writing.{entry_bits}
use Rattle.tone.proofs.Rows.{width_most, length_entry_bits}
use Rattle.tone_elements.specs.Answers.{Within, EntryAt, SomeEntry, Passed}
use Rattle.tone_elements.proofs.Elements.{note_width}

-- a number that stands at a place
pub stands : (l : List Bool) (at w v : ℕ) (r : List Bool) → v < 2 ^ w → drop at l ≡ bits_n w v ++ r → field l at w ≡ v
unfolding field
stands l at w v r h d = rw d (ap num (take_at (bits_n w v) r w (length_bits w v)) ∙ num_bits w v h)

-- there are bits enough for what stands at a place
pub room : (m : List ℕ) (at : ℕ) (b r : List Bool) → at ≤ 8 * length m → drop at (bits_of m) ≡ b ++ r → at + length b ≤ 8 * length m
room m at b r h d = omega (arith, sym (length-drop at (bits_of m)) ∙ ap length d ∙ length-append b r, length_bits_of m)

-- what follows
pub onward_from : (l : List Bool) (at : ℕ) (b r : List Bool) → drop at l ≡ b ++ r → drop (at + length b) l ≡ r
onward_from l at b r d = sym (drop-drop (length b) at l) ∙ ap (drop (length b)) d ∙ drop_at b r (length b) refl

-- ---- one entry

module _ {m : List ℕ} {at e : ℕ} {b : List Bool} (i : Within m at) (h : EntryAt m at e b) where
  pub entry_room : at + (3 + width (kind e)) ≤ 8 * length m
  entry_room = rw (← length_entry_bits e) (room m at (entry_bits e) b i.inside h.here)

  here : drop at (bits_of m) ≡ bits_n 3 (kind e) ++ (bits_n (width (kind e)) (payload e) ++ b)
  unfolding entry_bits
  here = h.here ∙ append_assoc (bits_n 3 (kind e)) (bits_n (width (kind e)) (payload e)) b

  id_field : field (bits_of m) at 3 ≡ kind e
  id_field = let k = h.in_table.known in stands (bits_of m) at 3 (kind e) (bits_n (width (kind e)) (payload e) ++ b) (omega arith) here

  rest_field : field (bits_of m) (at + 3) (width (kind e)) ≡ payload e
  rest_field =
      let d : drop (at + 3) (bits_of m) ≡ bits_n (width (kind e)) (payload e) ++ b =
      ap (λ (n : ℕ). drop (at + n) (bits_of m)) (sym (length_bits 3 (kind e))) ∙ onward_from (bits_of m) at (bits_n 3 (kind e)) (bits_n (width (kind e)) (payload e) ++ b) here in
      stands (bits_of m) (at + 3) (width (kind e)) (payload e) b h.in_table.fits d

  module _ {x : ℕ} (lk : Look (drop at (bits_of m)) x) where
    pub kind_seen : x / 2097152 ≡ kind e
    kind_seen =
        let r = entry_room in
        let s = lk.small in
        let f : field (bits_of m) (at + 0) 3 ≡ x / 2 ^ (24 - (0 + 3)) % 2 ^ 3 = seen m at 0 3 lk (omega arith) (omega arith) in
        omega (arith, f, ap (λ (n : ℕ). field (bits_of m) n 3) (add-zero at), id_field)

    payload_seen : {w : ℕ} → w ≡ width (kind e) → x / 2 ^ (24 - (3 + w)) % 2 ^ w ≡ payload e
    payload_seen {w} ew =
        let k = width_most (kind e) in
        let r = entry_room in
        sym (seen m at 3 w lk (omega arith) (omega arith)) ∙ ap (λ (n : ℕ). field (bits_of m) (at + 3) n) ew ∙ rest_field

    -- in the code's terms: an entry of a kind that it looks up, and a note
    passed : (k : ℕ) {w c q : ℕ} → k ≡ x / 2097152 → w ≡ width k → (c ≡ k * 65536 + x / 2 ^ (24 - (3 + w)) % 2 ^ w) × (q ≡ at + 3 + w) → Passed at e c q
    passed k {w} ek hw h =
        let ew : w ≡ width (kind e) = hw ∙ ap width (ek ∙ kind_seen) in
        record { taken = omega (arith, h.0, ek, kind_seen, payload_seen ew); behind = omega (arith, h.1, length_entry_bits e, ew) }

    pub entry_passed : {w c q : ℕ} → (w ≡ width (x / 2097152)) × (w ≤ 14) → (c ≡ x / 2097152 * 65536 + x / 2 ^ (24 - (3 + w)) % 2 ^ w) × (q ≡ at + 3 + w) → Passed at e c q
    entry_passed hw h = passed (x / 2097152) refl hw.0 h

    pub note_passed : {c q : ℕ} → x / 2097152 ≡ 1 → (c ≡ 1 * 65536 + x / 2 ^ (24 - (3 + 9)) % 2 ^ 9) × (q ≡ at + 3 + 9) → Passed at e c q
    note_passed h t = passed 1 (sym h) note_width t

-- the entry that stands there has one of the kinds of the table
pub some_kind : {m : List ℕ} {at x : ℕ} → Within m at → SomeEntry m at → Look (drop at (bits_of m)) x → x / 2097152 ≤ 5
some_kind i s lk = omega (arith, kind_seen i s.stands lk, s.stands.in_table.known)

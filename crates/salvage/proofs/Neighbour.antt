-- The neighbouring claim, that a sound pack comes back as it was, is false: its rows can spell a whole message.
use Prim.Native.Nat.{ℕ, zero, suc, ◌+◌, ◌-◌, ◌≤◌}
use native.Mathlib.Omega.{arith}
use mathlib.Core.Path.{◌≡◌, refl, sym, ap, ap₂, ◌∙◌}
use mathlib.Core.Bool.{Bool, true, false}
use mathlib.Core.List.{List, [], ◌∷◌, ◌++◌, map}
use lib.ListN.{length, length-append, length-map}
use lib.Seq.{drop-append-add}
use lib.Dec.{leb, eqb}
use borrow.Author.Tests.{leb-true, leb-false}
use Rattle.bits.specs.Choice.{pick}
use Rattle.bits.specs.Bits.{field, bits_n}
use Rattle.tone.specs.Tone.{Tone}
use Rattle.tone.specs.Table as table
use Rattle.tone.specs.Tone as tone
use Rattle.tone.specs.Reading as reading
use Rattle.tone.proofs.Standing.{same_behind}
use Rattle.inside.specs.Inside.{pair, join, lengths, sum}
use Rattle.inside.proofs.Stretches.{length_join}
use Rattle.pack.specs.Pack.{rows_from, pack_of, messages_of, pack_octets, Packable, Row, first_row, rows_in}
use Rattle.pack.proofs.Demand2.{first_there, lengths_there, pack_is_accepted}
use Rattle.salvage.specs.Salvage.{message_at, Piece, kept, skipped, taken, piece_at, pieces_from, pieces, kept_in, skipped_in}
use Rattle.salvage.proofs.Pieces.{taken_inside, no_pieces, next_piece, onward}
use Rattle.salvage.proofs.First.{sound_pack_first, sound_pack_skips}

-- ---- pieces behind a front

-- a piece behind so many octets more
abbrev pub moved_on : ℕ → Piece → Piece
moved_on k (kept r) = kept (record { start = k + r.start; length = r.length })
moved_on k (skipped at) = skipped (k + at)

taken_moved : (k : ℕ) (x : Piece) → taken (moved_on k x) ≡ taken x
taken_moved k (kept r) = refl
taken_moved k (skipped at) = refl

module _ (a b : List ℕ) where
  message_moved : (s : ℕ) → s ≤ length b → message_at (a ++ b) (length a + s) ≡ message_at b s
  unfolding message_at
  message_moved s h =
      ap (λ (n : ℕ). pick (leb n 4096) n 0) (same_behind (a ++ b) b (length a + s) s (omega (arith, length-append a b)) h (drop-append-add a b s))

  piece_moved : (s : ℕ) → s ≤ length b → piece_at (a ++ b) (length a + s) ≡ moved_on (length a) (piece_at b s)
  unfolding piece_at
  piece_moved s h =
      ap (λ (n : ℕ). pick (eqb n 0) (skipped (length a + s)) (kept (record { start = length a + s; length = n }))) (message_moved s h) ∙ go (eqb (message_at b s) 0)
    where
      go : (t : Bool) → pick t (skipped (length a + s)) (kept (record { start = length a + s; length = message_at b s })) ≡ moved_on (length a) (pick t (skipped s) (kept (record { start = s; length = message_at b s })))
      go true = refl
      go false = refl

  -- what follows a front is taken to pieces as it is by itself
  pub pieces_moved : (k s : ℕ) → s ≤ length b → pieces_from k (a ++ b) (length a + s) ≡ map (moved_on (length a)) (pieces_from k b s)
  unfolding pieces_from
  pieces_moved zero s h = refl
  pieces_moved (suc k) s h = go (leb (length b) s) refl (λ i. pieces_moved k (s + taken (piece_at b s)) i)
    where
      go : (t : Bool) → leb (length b) s ≡ t → (s + taken (piece_at b s) ≤ length b → pieces_from k (a ++ b) (length a + (s + taken (piece_at b s))) ≡ map (moved_on (length a)) (pieces_from k b (s + taken (piece_at b s))))
          → pieces_from (suc k) (a ++ b) (length a + s) ≡ map (moved_on (length a)) (pieces_from (suc k) b s)
      go true e r =
          let l = leb-true (length b) s e in
          no_pieces (a ++ b) (suc k) (length a + s) (omega (arith, l, length-append a b)) ∙ ap (map (moved_on (length a))) (sym (no_pieces b (suc k) s l))
      go false e r =
          let l = leb-false (length b) s e in
          let x = piece_at b s in
          let z : length a + s + taken x ≡ length a + (s + taken x) = omega arith in
          next_piece (a ++ b) k (length a + s) (omega (arith, l, length-append a b))
          ∙ ap (λ (y : Piece). y ∷ pieces_from k (a ++ b) (length a + s + taken y)) (piece_moved s h)
          ∙ ap (λ (n : ℕ). moved_on (length a) x ∷ pieces_from k (a ++ b) n) (ap (λ (n : ℕ). length a + s + n) (taken_moved (length a) x) ∙ z)
          ∙ ap (λ (ys : List Piece). moved_on (length a) x ∷ ys) (r (taken_inside b s l))
          ∙ ap (map (moved_on (length a))) (sym (next_piece b k s l))

-- ---- the example

-- the lengths of eight messages
abbrev pub example : List ℕ
example = 4096 ∷ 4096 ∷ 4096 ∷ 2051 ∷ 586 ∷ 439 ∷ 2052 ∷ 8 ∷ []

-- the 36 octets behind messages of these lengths; from octet 18 on they spell a message of 13 octets
abbrev pub spelled : List ℕ
spelled =
    0x00 ∷ 0x00 ∷ 0x10 ∷ 0x00 ∷ 0x10 ∷ 0x00 ∷ 0x10 ∷ 0x00 ∷ 0x20 ∷ 0x00 ∷ 0x10 ∷ 0x00 ∷ 0x30 ∷ 0x00 ∷ 0x08 ∷ 0x03 ∷ 0x38 ∷ 0x03
    ∷ 0x02 ∷ 0x4A ∷ 0x3A ∷ 0x4D ∷ 0x01 ∷ 0xB7 ∷ 0x3C ∷ 0x04 ∷ 0x08 ∷ 0x04 ∷ 0x44 ∷ 0x08 ∷ 0x00
    ∷ 0x08 ∷ 0x00 ∷ 0x08 ∷ 0x44 ∷ 0x10 ∷ []

-- so they are written
example_rows : rows_from 0 example ++ (pair 8 ++ pair 17424) ≡ spelled
example_rows = refl

-- and so they are taken to pieces: 18 octets are skipped, 13 are kept, and 5 are skipped
example_pieces : (kept_in (pieces_from 36 spelled 0) ≡ record { start = 18; length = 13 } ∷ []) × (skipped_in (pieces_from 36 spelled 0) ≡ 23)
unfolding field bits_n table.width table.allowed tone.allowed_character reading.element reading.filled reading.whether_unicode reading.sound_part reading.parts reading.command reading.character reading.text reading.title reading.counted reading.titled reading.typed reading.front reading.header_due reading.instruction_due reading.body_due reading.patterns_due reading.ending reading.rest reading.whole_tone reading.tone_at message_at piece_at pieces_from
example_pieces = (refl, refl)

-- pieces that are moved
kept_moved : (k : ℕ) (xs : List Piece) → kept_in (map (moved_on k) xs) ≡ map (λ (r : Row). record { start = k + r.start; length = r.length }) (kept_in xs)
kept_moved k [] = refl
kept_moved k (kept r ∷ xs) = ap (λ (rs : List Row). record { start = k + r.start; length = r.length } ∷ rs) (kept_moved k xs)
kept_moved k (skipped at ∷ xs) = kept_moved k xs

skips_moved : (k : ℕ) (xs : List Piece) → skipped_in (map (moved_on k) xs) ≡ skipped_in xs
skips_moved k [] = refl
skips_moved k (kept r ∷ xs) = skips_moved k xs
skips_moved k (skipped at ∷ xs) = ap suc (skips_moved k xs)

module _ (ts : List Tone) (k : Packable ts) (e : lengths (messages_of ts) ≡ example) where
  abbrev octets : List ℕ
  octets = join (messages_of ts)

  long : length octets ≡ 17424
  long = length_join (messages_of ts) ∙ ap sum e

  -- the pack: the messages, and what they are followed by
  pack_is : pack_octets ts ≡ octets ++ spelled
  unfolding pack_octets pack_of
  pack_is = ap₂ (λ (ns : List ℕ) (n : ℕ). octets ++ (rows_from 0 ns ++ (pair (length ns) ++ pair n))) e long ∙ ap (λ (l : List ℕ). octets ++ l) example_rows

  behind : onward (pack_octets ts) (first_row (pack_octets ts)) ≡ map (moved_on 17424) (pieces_from 36 spelled 0)
  behind =
      let f : first_row (pack_octets ts) ≡ length octets = first_there ts k in
      let z : length octets ≡ length octets + 0 = omega arith in
      let n : length (octets ++ spelled) - (length octets + 0) ≡ 36 = omega (arith, length-append octets spelled) in
      ap₂ onward pack_is (f ∙ z)
      ∙ ap (λ (j : ℕ). pieces_from j (octets ++ spelled) (length octets + 0)) n
      ∙ pieces_moved octets spelled 36 0 (omega arith)
      ∙ ap (λ (j : ℕ). map (moved_on j) (pieces_from 36 spelled 0)) long

  -- eight well-formed messages of these lengths make a pack of which nine are kept, the ninth from octet 17,442 of its own rows, and 23 octets are skipped
  pub nine_of_eight : (kept_in (pieces (pack_octets ts)) ≡ rows_in (pack_octets ts) ++ (record { start = 17442; length = 13 } ∷ [])) × (length (rows_in (pack_octets ts)) ≡ 8) × (skipped_in (pieces (pack_octets ts)) ≡ 23)
  nine_of_eight =
      let q = pack_is_accepted ts k in
      let p = pack_octets ts in (
        sound_pack_first p q ∙ ap (λ (rs : List Row). rows_in p ++ rs) (ap kept_in behind ∙ kept_moved 17424 (pieces_from 36 spelled 0) ∙ ap (map (λ (r : Row). record { start = 17424 + r.start; length = r.length })) example_pieces.0),
        sym (length-map (rows_in p) (λ (r : Row). r.length)) ∙ ap length (lengths_there ts k ∙ e),
        sound_pack_skips p q ∙ ap skipped_in behind ∙ skips_moved 17424 (pieces_from 36 spelled 0) ∙ example_pieces.1,
      )

-- A tone that has room is written whole.
use Prim.Native.Nat.{ℕ, ◌+◌, ◌*◌, ◌≤◌, ◌<◌}
use native.Mathlib.Omega.{arith}
use mathlib.Core.Path.{◌≡◌, sym, ap, ap₂, subst, ◌∙◌}
use mathlib.Core.Bool.{Bool, false}
use mathlib.Core.List.{List, [], ◌++◌, append_assoc}
use lib.ListN.{length, get_or, take, drop, replicate, length-append, take-append-drop}
use lib.Dec.{leb}
use borrow.Author.Tests.{leb-true}
use mir.Val.{Fits}
use mir.Syntax.{w8}
use Rattle.bits.specs.Bits.{bits_n, bits_of, Octets, place_after, octets_to, filler_to}
use Rattle.bits.specs.Lent.{over}
use Rattle.bits.specs.Outcome.{accepted}
use Rattle.bits.specs.Sink.{written, Put, Sealed}
use Rattle.bits.proofs.Numbers.{length_bits}
use Rattle.bits.proofs.Octets.{octets_of_lem, octets_take}
use Rattle.bits.proofs.Putting.{nothing, drop_further, put_then}
use Rattle.bits.proofs.Choice.{both}
use Rattle.tone.specs.Tone.{Tone, patterns_of, characters}
use Rattle.tone.specs.Writing.{command_bits, title_bits, table_bits, front_bits, song_bits, tone_bits, tone_length, tone_octets}
use Rattle.tone.proofs.Demand2.{length_tone_octets, octets_are}
use Rattle.tone_read.specs.Judging.{Entries}
use Rattle.tone_read.proofs.Told.{cells_entries}
use Rattle.tone_table.specs.Judging.{judge_table}
use Rattle.tone_table.proofs.GoodTables.{GoodTable, judged_is_good}
use Rattle.tone_write.specs.Judging.{tone_of, write_tone}
use Rattle.tone_write.specs.Appending.{front_with, front_length}
use Rattle.tone_write.proofs.Pieces.{put_as, command_length_lem, title_length_lem}
use Rattle.tone_write.proofs.Accepting.{Passed, passed}

-- ---- a buffer with a tone's bits

module _ (t : Tone) {old mid new : List ℕ} {at n acc r : ℕ} (p : Put [] (song_bits t) (length (song_bits t)) old mid at n acc) (s : Sealed (written mid at n acc) (8 * at + n) mid new r) where
  sealed_size : r ≡ tone_length t
  sealed_size = s.size ∙ ap (λ (x : ℕ). octets_to x + 1) p.place

  sealed_bits : bits_of (take r new) ≡ tone_bits t
  unfolding tone_bits
  sealed_bits = s.bits ∙ ap₂ (λ (x : List Bool) (y : ℕ). x ++ replicate (filler_to y + 8) false) p.bits p.place

  sealed_rest : drop r new ≡ drop r old
  sealed_rest = s.rest ∙ drop_further (octets_to (length (song_bits t))) r mid old (omega (arith, sealed_size)) p.rest

  sealed_over : Octets new → new ≡ over (tone_octets t) old
  sealed_over o =
      let e : tone_octets t ≡ take r new = octets_are (take r new) t (octets_take r new o) sealed_bits in
      sym (take-append-drop r new) ∙ ap₂ (λ (x y : List ℕ). x ++ y) (sym e) (sealed_rest ∙ ap (λ (x : ℕ). drop x old) (sealed_size ∙ sym (length_tone_octets t)))

-- ---- what `put_front` shows

-- a sink at the start holds nothing
pub front_none : (out : List ℕ) {at n acc : ℕ} → (at ≡ 0) × (n ≡ 0) × (acc ≡ 0) → written out at n acc ≡ []
front_none out e = rw (e.0, e.1, e.2) (nothing out)

module _ (song : ℕ) (u : Bool) (title : List ℕ) (count : ℕ) where
  abbrev opening : List Bool
  opening = command_bits u ++ bits_n 3 song

  parts : opening ++ title_bits song u title ++ bits_n 8 count ≡ front_bits (front_with song u title count)
  unfolding front_bits
  parts = simp append_assoc

  size : length (front_bits (front_with song u title count)) ≡ length opening + length (title_bits song u title) + 8
  size = ap length (sym parts) ∙ (simp (length-append (opening ++ title_bits song u title), length-append opening, length_bits))

  pub front_length_lem : length (front_bits (front_with song u title count)) ≡ front_length song u (length title)
  front_length_lem = omega (arith, size, command_length_lem u song, title_length_lem song u title)

module _ (song : ℕ) (u : Bool) (title : List ℕ) (count : ℕ) (out : List ℕ) (room : length (front_bits (front_with song u title count)) ≤ place_after (length out)) {at₀ n₀ : ℕ} (ea : at₀ ≡ 0) (en : n₀ ≡ 0) where
  pub front_room : 8 * at₀ + n₀ + length (command_bits u ++ bits_n 3 song) ≤ place_after (length out)
  front_room = omega (arith, size song u title count)

  module _ {old : List Bool} {b₁ : List ℕ} {at₁ n₁ acc₁ : ℕ} (p₁ : Put old (command_bits u ++ bits_n 3 song) (8 * at₀ + n₀ + length (command_bits u ++ bits_n 3 song)) out b₁ at₁ n₁ acc₁) (l₁ : length b₁ ≡ length out) where
    pub front_title_room : 8 * at₁ + n₁ + length (title_bits song u title) ≤ place_after (length b₁)
    front_title_room = omega (arith, size song u title count, p₁.place)

    module _ {b₂ : List ℕ} {at₂ n₂ acc₂ : ℕ} (p₂ : Put (written b₁ at₁ n₁ acc₁) (title_bits song u title) (8 * at₁ + n₁ + length (title_bits song u title)) b₁ b₂ at₂ n₂ acc₂) where
      pub front_count_room : length b₂ ≡ length b₁ → 8 * at₂ + n₂ + 8 ≤ place_after (length b₂)
      front_count_room l₂ = omega (arith, size song u title count, p₁.place, p₂.place)

      pub front_put : old ≡ [] → {b₃ : List ℕ} {at₃ n₃ acc₃ : ℕ} → Put (written b₂ at₂ n₂ acc₂) (bits_n 8 count) (8 * at₂ + n₂ + 8) b₂ b₃ at₃ n₃ acc₃
          → Put [] (front_bits (front_with song u title count)) (length (front_bits (front_with song u title count))) out b₃ at₃ n₃ acc₃
      front_put e p₃ =
          let q = put_then (put_then p₁ p₂ (omega (arith, p₁.place))) p₃ (omega (arith, p₂.place)) in
          let z : 8 * at₂ + n₂ + 8 ≡ length (front_bits (front_with song u title count)) = omega (arith, size song u title count, p₁.place, p₂.place) in
          rw e at (put_as (parts song u title count) z q)

pub ruleset fronts = (front_none, front_room, front_title_room, front_count_room, front_put)

-- ---- what `fill` shows

module _ (song : ℕ) (u : Bool) (title table out : List ℕ) {count : ℕ} (h : write_tone song u title table (length out) ≡ accepted (tone_of song u title table)) (j : judge_table table ≡ accepted count) where
  abbrev tone : Tone
  tone = tone_of song u title table

  fine : Passed song u title table (length out) tone
  fine = passed song u title table (length out) tone h

  good : GoodTable table count
  good = judged_is_good table count j

  pub fill_song : song < 8
  fill_song = omega (arith, fine.basic_or_temporary.1)

  pub fill_short : characters u title ≤ 15
  fill_short = leb-true (characters u title) 15 (both (leb (characters u title) 15) _ fine.title_good).0

  pub fill_count : count < 256
  fill_count = omega (arith, good.most)

  pub fill_entries : Entries table
  fill_entries = subst Entries good.cells (cells_entries _ (patterns_of table) good.sequence)

  whole : front_bits (front_with song u title count) ++ table_bits table ≡ song_bits tone
  unfolding song_bits
  whole = rw (good.cells, good.count)

  length_whole : length (song_bits tone) ≡ length (front_bits (front_with song u title count)) + length (table_bits table)
  length_whole = ap length (sym whole) ∙ length-append (front_bits (front_with song u title count)) (table_bits table)

  pub fill_room : length (front_bits (front_with song u title count)) ≤ place_after (length out)
  fill_room = omega (arith, fine.fits, length_whole)

  module _ {b₁ : List ℕ} {at₁ n₁ acc₁ : ℕ} (p₁ : Put [] (front_bits (front_with song u title count)) (length (front_bits (front_with song u title count))) out b₁ at₁ n₁ acc₁) (l₁ : length b₁ ≡ length out) where
    pub fill_table_room : 8 * at₁ + n₁ + length (table_bits table) ≤ place_after (length b₁)
    fill_table_room = omega (arith, fine.fits, length_whole, p₁.place)

    module _ {b₂ : List ℕ} {at₂ n₂ acc₂ : ℕ} (p₂ : Put (written b₁ at₁ n₁ acc₁) (table_bits table) (8 * at₁ + n₁ + length (table_bits table)) b₁ b₂ at₂ n₂ acc₂) where
      end : 8 * at₂ + n₂ ≡ length (song_bits tone)
      end = omega (arith, length_whole, p₁.place, p₂.place)

      pub fill_seal : length b₂ ≡ length b₁ → octets_to (8 * at₂ + n₂) + 1 ≤ length b₂
      fill_seal l₂ = omega (arith, fine.fits, end)

      all : Put [] (song_bits tone) (length (song_bits tone)) out b₂ at₂ n₂ acc₂
      all = put_as whole (sym p₂.place ∙ end) (put_then p₁ p₂ (omega (arith, p₁.place)))

      module _ {b₃ : List ℕ} {r : ℕ} (s : Sealed (written b₂ at₂ n₂ acc₂) (8 * at₂ + n₂) b₂ b₃ r) where
        pub fill_octets : r ≡ tone_length tone
        fill_octets = sealed_size tone all s

        pub fill_over : ((i : ℕ) → Fits w8 (get_or b₃ i 0)) → b₃ ≡ over (tone_octets tone) out
        fill_over f = sealed_over tone all s (octets_of_lem b₃ f)

pub ruleset fills = (fill_song, fill_short, fill_count, fill_entries, fill_room, fill_table_room, fill_seal, fill_octets, fill_over)

-- Demand 2 of the calls, from their promises alone: what reading and writing accept, and that each undoes the other.
use Prim.Native.Nat.{ℕ, ◌*◌, ◌≤◌}
use native.Mathlib.Omega.{arith}
use mathlib.Core.Path.{◌≡◌, refl, sym, ap, ap₂, ◌∙◌}
use mathlib.Core.Logic.{◌↔◌}
use mathlib.Core.Bool.{Bool, true, false, ◌&&◌}
use mathlib.Core.List.{List}
use lib.ListN.{length, take, drop}
use lib.Seq.{take_at}
use lib.Dec.{leb}
use borrow.Author.Tests.{leb-true}
use Rattle.std.specs.Prelude.{Result, Ok}
use Rattle.bits.specs.Choice.{pick}
use Rattle.bits.specs.Bits.{Octets}
use Rattle.bits.specs.Lent.{over}
use Rattle.bits.specs.Outcome.{Outcome, accepted, refused}
use Rattle.bits.specs.declared.OctetCount.{OctetCount}
use Rattle.bits.specs.declared.refusal.Refusal.{Refusal}
use Rattle.bits.specs.Places.{octet_count}
use Rattle.bits.proofs.Choice.{both}
use Rattle.tone.specs.Tone.{Tone, cells, patterns_of, characters, per_character, entries}
use Rattle.tone.specs.Writing.{tone_length, tone_octets, WellFormed}
use Rattle.tone.specs.Reading.{read_tone}
use Rattle.tone.proofs.Tables.{patterns_of_cells}
use Rattle.tone.proofs.Demand2.{accepted_is_written, written_is_accepted, length_tone_octets}
use Rattle.tone_read.specs.declared.Reading.{Reading}
use Rattle.tone_read.specs.Promise.{roomed, read_into, reading, read_answer, ReadPromise}
use Rattle.tone_read.proofs.Order.{room_enough}
use Rattle.tone_table.proofs.Walks.{not_refused}
use Rattle.written.specs.Written.{Writing}
use Rattle.tone_write.specs.Judging.{write_tone}
use Rattle.tone_write.specs.Promise.{write_answer, WritePromise}
use Rattle.tone_write.proofs.Accepting.{Writable, accepted_is_writable, writable_is_accepted}

-- ---- reading

-- m is the writing of the well-formed tone t, and there is room for its title and its table
pub record Readable (m table title : List ℕ) (t : Tone) : Type 0 where
  pub well_formed : WellFormed t
  pub writing : tone_octets t ≡ m
  pub title_room : length t.title ≤ length title
  pub table_room : entries t.patterns ≤ length table

-- a call of `read` that gave the tone t
pub record ReadAs (t : Tone) (table title table' title' : List ℕ) (r : Result Reading Refusal) : Type 0 where
  pub answer : r ≡ Ok (reading t)
  pub its_table : table' ≡ over (cells t.patterns) table
  pub its_title : title' ≡ over t.title title

module _ (m table title : List ℕ) where
  readable_accepted : (t : Tone) → Readable m table title t → read_into m (length title) (length table) ≡ accepted t
  readable_accepted t h = room_enough m (length title) (length table) (rw (← h.writing) (written_is_accepted t h.well_formed)) h.title_room h.table_room

  accepted_readable : (t : Tone) → Octets m → read_into m (length title) (length table) ≡ accepted t → Readable m table title t
  accepted_readable t o q = go (read_tone m) refl q
    where
      roomy : (x : Tone) → read_tone m ≡ accepted x → (b : Bool) → (leb (length x.title) (length title) && leb (entries x.patterns) (length table)) ≡ b
          → pick b (accepted x) (refused 11 0) ≡ accepted t → Readable m table title t
      roomy x e true f r =
          let s : x ≡ t = cc in
          let a = both (leb (length x.title) (length title)) (leb (entries x.patterns) (length table)) f in
          let w = accepted_is_written m x o e in
          rw (← s) (record { well_formed = w.0; writing = w.1; title_room = leb-true (length x.title) (length title) a.0; table_room = leb-true (entries x.patterns) (length table) a.1 })
      roomy x e false f r = absurd (not_refused r)

      go : (x : Outcome Tone) → read_tone m ≡ x → roomed (length title) (length table) x ≡ accepted t → Readable m table title t
      go (accepted x) e r = roomy x e (leb (length x.title) (length title) && leb (entries x.patterns) (length table)) refl r
      go (refused n p) e r = absurd (not_refused r)

  module _ {table' title' : List ℕ} {r : Result Reading Refusal} (h : ReadPromise m table title table' title' r) where
    -- given room, the writing of a well-formed tone is read as that tone
    pub read_gives : (t : Tone) → Readable m table title t → ReadAs t table title table' title' r
    read_gives t w =
        let e = readable_accepted t w in
        record { answer = rw e at h.answer; its_table = rw e at h.leaves_table; its_title = rw e at h.leaves_title }

    -- and nothing else is read
    pub read_only : Octets m → {a : Reading} → r ≡ Ok a → (t : Tone) × Readable m table title t × ReadAs t table title table' title' r
    read_only o {a} g = go (read_into m (length title) (length table)) refl (sym g ∙ h.answer)
      where
        go : (x : Outcome Tone) → read_into m (length title) (length table) ≡ x → Ok a ≡ read_answer x → (t : Tone) × Readable m table title t × ReadAs t table title table' title' r
        go (accepted t) q k = let w = accepted_readable t o q in (t, w, read_gives t w)
        go (refused n l) q k = cc

-- `read` accepts exactly the writings of well-formed tones for which there is room
pub read_exactly : {m table title table' title' : List ℕ} {r : Result Reading Refusal} → Octets m → ReadPromise m table title table' title' r → ((a : Reading) × (r ≡ Ok a)) ↔ ((t : Tone) × Readable m table title t)
read_exactly {m} {table} {title} o h =
    (λ a. let b = read_only m table title h o a.1 in (b.0, b.1), λ b. (reading b.0, (read_gives m table title h b.0 b.1).answer))

-- ---- writing

-- a call of `write` that wrote the tone t
pub record WroteAs (t : Tone) (out out' : List ℕ) (r : Writing) : Type 0 where
  pub answer : r ≡ Ok (octet_count (tone_length t))
  pub its_octets : out' ≡ over (tone_octets t) out

module _ (song : ℕ) (unicode : Bool) (title table out : List ℕ) {out' : List ℕ} {r : Writing} (h : WritePromise song unicode title table out out' r) where
  -- given room, the parts of a well-formed tone are written as that tone
  pub write_gives : (t : Tone) → Writable song unicode title table (length out) t → WroteAs t out out' r
  write_gives t w =
      let e = writable_is_accepted song unicode title table (length out) t w in
      record { answer = rw e at h.answer; its_octets = rw e at h.leaves }

  -- and nothing else is written
  pub write_only : Octets title → {n : OctetCount} → r ≡ Ok n → (t : Tone) × Writable song unicode title table (length out) t × WroteAs t out out' r
  write_only o {n} g = go (write_tone song unicode title table (length out)) refl (sym g ∙ h.answer)
    where
      go : (x : Outcome Tone) → write_tone song unicode title table (length out) ≡ x → Ok n ≡ write_answer x → (t : Tone) × Writable song unicode title table (length out) t × WroteAs t out out' r
      go (accepted t) q k = let w = accepted_is_writable song unicode title table (length out) t o q in (t, w, write_gives t w)
      go (refused k l) q e = let z : ◌≡◌ {A = ℕ} 0 1 = cc in absurd (omega arith)

  -- `write` accepts exactly the song types, titles and tables of well-formed tones for which there is room
  pub write_exactly : Octets title → ((n : OctetCount) × (r ≡ Ok n)) ↔ ((t : Tone) × Writable song unicode title table (length out) t)
  write_exactly o = (λ a. let b = write_only o a.1 in (b.0, b.1), λ b. (octet_count (tone_length b.0), (write_gives b.0 b.1).answer))

-- ---- one after the other

-- what stands over a buffer is there to be taken
taken : (new old : List ℕ) {n : ℕ} → n ≡ length new → take n (over new old) ≡ new
taken new old {n} e = take_at new (drop (length new) old) n (sym e)

-- write after read gives the same octets
pub write_after_read : (m table title : List ℕ) {table' title' : List ℕ} {a : Reading} (out : List ℕ) {out' : List ℕ} {r : Writing} → Octets m
    → ReadPromise m table title table' title' (Ok a) → length m ≤ length out
    → WritePromise a.song a.unicode (take (per_character a.unicode * a.characters) title') (take a.entries table') out out' r
    → (r ≡ Ok (octet_count (length m))) × (out' ≡ over m out)
write_after_read m table title {table'} {title'} {a} out o h room w =
    let b = read_only m table title h o refl in
    let t = b.0 in
    let is : a ≡ reading t = let k = b.2.answer in cc in
    let es : a.song ≡ t.song = ap (λ (x : Reading). x.song) is in
    let eu : a.unicode ≡ t.unicode = ap (λ (x : Reading). x.unicode) is in
    let ec : a.characters ≡ characters t.unicode t.title = ap (λ (x : Reading). x.characters) is in
    let ee : a.entries ≡ entries t.patterns = ap (λ (x : Reading). x.entries) is in
    let f = b.1.well_formed.formed.front.titled in
    let n : per_character a.unicode * a.characters ≡ length t.title = ap₂ (λ (x : Bool) (y : ℕ). per_character x * y) eu ec ∙ f.whole in
    let et : take (per_character a.unicode * a.characters) title' ≡ t.title = ap (take (per_character a.unicode * a.characters)) b.2.its_title ∙ taken t.title title n in
    let el : take a.entries table' ≡ cells t.patterns = ap (take a.entries) b.2.its_table ∙ taken (cells t.patterns) table ee in
    let em = b.1.writing in
    let k : tone_length t ≡ length m = sym (length_tone_octets t) ∙ ap length em in
    let g = write_gives a.song a.unicode (take (per_character a.unicode * a.characters) title') (take a.entries table') out w t
    (record { well_formed = b.1.well_formed; its_song = sym es; its_unicode = sym eu; its_title = sym et; its_table = sym el; fits = omega arith }) in
    (rw (← k) g.answer, rw (← em) g.its_octets)

-- read after write gives the parts back
pub read_after_write : (song : ℕ) (u : Bool) (title table out : List ℕ) {out' : List ℕ} {n : OctetCount} (table₂ title₂ : List ℕ) {table₂' title₂' : List ℕ} {r : Result Reading Refusal} → Octets title
    → WritePromise song u title table out out' (Ok n) → length title ≤ length title₂ → length table ≤ length table₂
    → ReadPromise (take n.0 out') table₂ title₂ table₂' title₂' r
    → (r ≡ Ok (record { song = song; unicode = u; characters = characters u title; patterns = length (patterns_of table); entries = length table })) × (table₂' ≡ over table table₂) × (title₂' ≡ over title title₂)
read_after_write song u title table out {out'} {n} table₂ title₂ {r = r} o h kt kl q =
    let b = write_only song u title table out h o refl in
    let t = b.0 in
    let w = b.1 in
    let a = b.2.answer in
    let en : n ≡ octet_count (tone_length t) = cc in
    let em : take n.0 out' ≡ tone_octets t = ap₂ (λ (x : OctetCount) (y : List ℕ). take x.0 y) en b.2.its_octets ∙ taken (tone_octets t) out (sym (length_tone_octets t)) in
    let es = w.its_song in
    let eu = w.its_unicode in
    let et = w.its_title in
    let el = w.its_table in
    let ep : t.patterns ≡ patterns_of table = sym (patterns_of_cells _ t.patterns w.well_formed.formed.sequence) ∙ ap patterns_of el in
    let g = read_gives (take n.0 out') table₂ title₂ q t
    (record { well_formed = w.well_formed; writing = sym em; title_room = rw et kt; table_room = rw el kl }) in
    (g.answer ∙ (rw (es, eu, et, el, ep)), rw el at g.its_table, rw et at g.its_title)

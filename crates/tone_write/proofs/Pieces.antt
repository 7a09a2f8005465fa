-- Bits of a tone that are put behind those that there are.
use Prim.Native.Nat.{ℕ, zero, suc, ◌+◌, ◌*◌, ◌/◌, ◌%◌, ◌^◌, ◌≤◌, ◌<◌}
use native.Mathlib.Omega.{arith}
use native.Mathlib.Nat.{lt_of_lt_of_le, add-zero}
use native.Mathlib.Numerals.{add-one}
use mathlib.Core.Path.{◌≡◌, refl, sym, ap, ap₂, subst, ◌∙◌}
use mathlib.Core.Bool.{Bool, true, false}
use mathlib.Core.List.{List, [], ◌∷◌, ◌++◌, append-nil}
use lib.ListN.{length, get_or, take, drop, length-append, take-append-drop}
use lib.Seq.{take-suc, take_all}
use lib.Dec.{eqb, lit<}
use lib.Pow.{pow_mono, shl_exact}
use borrow.Author.Tests.{eq-eqb, ne_eqb}
use mir.Val.{Fits}
use mir.Syntax.{w32}
use Rattle.bits.specs.Choice.{pick}
use Rattle.bits.specs.Bits.{bits_n, bits_of, place_after}
use Rattle.bits.specs.Sink.{written, Put}
use Rattle.bits.specs.declared.Sink.{Sink}
use Rattle.bits.proofs.Numbers.{length_bits, bits_append, join_lt}
use Rattle.bits.proofs.Octets.{bits_of_append, length_bits_of}
use Rattle.bits.proofs.Putting.{put_none, put_then}
use Rattle.tone.specs.Table.{kind, payload, width, InTable}
use Rattle.tone.specs.Writing.{command_bits, title_bits, entry_bits, table_bits}
use Rattle.tone.specs.Tone.{per_character, characters}
use Rattle.tone.proofs.Rows.{width_most, length_entry_bits, table_bits_append}
use Rattle.tone_read.specs.Judging.{Entries}
use Rattle.tone_write.specs.Appending.{reached, Appended}

-- what was put, said another way
pub put_as : {old a b : List Bool} {end end' : ℕ} {kept buf : List ℕ} {at n acc : ℕ} → a ≡ b → end ≡ end' → Put old a end kept buf at n acc → Put old b end' kept buf at n acc
put_as e f p = rw (← e, ← f) p

-- ---- an entry

module _ {e w : ℕ} (h : InTable e) (ew : w ≡ width (kind e)) where
  small : kind e < 2 ^ 3
  small = omega (arith, h.known)

  short : w ≤ 14
  short = rw ew (width_most (kind e))

  joined : (kind e * 2 ^ w) % 4294967296 + payload e ≡ kind e * 2 ^ w + payload e
  joined = rw (shl_exact {a = kind e} 3 w 32 small (omega (arith, short)))

  pub entry_value : (kind e * 2 ^ w) % 4294967296 + payload e < 2 ^ (3 + w)
  entry_value = rw joined (join_lt 3 (kind e) w (payload e) small (rw ew h.fits))

  pub entry_fits : Fits w32 ((kind e * 2 ^ w) % 4294967296 + payload e)
  entry_fits = record { fits = lt_of_lt_of_le entry_value (pow_mono {j = 32} (omega (arith, short))) }

  pub entry_room : (s : Sink) (buf : List ℕ) → reached s + length (entry_bits e) ≤ place_after (length buf) → reached s + (3 + w) ≤ place_after (length buf)
  entry_room s buf l = omega (arith, length_entry_bits e, ew)

  spelled : bits_n (3 + w) ((kind e * 2 ^ w) % 4294967296 + payload e) ≡ entry_bits e
  unfolding entry_bits
  spelled = rw joined (bits_append 3 (kind e) w (payload e) small (rw ew h.fits) ∙ ap (λ (x : ℕ). bits_n 3 (kind e) ++ bits_n x (payload e)) ew)

  pub entry_put : (z : ℕ) {old : List Bool} {kept buf : List ℕ} {at n acc : ℕ} → Put old (bits_n (3 + w) ((kind e * 2 ^ w) % 4294967296 + payload e)) (z + (3 + w)) kept buf at n acc
      → Put old (entry_bits e) (z + length (entry_bits e)) kept buf at n acc
  entry_put z p = put_as spelled (ap (λ (x : ℕ). z + x) (ap (λ (x : ℕ). 3 + x) ew ∙ sym (length_entry_bits e))) p

pub ruleset entries = (entry_value, entry_fits, entry_room, entry_put)

-- a note: its width is known, and its id is joined to it by a sum
module _ {e : ℕ} (h : InTable e) (note : kind e ≡ 1) where
  nine : 9 ≡ width (kind e)
  unfolding width
  nine = rw note refl

  spells : (kind e * 2 ^ 9) % 4294967296 + payload e ≡ 512 + payload e
  spells = rw note refl

  pub note_value : 512 + payload e < 2 ^ 12
  note_value = rw (← spells) (entry_value h nine)

  pub note_room : (s : Sink) (buf : List ℕ) → reached s + length (entry_bits e) ≤ place_after (length buf) → reached s + 12 ≤ place_after (length buf)
  note_room s buf l = entry_room h nine s buf l

  pub note_put : (z : ℕ) {old : List Bool} {kept buf : List ℕ} {at n acc : ℕ} → Put old (bits_n 12 (512 + payload e)) (z + 12) kept buf at n acc
      → Put old (entry_bits e) (z + length (entry_bits e)) kept buf at n acc
  note_put z p = entry_put h nine z (rw spells p)

pub ruleset notes = (note_value, note_room, note_put)

-- ---- a row of pieces, one a turn: `bits` of a list are those of its items one after the other

-- with i of them written
pub record Run (bits : List ℕ → List Bool) (xs : List ℕ) (from : Sink) (old new : List ℕ) (s : Sink) (i : ℕ) : Type 0 where
  pub least : i ≤ length xs
  pub long : length new ≡ length old
  pub put : Appended from (bits (take i xs)) old new s

module _ (bits : List ℕ → List Bool) (xs : List ℕ) (from : Sink) (old : List ℕ) where
  pub run_begins : bits [] ≡ [] → Run bits xs from old old from 0
  run_begins e = record {
    least = omega arith;
    long = refl;
    put = put_as (sym e) (sym (ap (λ (x : List Bool). reached from + length x) e ∙ add-zero (reached from))) (put_none old from.octets.0 from.n from.acc from.in_hand);
  }

module _ {bits : List ℕ → List Bool} {xs : List ℕ} {from : Sink} {old new : List ℕ} {s : Sink} {i : ℕ} (r : Run bits xs from old new s i) where
  pub run_long : length new ≡ length old
  run_long = r.long

  run_ends : length xs ≤ i → Appended from (bits xs) old new s
  run_ends h = subst (λ (l : List ℕ). Appended from (bits l) old new s) (take_all i xs h) r.put

  module _ (item : ℕ → List Bool) (joins : (a b : List ℕ) → bits (a ++ b) ≡ bits a ++ bits b) (one : (x : ℕ) → bits (x ∷ []) ≡ item x) (h : i < length xs) where
    taken : bits (take (i + 1) xs) ≡ bits (take i xs) ++ item (get_or xs i 0)
    taken = ap (λ (n : ℕ). bits (take n xs)) (add-one i) ∙ ap bits (take-suc xs i 0 h) ∙ joins (take i xs) (get_or xs i 0 ∷ []) ∙ ap (λ (x : List Bool). bits (take i xs) ++ x) (one (get_or xs i 0))

    taken_length : length (bits (take (i + 1) xs)) ≡ length (bits (take i xs)) + length (item (get_or xs i 0))
    taken_length = ap length taken ∙ length-append (bits (take i xs)) (item (get_or xs i 0))

    pub run_room : reached from + length (bits xs) ≤ place_after (length old) → reached s + length (item (get_or xs i 0)) ≤ place_after (length new)
    run_room l =
        let w : length (bits xs) ≡ length (bits (take (i + 1) xs)) + length (bits (drop (i + 1) xs)) =
        ap (λ (x : List ℕ). length (bits x)) (sym (take-append-drop (i + 1) xs)) ∙ ap length (joins (take (i + 1) xs) (drop (i + 1) xs)) ∙ length-append (bits (take (i + 1) xs)) (bits (drop (i + 1) xs)) in
        omega (arith, w, taken_length, r.put.place, r.long)

    pub run_on : {new' : List ℕ} {s' : Sink} → Appended s (item (get_or xs i 0)) new new' s' → length new' ≡ length new → Run bits xs from old new' s' (i + 1)
    run_on p l = record {
      least = omega arith;
      long = l ∙ r.long;
      put = put_as (sym taken) (omega (arith, r.put.place, taken_length)) (put_then r.put p (omega (arith, r.put.place)));
    }

-- the entries of a table
pub entries_at : (t : List ℕ) (i : ℕ) → Entries t → i < length t → InTable (get_or t i 0)
entries_at [] i e h = let z : ⊥ = omega arith in absurd z
entries_at (x ∷ t) zero e h = e.0
entries_at (x ∷ t) (suc i) e h = entries_at t i e.1 (omega arith)

module _ {xs : List ℕ} {from : Sink} {old new : List ℕ} {s : Sink} {i : ℕ} (r : Run table_bits xs from old new s i) (h : i < length xs) where
  pub table_room_lem : reached from + length (table_bits xs) ≤ place_after (length old) → reached s + length (entry_bits (get_or xs i 0)) ≤ place_after (length new)
  table_room_lem l = run_room r entry_bits table_bits_append (λ x. append-nil (entry_bits x)) h l

  pub table_on : {new' : List ℕ} {s' : Sink} → Appended s (entry_bits (get_or xs i 0)) new new' s' → length new' ≡ length new → Run table_bits xs from old new' s' (i + 1)
  table_on p l = run_on r entry_bits table_bits_append (λ x. append-nil (entry_bits x)) h p l

pub table_ends : {xs : List ℕ} {from : Sink} {old new : List ℕ} {s : Sink} {i : ℕ} → Run table_bits xs from old new s i → length xs ≤ i → Appended from (table_bits xs) old new s
table_ends r h = run_ends r h

pub ruleset tables = (run_begins, run_long, entries_at, table_room_lem, table_on, table_ends)

-- octets
module _ {xs : List ℕ} {from : Sink} {old new : List ℕ} {s : Sink} {i : ℕ} (r : Run bits_of xs from old new s i) (h : i < length xs) where
  pub octets_room : reached from + length (bits_of xs) ≤ place_after (length old) → reached s + 8 ≤ place_after (length new)
  octets_room l = let k = run_room r (bits_n 8) bits_of_append (λ x. append-nil (bits_n 8 x)) h l in omega (arith, length_bits 8 (get_or xs i 0))

  pub octets_on : {new' : List ℕ} {s' : Sink} → Put (written new s.octets.0 s.n s.acc) (bits_n 8 (get_or xs i 0)) (reached s + 8) new new' s'.octets.0 s'.n s'.acc
      → length new' ≡ length new → Run bits_of xs from old new' s' (i + 1)
  octets_on {new'} {s'} p l =
      run_on r (bits_n 8) bits_of_append (λ x. append-nil (bits_n 8 x)) h {new' = new'} {s' = s'} (put_as refl (ap (λ (x : ℕ). reached s + x) (sym (length_bits 8 (get_or xs i 0)))) p) l

pub octets_ends : {xs : List ℕ} {from : Sink} {old new : List ℕ} {s : Sink} {i : ℕ} → Run bits_of xs from old new s i → length xs ≤ i → Appended from (bits_of xs) old new s
octets_ends r h = run_ends r h

pub ruleset rows = (run_begins, run_long, octets_room, octets_on, octets_ends)

-- ---- the command and the song type

pub command_length_lem : (u : Bool) (song : ℕ) → length (command_bits u ++ bits_n 3 song) ≡ pick u 34 26
unfolding command_bits
command_length_lem true song = simp (length-append, length_bits)
command_length_lem false song = simp (length-append, length_bits)

-- in two pieces: the sound part and the song type are the second
in_two : (u : Bool) (song : ℕ) → song < 8 → bits_n (pick u 24 16) (pick u 215620 586) ++ bits_n 10 (232 + song) ≡ command_bits u ++ bits_n 3 song
unfolding command_bits bits_n
in_two true song h = ap (λ (x : List Bool). bits_n 24 215620 ++ x) (bits_append 7 29 3 song (lit< tt) h)
in_two false song h = ap (λ (x : List Bool). bits_n 16 586 ++ x) (bits_append 7 29 3 song (lit< tt) h)

pub plus_ten : (u : Bool) → pick u 24 16 + 10 ≡ pick u 34 26
plus_ten true = refl
plus_ten false = refl

module _ (u : Bool) {w v : ℕ} (ew : w ≡ pick u 24 16) (ev : v ≡ pick u 215620 586) where
  pub command_value : v < 2 ^ w
  command_value = rw (ew, ev) (go u)
    where
      go : (u : Bool) → pick u 215620 586 < 2 ^ pick u 24 16
      go true = lit< tt
      go false = lit< tt

  module _ (song z : ℕ) where
    pub command_room : (kept : List ℕ) → z + length (command_bits u ++ bits_n 3 song) ≤ place_after (length kept) → z + w ≤ place_after (length kept)
    command_room kept l = omega (arith, command_length_lem u song, plus_ten u, ew)

    module _ {old : List Bool} {kept mid : List ℕ} {at n acc : ℕ} (p : Put old (bits_n w v) (z + w) kept mid at n acc) where
      pub command_rest : z + length (command_bits u ++ bits_n 3 song) ≤ place_after (length kept) → length mid ≡ length kept → 8 * at + n + 10 ≤ place_after (length mid)
      command_rest l k = omega (arith, p.place, command_length_lem u song, plus_ten u, ew)

      pub command_put : song < 8 → {buf : List ℕ} {at' n' acc' : ℕ} → Put (written mid at n acc) (bits_n 10 (232 + song)) (8 * at + n + 10) mid buf at' n' acc'
          → Put old (command_bits u ++ bits_n 3 song) (z + length (command_bits u ++ bits_n 3 song)) kept buf at' n' acc'
      command_put h q = put_as (ap₂ (λ (x y : ℕ). bits_n x y ++ bits_n 10 (232 + song)) ew ev ∙ in_two u song h) (omega (arith, p.place, command_length_lem u song, plus_ten u, ew)) (put_then p q (omega (arith, p.place)))

pub ruleset commands = (command_value, command_room, command_rest, command_put)

-- ---- the title

module _ (song : ℕ) (u : Bool) (title : List ℕ) where
  basic : song ≡ 1 → title_bits song u title ≡ bits_n 4 (characters u title) ++ bits_of title
  unfolding title_bits
  basic e = rw (eq-eqb song 1 e)

  basic_length : song ≡ 1 → length (title_bits song u title) ≡ 4 + length (bits_of title)
  basic_length e =
      ap length (basic e) ∙ length-append (bits_n 4 (characters u title)) (bits_of title) ∙ ap (λ (x : ℕ). x + length (bits_of title)) (length_bits 4 (characters u title))

  pub title_length_lem : length (title_bits song u title) ≡ pick (eqb song 1) (4 + place_after (length title)) 0
  unfolding title_bits
  title_length_lem = go (eqb song 1)
    where
      go : (b : Bool) → length (pick b (bits_n 4 (characters u title) ++ bits_of title) []) ≡ pick b (4 + place_after (length title)) 0
      go true = length-append (bits_n 4 (characters u title)) (bits_of title) ∙ ap₂ (λ (x y : ℕ). x + y) (length_bits 4 (characters u title)) (length_bits_of title)
      go false = refl

  pub title_none : (song ≡ 1 → ⊥) → (buf : List ℕ) (s : Sink) → Appended s (title_bits song u title) buf buf s
  unfolding title_bits
  title_none e buf s =
      rw (ne_eqb song 1 e) (put_as refl (sym (add-zero (reached s))) (put_none buf s.octets.0 s.n s.acc s.in_hand))

  module _ (short : characters u title ≤ 15) where
    pub title_fits : length title < 2 ^ 32
    title_fits = go u short
      where
        go : (u : Bool) → characters u title ≤ 15 → length title < 2 ^ 32
        go true h = omega arith
        go false h = omega arith

    module _ {k : ℕ} (ek : k ≡ length title / per_character u) (e : song ≡ 1) where
      pub title_value : k < 2 ^ 4
      title_value = rw ek (omega arith)

      pub title_room_lem : (z : ℕ) (kept : List ℕ) → z + length (title_bits song u title) ≤ place_after (length kept) → z + 4 ≤ place_after (length kept)
      title_room_lem z kept l = omega (arith, basic_length e)

      module _ (z : ℕ) {old : List Bool} {kept mid : List ℕ} {at n acc : ℕ} (p : Put old (bits_n 4 k) (z + 4) kept mid at n acc) where
        pub title_rest : z + length (title_bits song u title) ≤ place_after (length kept) → length mid ≡ length kept → 8 * at + n + length (bits_of title) ≤ place_after (length mid)
        title_rest l h = omega (arith, p.place, basic_length e)

        pub title_put : {buf : List ℕ} {at' n' acc' : ℕ} → Put (written mid at n acc) (bits_of title) (8 * at + n + length (bits_of title)) mid buf at' n' acc'
            → Put old (title_bits song u title) (z + length (title_bits song u title)) kept buf at' n' acc'
        title_put q =
            put_as (ap (λ (x : ℕ). bits_n 4 x ++ bits_of title) ek ∙ sym (basic e)) (omega (arith, p.place, basic_length e)) (put_then p q (omega (arith, p.place)))

pub ruleset titles = (title_none, title_fits, title_value, title_room_lem, title_rest, title_put)

-- What each return of `read` shows.
use Prim.Native.Nat.{ℕ, zero, suc, ◌+◌, ◌*◌, ◌/◌, ◌^◌, ◌≤◌, ◌<◌}
use native.Mathlib.Omega.{arith}
use mathlib.Core.Path.{◌≡◌, refl, sym, ap, ap₂, subst, ◌∙◌}
use mathlib.Core.Bool.{Bool, true, false, ◌&&◌}
use mathlib.Core.List.{List, [], ◌∷◌, ◌++◌, append_assoc}
use lib.ListN.{length, drop, length-append}
use lib.Seq.{drop_at}
use lib.Dec.{leb, eqb}
use borrow.Author.Tests.{le-leb, lt-leb, eq-eqb, ne_eqb}
use Rattle.bits.specs.Choice.{pick}
use Rattle.bits.specs.Bits.{bits_n, bits_of}
use Rattle.bits.specs.Lent.{over}
use Rattle.bits.specs.Outcome.{Outcome, accepted, refused}
use Rattle.bits.specs.declared.BitPlace.{BitPlace}
use Rattle.bits.specs.declared.OctetCount.{OctetCount}
use Rattle.bits.proofs.Numbers.{length_bits}
use Rattle.bits.proofs.Octets.{length_bits_of}
use Rattle.tone.specs.Tone.{Pattern, Tone, Front, front_of, header, cells, characters, per_character, learn, Instructions, Sequence, Formed, FrontFormed, entries}
use Rattle.tone.specs.Writing.{command_bits, title_bits, table_bits, front_bits, song_bits, end_bits, tone_bits, most_octets}
use Rattle.tone.specs.Reading.{read_tone}
use Rattle.tone.proofs.Rows.{header_small}
use Rattle.tone.proofs.Demand2.{Says, read_says, core_reads}
use Rattle.tone.proofs.Instructions.{header_in_table}
use Rattle.tone_judge.specs.declared.Judged.{Judged}
use Rattle.tone_read.specs.declared.Reading.{Reading}
use Rattle.std.specs.Prelude.{Result, Ok, Err}
use Rattle.bits.specs.Refusals.{number_of, on}
use Rattle.bits.specs.declared.refusal.Refusal.{Refusal}
use Rattle.bits.specs.declared.refusal.Ground.TheVariants.{NoRoom}
use Rattle.bits.proofs.Refusals.{grounded, GivenBy}
use Rattle.bits.proofs.Answered.{by_number, refusal_answered, acceptance_answered}
use Rattle.tone.proofs.Numbered.{tone_numbered}
use Rattle.tone_elements.specs.Answers.{Within}
use Rattle.tone_judge.specs.Answers.{plainly, judged, judged_of}
use Rattle.tone_read.specs.Judging.{Entries, TableAt, OctetsAt, table_of, title_of}
use Rattle.tone_read.specs.Promise.{read_into, numbers, read_numbers, read_answer, table_after, title_after, ReadPromise}

-- ---- what stands where in a message that was accepted

-- the entries of a row of patterns are in the table
entries_append : (s t : List ℕ) → Entries s → Entries t → Entries (s ++ t)
entries_append [] t h k = k
entries_append (e ∷ s) t h k = (h.0, entries_append s t h.1 k)

instructions_entries : (b : List ℕ) → Instructions b → Entries b
instructions_entries [] h = tt
instructions_entries (e ∷ b) h = (h.0.in_table, instructions_entries b h.1)

pub cells_entries : (known : List Bool) (ps : List Pattern) → Sequence known ps → Entries (cells ps)
cells_entries known [] h = tt
cells_entries known (p ∷ ps) h = (
  header_in_table (header p) (header_small p h.0).0,
  entries_append p.body (cells ps) (instructions_entries p.body h.0.each) (cells_entries (learn known (header p)) ps h.2),
)

-- an accepted message: its tone, and its bits
pub record Told (m : List ℕ) (tone : Tone) : Type 0 where
  pub reads : read_tone m ≡ accepted tone
  pub formed : Formed tone
  pub short : length m ≤ most_octets
  pub behind : List Bool
  pub bits : bits_of m ≡ front_bits (front_of tone) ++ (table_bits (cells tone.patterns) ++ behind)

pub told : (m : List ℕ) (t : Tone) → read_tone m ≡ accepted t → Told m t
unfolding tone_bits song_bits
told m t q =
    let s : Says m (accepted t) = subst (Says m) q (read_says m) in
    let c = core_reads m s.1 in
    let f = front_bits (front_of t) in
    let b = table_bits (cells t.patterns) in
    let r = end_bits (length (f ++ b)) in
    record {
      reads = q;
      formed = c.0;
      short = s.0;
      behind = r ++ drop (8 * length m) (bits_of m);
      bits = c.3 ∙ append_assoc (f ++ b) r (drop (8 * length m) (bits_of m)) ∙ append_assoc f b (r ++ drop (8 * length m) (bits_of m));
    }

-- the title stands ahead of the pattern count
title_split : (f : Front) → FrontFormed f → (x : List Bool) × (front_bits f ≡ x ++ (bits_of f.title ++ bits_n 8 f.count))
unfolding front_bits title_bits
title_split f h = go f.song refl h.basic_or_temporary
  where
    go : (s : ℕ) → f.song ≡ s → (1 ≤ s) × (s ≤ 2) → (x : List Bool) × (front_bits f ≡ x ++ (bits_of f.title ++ bits_n 8 f.count))
    go zero e k = let z : ⊥ = omega (arith, k.0) in absurd z
    go (suc zero) e k = (
      command_bits f.unicode ++ (bits_n 3 f.song ++ bits_n 4 (characters f.unicode f.title)),
      (rw (eq-eqb f.song 1 e) (simp append_assoc)),
    )
    go (suc (suc zero)) e k = (command_bits f.unicode ++ bits_n 3 f.song, (rw (eq_two e, h.titled.none e) (simp append_assoc)))
      where
        eq_two : f.song ≡ 2 → eqb f.song 1 ≡ false
        eq_two e = ne_eqb f.song 1 (λ k. omega arith)
    go (suc (suc (suc s))) e k = let z : ⊥ = omega (arith, k.1) in absurd z

module _ (m : List ℕ) (t : Tone) (w : Told m t) where
  pub table_there : TableAt m (length (front_bits (front_of (t)))) (cells t.patterns)
  table_there = record {
    each = cells_entries _ t.patterns w.formed.sequence;
    behind = w.behind;
    here = rw w.bits (drop_at (front_bits (front_of (t))) (table_bits (cells t.patterns) ++ w.behind) (length (front_bits (front_of (t)))) refl);
  }

  title_lengths : (x : List Bool) → front_bits (front_of (t)) ≡ x ++ (bits_of t.title ++ bits_n 8 (length t.patterns))
      → length (front_bits (front_of (t))) ≡ length x + 8 * length t.title + 8
  title_lengths x e = ap length e ∙ length-append x (bits_of t.title ++ bits_n 8 (length t.patterns))
      ∙ ap (λ (n : ℕ). length x + n) (length-append (bits_of t.title) (bits_n 8 (length t.patterns)))
      ∙ (rw (length_bits 8 (length t.patterns), length_bits_of t.title) (omega arith))

  pub title_there : (p : ℕ) → p + 8 * length t.title + 8 ≡ length (front_bits (front_of (t))) → OctetsAt m p t.title
  title_there p h =
      let s = title_split (front_of (t)) w.formed.front in
      let n = title_lengths s.0 s.1 in
      let e : length s.0 ≡ p = omega arith in
      let r = bits_n 8 (length t.patterns) ++ (table_bits (cells t.patterns) ++ w.behind) in
      let b : bits_of m ≡ s.0 ++ (bits_of t.title ++ r) = w.bits ∙ (rw s.1 (simp append_assoc)) in
      record { each = w.formed.front.titled.octets; behind = r; here = rw b (drop_at s.0 (bits_of t.title ++ r) p e) }

  pub title_room_lem : 8 + 8 * length t.title ≤ length (front_bits (front_of (t)))
  title_room_lem = let s = title_split (front_of (t)) w.formed.front in omega (arith, title_lengths s.0 s.1)

-- ---- what `read` shows

-- where the patterns of a tone begin in its message
abbrev first : Tone → ℕ
first t = length (front_bits (front_of t))

-- the tone behind a message that was judged sound
pub record SoundThere (m : List ℕ) (v : Judged) : Type 0 where
  pub tone : Tone
  pub told : Told m tone
  pub song : v.song ≡ tone.song
  pub unicode : v.unicode ≡ tone.unicode
  pub octets : v.octets.0 ≡ length tone.title
  pub patterns : v.patterns ≡ length tone.patterns
  pub entries : v.total.table ≡ entries tone.patterns
  pub place : v.at.0 ≡ first tone

pub sound_there : (m : List ℕ) {v : Judged} → Ok v ≡ judged_of (read_tone m) → SoundThere m v
sound_there m {v} h =
    let a = acceptance_answered (λ t. judged plainly (first t) t) (read_tone m) h in
    let e = a.2 in
    record {
      tone = a.0;
      told = told m a.0 a.1;
      song = ap (λ (x : Judged). x.song) e;
      unicode = ap (λ (x : Judged). x.unicode) e;
      octets = ap (λ (x : Judged). x.octets.0) e;
      patterns = ap (λ (x : Judged). x.patterns) e;
      entries = ap (λ (x : Judged). x.total.table) e;
      place = ap (λ (x : Judged). x.at.0) e;
    }

-- the answer to an outcome has the outcome's numbers
read_numbers_lem : (x : Outcome Tone) → GivenBy x → numbers (read_answer x) ≡ read_numbers x
read_numbers_lem (accepted t) g = refl
read_numbers_lem (refused n p) g = rw g refl

-- a promise from the outcome and what it leaves
promised : (m table title table' title' : List ℕ) (r : Result Reading Refusal) (x : Outcome Tone) → read_into m (length title) (length table) ≡ x → GivenBy x → r ≡ read_answer x → table' ≡ table_after x table → title' ≡ title_after x title
    → ReadPromise m table title table' title' r
promised m table title table' title' r x e g a b c = record { answer = rw e a; said = rw e (ap numbers a ∙ read_numbers_lem x g); leaves_table = rw e b; leaves_title = rw e c }

module _ (m table title : List ℕ) {j : Result Judged Refusal} (q : j ≡ judged_of (read_tone m)) where
  pub read_faulty : {r : Refusal} → j ≡ Err r → ReadPromise m table title table title (Err r)
  read_faulty {r} g =
      let o = refusal_answered (λ t. judged plainly (first t) t) (read_tone m) (tone_numbered m) (sym g ∙ q) in
      promised m table title table title (Err r) (refused (number_of r.why) r.place.0) (rw o refl) (ap number_of (grounded r.why)) (ap (λ (x : Refusal). Err x) (sym (by_number r))) refl refl

  module _ {v : Judged} (g : j ≡ Ok v) where
    abbrev e : ℕ
    e = v.total.table

    abbrev o : OctetCount
    o = v.octets

    abbrev f : BitPlace
    f = v.at

    there : SoundThere m v
    there = sound_there m (sym g ∙ q)

    read_fits : length there.tone.title ≤ length title → entries there.tone.patterns ≤ length table → read_into m (length title) (length table) ≡ accepted there.tone
    read_fits a b = rw (there.told.reads, le-leb (length there.tone.title) (length title) a, le-leb (entries there.tone.patterns) (length table) b)

    pub read_no_title : {r : Refusal} → r ≡ on NoRoom 0 → length title < o.0 → ReadPromise m table title table title (Err r)
    read_no_title {r} z h =
        let l : length title < length there.tone.title = rw (← there.octets) h in
        promised m table title table title (Err r) (refused 11 0) (rw (there.told.reads, lt-leb (length there.tone.title) (length title) l)) refl (ap (λ (x : Refusal). Err x) z) refl refl

    pub read_no_table : {r : Refusal} → r ≡ on NoRoom 0 → length table < e → ReadPromise m table title table title (Err r)
    read_no_table {r} z h =
        let l : length table < entries there.tone.patterns = rw (← there.entries) h in
        promised m table title table title (Err r) (refused 11 0)
        (rw (there.told.reads, lt-leb (entries there.tone.patterns) (length table) l) (both (leb (length there.tone.title) (length title)))) refl (ap (λ (x : Refusal). Err x) z) refl refl
      where
        both : (b : Bool) → pick (b && false) (accepted there.tone) (refused 11 0) ≡ refused 11 0
        both true = refl
        both false = refl

    front_short : f.0 ≤ 8 * length m
    front_short =
        let w = there.told in
        let n = ap length w.bits ∙ length-append (front_bits (front_of there.tone)) (table_bits (cells there.tone.patterns) ++ w.behind) in
        omega (arith, there.place, n, length_bits_of m)

    pub read_place : 8 + 8 * o.0 ≤ f.0
    read_place = omega (arith, there.octets, there.place, title_room_lem m there.tone there.told)

    pub read_small : o.0 < 2 ^ 32
    read_small = let b = there.told.short in omega (arith, read_place, front_short)

    pub read_within : Within m f.0
    read_within = let b = there.told.short in record { inside = front_short; counted = omega arith }

    pub read_title_count : (d : ℕ) → d + 8 * o.0 + 8 ≡ f.0 → d + 8 * o.0 + 8 ≤ 8 * length m
    read_title_count d h = omega (arith, front_short)

    module _ {d : ℕ} (h : d + 8 * o.0 + 8 ≡ f.0) where
      pub read_title_within : Within m d
      read_title_within = let b = there.told.short in record { inside = omega (arith, front_short); counted = omega arith }

      pub read_title_at : OctetsAt m d (title_of m)
      read_title_at = rw there.told.reads (title_there m there.tone there.told d (rw (← there.octets, ← there.place) h))

    pub read_title_octets : o.0 ≡ length (title_of m)
    read_title_octets = rw there.told.reads there.octets

    pub read_table_entries : e ≡ length (table_of m)
    read_table_entries = rw there.told.reads there.entries

    pub read_table_at : TableAt m f.0 (table_of m)
    read_table_at = rw there.told.reads (subst (λ (x : ℕ). TableAt m x (cells there.tone.patterns)) (sym there.place) (table_there m there.tone there.told))

    pub read_done : {table' title' : List ℕ} {k : ℕ} → o.0 ≤ length title → e ≤ length table → title' ≡ over (title_of m) title → table' ≡ over (table_of m) table → k ≡ o.0 / per_character v.unicode
        → ReadPromise m table title table' title' (Ok (record { song = v.song; unicode = v.unicode; characters = k; patterns = v.patterns; entries = e }))
    read_done {table'} {title'} {k} a b c d h =
        let x = there.tone in
        let r = there.told.reads in
        let e₁ = there.song in
        let e₂ = there.unicode in
        let e₃ : k ≡ characters x.unicode x.title = h ∙ ap₂ (λ (a b : ℕ). a / b) there.octets (ap per_character e₂) in
        let e₄ = there.patterns in
        let e₅ = there.entries in
        promised m table title table' title' (Ok (record { song = v.song; unicode = v.unicode; characters = k; patterns = v.patterns; entries = e })) (accepted x)
        (read_fits (rw (← there.octets) a) (rw (← there.entries) b)) tt (cc) (rw r at d) (rw r at c)

pub ruleset readings = (read_faulty, read_no_title, read_no_table, read_place, read_small, read_within, read_title_within, read_title_count, read_title_at, read_title_octets, read_table_entries, read_table_at, read_done)

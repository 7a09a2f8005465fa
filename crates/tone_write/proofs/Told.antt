-- What each return of `front_end`, `legible`, `save` and `write` shows.
use Prim.Native.Nat.{ℕ, ◌+◌, ◌*◌, ◌/◌, ◌%◌, ◌^◌, ◌≤◌, ◌<◌}
use native.Mathlib.Omega.{arith}
use mathlib.Core.Path.{◌≡◌, refl, sym, ap, ap₂, subst, ◌∙◌}
use mathlib.Core.Logic.{◌⊎◌, ⊎_elim}
use mathlib.Core.Bool.{Bool, true, false}
use mathlib.Core.List.{List}
use lib.ListN.{length, get_or, length-append}
use lib.Dec.{leb, eqb, lit≤}
use borrow.Author.Tests.{le-leb, lt-leb, eq-eqb, ne_eqb, eqb-true, leb-true}
use mir.Val.{Fits}
use mir.Syntax.{w8, w64}
use Rattle.std.specs.Prelude.{Result, Ok, Err}
use Rattle.bits.specs.Choice.{pick}
use Rattle.bits.specs.Bits.{bits_of, place_after, octets_to}
use Rattle.bits.specs.Lent.{over}
use Rattle.bits.specs.declared.OctetCount.{OctetCount}
use Rattle.bits.specs.Outcome.{Outcome, accepted, refused}
use Rattle.bits.specs.Places.{place, octet_count}
use Rattle.bits.specs.Refusals.{ground_of, refusal}
use Rattle.bits.specs.declared.refusal.Ground.{Ground}
use Rattle.bits.specs.declared.refusal.Refusal.{Refusal}
use Rattle.bits.proofs.Choice.{both}
use Rattle.bits.proofs.Octets.{octets_of_lem}
use Rattle.bits.proofs.Refusals.{GivenBy}
use Rattle.tone.specs.Tone.{Tone, front_of, cells, patterns_of, per_character, character_bits, characters, allowed_title}
use Rattle.tone.specs.Writing.{table_bits, front_bits, song_bits, tone_length, tone_octets, most_octets}
use Rattle.tone.specs.Reading.{text}
use Rattle.tone.proofs.Fronts.{song_fine_lem, own_reads, own_allowed}
use Rattle.tone_elements.specs.Answers.{Within, Sure, Complete, AllowedAt}
use Rattle.tone_elements.proofs.Steps.{seen_made}
use Rattle.tone_elements.proofs.Titles.{text_told}
use Rattle.tone_sound.proofs.Dues.{text_read}
use Rattle.tone_table.specs.declared.Judged.{Judged}
use Rattle.tone_table.specs.Judging.{judge_table}
use Rattle.tone_table.specs.Answers.{at_most, judged_of}
use Rattle.tone_table.proofs.Places.{table_place}
use Rattle.tone_table.proofs.GoodTables.{judged_is_good}
use Rattle.written.specs.Written.{Writing, numbers}
use Rattle.tone_write.specs.Judging.{song_fine, title_fine, sized, tone_of, write_tone}
use Rattle.tone_write.specs.Appending.{front_length}
use Rattle.tone_write.specs.Promise.{write_numbers, write_answer, octets_after, WritePromise}
use Rattle.tone_write.proofs.Pieces.{plus_ten}
use Rattle.tone_write.proofs.Filling.{front_length_lem}
use Rattle.tone_write.proofs.Accepting.{whole_characters, write_given}
use Rattle.tone_write.proofs.Order.{table_fourth}

-- ---- the front's bits

module _ (song octets : ℕ) (u : Bool) {w : ℕ} (ew : w ≡ pick u 24 16) where
  pub front_basic : {p : ℕ} → song ≡ 1 → p ≡ place_after octets → w + 22 + p ≡ front_length song u octets
  front_basic e h = rw (eq-eqb song 1 e) (omega (arith, plus_ten u))

  pub front_temporary : (song ≡ 1 → ⊥) → w + 18 ≡ front_length song u octets
  front_temporary e = rw (ne_eqb song 1 e) (omega (arith, plus_ten u))

pub ruleset fronts = (front_basic, front_temporary)

-- ---- the call

-- the answer to an outcome has the outcome's numbers
write_numbers_lem : (x : Outcome Tone) → GivenBy x → numbers (write_answer x) ≡ write_numbers x
write_numbers_lem (accepted t) g = refl
write_numbers_lem (refused n p) g = rw g refl

module _ (song : ℕ) (u : Bool) (title table out : List ℕ) where
  -- a promise from the outcome and what it leaves
  promised : (out' : List ℕ) (r : Writing) (x : Outcome Tone) → write_tone song u title table (length out) ≡ x → r ≡ write_answer x → out' ≡ octets_after x out → WritePromise song u title table out out' r
  promised out' r x e a b = record { answer = rw e a; said = rw e (ap numbers a ∙ write_numbers_lem x (subst GivenBy e (write_given song u title table (length out)))); leaves = rw e b }

  -- from a refusal's number
  unwritten : (n : ℕ) {e : Refusal} → e ≡ refusal n 0 → write_tone song u title table (length out) ≡ refused n 0 → WritePromise song u title table out out (Err e)
  unwritten n {e} k q = promised out (Err e) (refused n 0) q (ap (λ (y : Refusal). Err y) k) refl

module _ (song : ℕ) (u : Bool) (title table out : List ℕ) where
  pub write_other : {r : Refusal} → r ≡ refusal 4 0 → (song ≡ 0) ⊎ ((song ≡ 0 → ⊥) × (2 < song)) → WritePromise song u title table out out (Err r)
  unfolding write_tone
  write_other k e =
      let n : (m : ℕ) → 1 ≤ m → m ≤ 2 → song ≡ m → ⊥ = λ m a b q. ⊎_elim (λ z. omega arith) (λ z. omega (arith, z.1)) e in
      unwritten song u title table out 4 k (rw (ne_eqb song 1 (n 1 (omega arith) (omega arith)), ne_eqb song 2 (n 2 (omega arith) (omega arith))))

  module _ (some : song ≡ 0 → ⊥) (most : song ≤ 2) where
    pub write_song : song_fine song ≡ true
    write_song = song_fine_lem song (omega arith) most

    pub write_title : {t : Bool} → t ≡ title_fine song u title → {r : Refusal} → r ≡ refusal 17 0 → t ≡ false → WritePromise song u title table out out (Err r)
    unfolding write_tone
    write_title e k f = unwritten song u title table out 17 k (rw (write_song, sym e ∙ f))

  pub write_titled : {t : Bool} → t ≡ title_fine song u title → t ≡ true → title_fine song u title ≡ true
  write_titled e f = sym e ∙ f

pub ruleset writings = (write_other, write_song, write_title, write_titled)

-- ---- the title's characters

module _ (u : Bool) (title : List ℕ) (n : ℕ) (h : (n ≤ 15) × (length title ≡ per_character u * n)) where
  pub legible_within : Within title 0
  legible_within = go u h.1
    where
      go : (u : Bool) → length title ≡ per_character u * n → Within title 0
      go true e = record { inside = omega arith; counted = omega (arith, h.0) }
      go false e = record { inside = omega arith; counted = omega (arith, h.0) }

  -- the test passes where its characters are allowed, and nowhere else
  module _ (each : (i : ℕ) → Fits w8 (get_or title i 0)) {t : Bool} (a : Sure t (AllowedAt title 0 u n) × Complete t (AllowedAt title 0 u n)) where
    pub legible_is : t ≡ allowed_title u title
    legible_is = go t (allowed_title u title) refl refl
      where
        bits : (u : Bool) → n * character_bits u ≤ 240
        bits true = omega (arith, h.0)
        bits false = omega (arith, h.0)

        octets : (u : Bool) → (per_character u ≤ 2) × (1 ≤ per_character u)
        octets true = (lit≤ tt, lit≤ tt)
        octets false = (lit≤ tt, lit≤ tt)

        passes : allowed_title u title ≡ true → t ≡ true
        passes e = a.1.passes (text_read title u n 0 (omega arith) (own_reads u n title (octets_of_lem title each) h.1 e)).0

        allows : t ≡ true → allowed_title u title ≡ true
        allows e =
            let q = text_told title 0 u n (refl, bits u) (refl, (octets u).0, (octets u).1) legible_within a.0 e in
            own_allowed u n title (octets_of_lem title each) h.1 (seen_made (λ t. octet_count (length t)) (text u n (bits_of title) 0) q).1

        go : (x y : Bool) → t ≡ x → allowed_title u title ≡ y → t ≡ allowed_title u title
        go true y e f = e ∙ sym (allows e)
        go false true e f = passes f ∙ sym f
        go false false e f = e ∙ sym f

pub ruleset letters = (legible_within, legible_is)

-- ---- once the song type and the title are fine

module _ (song : ℕ) (u : Bool) (title table out : List ℕ) (s : song_fine song ≡ true) (t : title_fine song u title ≡ true) where
  few_octets : length title ≤ 31
  few_octets = go u (leb-true (characters u title) 15 (both (leb (characters u title) 15) _ t).0)
    where
      go : (u : Bool) → characters u title ≤ 15 → length title ≤ 31
      go true h = omega arith
      go false h = omega arith

  pub spell_counted : length title < 2 ^ 32
  spell_counted = omega (arith, few_octets)

  module _ {n : ℕ} (en : n ≡ length title / per_character u) where
    pub spell_few : n ≤ 15
    spell_few = rw en (leb-true (characters u title) 15 (both (leb (characters u title) 15) _ t).0)

    pub spell_whole : length title ≡ per_character u * n
    spell_whole =
        let b = both (eqb (length title % per_character u) 0) _ (both (leb (characters u title) 15) _ t).1 in
        sym ((whole_characters u title).0 (eqb-true (length title % per_character u) 0 b.0)) ∙ ap (λ (x : ℕ). per_character u * x) (sym en)

  module _ {l : Bool} (e : l ≡ allowed_title u title) where
    pub spell_all : l ≡ true → allowed_title u title ≡ true
    spell_all h = sym e ∙ h

    pub spell_not : {r : Refusal} → r ≡ refusal 21 0 → l ≡ false → WritePromise song u title table out out (Err r)
    unfolding write_tone
    spell_not k h = unwritten song u title table out 21 k (rw (s, t, sym e ∙ h))

pub ruleset spellings = (spell_counted, spell_few, spell_whole, spell_all, spell_not)

-- ---- the table, and the size

-- what an answer says of the table
sound_table : (table : List ℕ) {j : Judged} (x : Outcome ℕ) → Ok j ≡ judged_of table x → (x ≡ accepted j.patterns) × (j.bits ≡ at_most (length (table_bits table)))
sound_table table {j} (accepted n) q =
    let e : j ≡ record { patterns = n; bits = at_most (length (table_bits table)) } = cc in
    (ap (λ (y : Judged). accepted y.patterns) (sym e), ap (λ (y : Judged). y.bits) e)
sound_table table (refused n l) q = cc

faulty_table : (table : List ℕ) {g : Ground} (x : Outcome ℕ) → Err g ≡ judged_of table x → (n : ℕ) × (p : ℕ) × (x ≡ refused n p) × (g ≡ ground_of n)
faulty_table table (accepted n) q = cc
faulty_table table (refused n l) q = (n, l, refl, cc)

module _ (song : ℕ) (u : Bool) (title table out : List ℕ) {j : Result Judged Ground} (s : song_fine song ≡ true) (t : title_fine song u title ≡ true) (l : allowed_title u title ≡ true) (q : j ≡ judged_of table (judge_table table)) where
  abbrev tone : Tone
  tone = tone_of song u title table

  pub save_faulty : {g : Ground} → j ≡ Err g → {r : Refusal} → r ≡ record { why = g; place = place 0 } → WritePromise song u title table out out (Err r)
  save_faulty g k =
      let b = faulty_table table (judge_table table) (sym g ∙ q) in
      let z : judge_table table ≡ refused b.0 0 = b.2 ∙ ap (λ (x : ℕ). refused b.0 x) (table_place table b.2) in
      unwritten song u title table out b.0 (k ∙ ap (λ (x : Ground). record { why = x; place = place 0 }) b.3) (table_fourth song u title table (length out) s t l z)

  small : length title ≤ 31
  small = few_octets song u title table out s t

  pub save_title : length title < 2 ^ 60
  save_title = omega (arith, small)

  module _ {a : Judged} (g : j ≡ Ok a) where
    pub save_judged : judge_table table ≡ accepted a.patterns
    save_judged = (sound_table table (judge_table table) (sym g ∙ q)).0

    weighs : a.bits ≡ at_most (length (table_bits table))
    weighs = (sound_table table (judge_table table) (sym g ∙ q)).1

    goes : write_tone song u title table (length out) ≡ sized (length out) tone
    unfolding write_tone
    goes = rw (s, t, l, save_judged)

    size : length (song_bits tone) ≡ front_length song u (length title) + length (table_bits table)
    unfolding song_bits
    size =
        let h = judged_is_good table a.patterns save_judged in
        length-append (front_bits (front_of tone)) (table_bits (cells (patterns_of table)))
        ∙ ap₂ (λ (x y : ℕ). x + y) (front_length_lem song u title (length (patterns_of table))) (ap (λ (x : List ℕ). length (table_bits x)) h.cells)

    few : {f : ℕ} → f ≡ front_length song u (length title) → f + a.bits < 40000
    few e = omega (arith, small, weighs, most u (eqb song 1), e)
      where
        most : (u b : Bool) → pick u 34 26 + (pick b (4 + place_after (length title)) 0 + 8) ≤ 46 + place_after (length title)
        most true true = omega arith
        most true false = omega arith
        most false true = omega arith
        most false false = omega arith

    pub save_fits : {f : ℕ} → f ≡ front_length song u (length title) → Fits w64 (f + a.bits)
    save_fits e = record { fits = omega (arith, few e) }

    pub save_counted : {f : ℕ} → f ≡ front_length song u (length title) → f + a.bits < 2 ^ 63
    save_counted e = omega (arith, few e)

    module _ {f o : ℕ} (ef : f ≡ front_length song u (length title)) (eo : o ≡ octets_to (f + a.bits)) where
      pub save_long : {r : Refusal} → r ≡ refusal 1 0 → 4096 < o + 1 → WritePromise song u title table out out (Err r)
      unfolding sized
      save_long k h =
          let l : most_octets < tone_length tone = omega (arith, size, weighs) in
          unwritten song u title table out 1 k (goes ∙ (rw (lt-leb (tone_length tone) most_octets l)))

      module _ (short : o + 1 ≤ 4096) where
        exact : tone_length tone ≡ o + 1
        exact = omega (arith, size, weighs)

        pub save_room : {r : Refusal} → r ≡ refusal 11 0 → length out < o + 1 → WritePromise song u title table out out (Err r)
        unfolding sized
        save_room k h =
            unwritten song u title table out 11 k (goes ∙ (rw (le-leb (tone_length tone) most_octets (rw exact short), lt-leb (tone_length tone) (length out) (rw exact h))))

        module _ (room : o + 1 ≤ length out) where
          pub save_accepted : write_tone song u title table (length out) ≡ accepted tone
          unfolding sized
          save_accepted = goes ∙ (rw (le-leb (tone_length tone) most_octets (rw exact short), le-leb (tone_length tone) (length out) (rw exact room)))

          pub save_done : {out' : List ℕ} {n : OctetCount} → n.0 ≡ tone_length tone → out' ≡ over (tone_octets tone) out → WritePromise song u title table out out' (Ok n)
          save_done {out'} {n} e l = promised song u title table out out' (Ok n) (accepted tone) save_accepted (ap (λ (x : ℕ). Ok (octet_count x)) e) l

pub ruleset savings = (save_faulty, save_title, save_judged, save_fits, save_counted, save_long, save_room, save_accepted, save_done)

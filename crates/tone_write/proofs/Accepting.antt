-- Writing accepts exactly the song types, titles and tables of well-formed tones that have room.
use Prim.Native.Nat.{ℕ, ◌*◌, ◌%◌, ◌≤◌}
use native.Mathlib.Omega.{arith}
use mathlib.Core.Path.{◌≡◌, refl, sym, ap, ◌∙◌}
use mathlib.Core.Logic.{◌⊎◌, inl, inr, ⊎_elim, ◌↔◌}
use mathlib.Core.Bool.{Bool, true, false, ◌||◌}
use mathlib.Core.List.{List}
use lib.ListN.{length}
use lib.Dec.{leb, eqb}
use borrow.Author.Tests.{le-leb, eq-eqb, eqb-true, eqb-false, leb-true}
use Rattle.bits.specs.Bits.{Octets}
use Rattle.bits.specs.Outcome.{Outcome, accepted, refused, and_then, demand}
use Rattle.bits.proofs.Choice.{both}
use Rattle.bits.proofs.Refusals.{GivenBy, given_then, given_demand}
use Rattle.tone.specs.Tone.{Tone, front_of, cells, patterns_of, per_character, characters, allowed_title, Titled, FrontFormed}
use Rattle.tone.specs.Writing.{tone_length, most_octets, WellFormed}
use Rattle.tone.proofs.Fronts.{or_true, one_or_two, song_fine_lem}
use Rattle.tone.proofs.Rows.{and_is, length_none}
use Rattle.tone.proofs.Tables.{patterns_of_cells}
use Rattle.tone_table.specs.Judging.{judge_table}
use Rattle.tone_table.proofs.Walks.{not_refused}
use Rattle.tone_table.proofs.Places.{none, then_zero, demand_zero, table_zero, place_zero}
use Rattle.tone_table.proofs.Grounds.{table_given}
use Rattle.tone_table.proofs.GoodTables.{GoodTable, judged_is_good, good_is_judged}
use Rattle.tone_write.specs.Judging.{song_fine, title_fine, sized, tone_of, write_tone}

-- ---- the title

or_is : {a b : Bool} → (a ≡ true) ⊎ (b ≡ true) → (a || b) ≡ true
or_is {a} {b} h = ⊎_elim (λ p. rw p refl) (λ p. rw p (go a)) h
  where
    go : (a : Bool) → (a || true) ≡ true
    go true = refl
    go false = refl

pub whole_characters : (unicode : Bool) (title : List ℕ) → (length title % per_character unicode ≡ 0) ↔ (per_character unicode * characters unicode title ≡ length title)
whole_characters true title = (λ h. omega arith, λ h. omega arith)
whole_characters false title = (λ h. omega arith, λ h. omega arith)

module _ (song : ℕ) (unicode : Bool) (title : List ℕ) where
  pub fine_is_titled : Octets title → title_fine song unicode title ≡ true → allowed_title unicode title ≡ true → Titled song unicode title
  fine_is_titled o h c =
      let a = both (leb (characters unicode title) 15) _ h in
      let b = both (eqb (length title % per_character unicode) 0) _ a.1 in
      record {
        octets = o;
        whole = (whole_characters unicode title).0 (eqb-true (length title % per_character unicode) 0 b.0);
        short = leb-true (characters unicode title) 15 a.0;
        allowed = c;
        none = λ t. ⊎_elim (λ p. let e = eqb-true song 1 p in let z : ⊥ = omega arith in absurd z) (λ p. length_none title (eqb-true (length title) 0 p)) (or_true (eqb song 1) (eqb (length title) 0) b.1);
      }

  pub titled_is_fine : (1 ≤ song) × (song ≤ 2) → Titled song unicode title → title_fine song unicode title ≡ true
  titled_is_fine s h =
      and_is (le-leb (characters unicode title) 15 h.short)
      (and_is (eq-eqb (length title % per_character unicode) 0 ((whole_characters unicode title).1 h.whole))
      (or_is (basic (eqb song 1) refl)))
    where
      basic : (b : Bool) → eqb song 1 ≡ b → (eqb song 1 ≡ true) ⊎ (eqb (length title) 0 ≡ true)
      basic true e = inl e
      basic false e =
          let n = eqb-false song 1 e in
          let t : song ≡ 2 = omega (arith, s.0, s.1) in
          inr (eq-eqb (length title) 0 (ap length (h.none t)))

-- ---- the whole

-- the tone t is well formed, is made of what was handed over, and has room
pub record Writable (song : ℕ) (unicode : Bool) (title table : List ℕ) (room : ℕ) (t : Tone) : Type 0 where
  pub well_formed : WellFormed t
  pub its_song : t.song ≡ song
  pub its_unicode : t.unicode ≡ unicode
  pub its_title : t.title ≡ title
  pub its_table : cells t.patterns ≡ table
  pub fits : tone_length t ≤ room

-- every rule was passed
pub record Passed (song : ℕ) (unicode : Bool) (title table : List ℕ) (room : ℕ) (t : Tone) : Type 0 where
  pub same : tone_of song unicode title table ≡ t
  pub basic_or_temporary : (1 ≤ song) × (song ≤ 2)
  pub title_good : title_fine song unicode title ≡ true
  pub characters_good : allowed_title unicode title ≡ true
  pub count : ℕ
  pub good : GoodTable table count
  pub most : tone_length (tone_of song unicode title table) ≤ most_octets
  pub fits : tone_length (tone_of song unicode title table) ≤ room

module _ (song : ℕ) (unicode : Bool) (title table : List ℕ) (room : ℕ) where
  abbrev tone : Tone
  tone = tone_of song unicode title table

  sized_fits : (t : Tone) → sized room tone ≡ accepted t → (tone ≡ t) × (tone_length tone ≤ most_octets) × (tone_length tone ≤ room)
  unfolding sized
  sized_fits t q = go (leb (tone_length tone) most_octets) (leb (tone_length tone) room) refl refl q
    where
      go : (a b : Bool) → leb (tone_length tone) most_octets ≡ a → leb (tone_length tone) room ≡ b → demand a 1 (demand b 11 (accepted tone)) ≡ accepted t
          → (tone ≡ t) × (tone_length tone ≤ most_octets) × (tone_length tone ≤ room)
      go true true f g h = (cc, leb-true (tone_length tone) most_octets f, leb-true (tone_length tone) room g)
      go true false f g h = absurd (not_refused h)
      go false b f g h = absurd (not_refused h)

  -- what is accepted passed every rule
  pub passed : (t : Tone) → write_tone song unicode title table room ≡ accepted t → Passed song unicode title table room t
  unfolding write_tone
  passed t q = go (song_fine song) (title_fine song unicode title) (allowed_title unicode title) (judge_table table) refl refl refl refl q
    where
      go : (a b c : Bool) (x : Outcome ℕ) → song_fine song ≡ a → title_fine song unicode title ≡ b → allowed_title unicode title ≡ c → judge_table table ≡ x
          → demand a 4 (demand b 17 (demand c 21 (and_then x (λ _. sized room tone)))) ≡ accepted t → Passed song unicode title table room t
      go true true true (accepted n) f g k h r =
          let s = sized_fits t r in
          record { same = s.0; basic_or_temporary = one_or_two song f; title_good = g; characters_good = k; count = n; good = judged_is_good table n h; most = s.1; fits = s.2 }
      go true true true (refused n p) f g k h r = absurd (not_refused r)
      go true true false x f g k h r = absurd (not_refused r)
      go true false c x f g k h r = absurd (not_refused r)
      go false b c x f g k h r = absurd (not_refused r)

  -- so it is a well-formed tone
  pub accepted_is_writable : (t : Tone) → Octets title → write_tone song unicode title table room ≡ accepted t → Writable song unicode title table room t
  accepted_is_writable t o q =
      let s = passed t q in
      let j = s.good in
      let front : FrontFormed (front_of tone) = record { basic_or_temporary = s.basic_or_temporary; titled = fine_is_titled song unicode title o s.title_good s.characters_good; some = rw j.count j.some; most = rw j.count j.most } in
      let w : WellFormed tone = record { formed = record { front = front; sequence = j.sequence }; size = s.most } in
      let e = s.same in
      rw (← e) (record { well_formed = w; its_song = refl; its_unicode = refl; its_title = refl; its_table = j.cells; fits = s.fits })

  -- what is well formed and has room
  pub writable_is_accepted : (t : Tone) → Writable song unicode title table room t → write_tone song unicode title table room ≡ accepted t
  unfolding write_tone sized
  writable_is_accepted t w =
      let f = w.well_formed.formed in
      let s : song_fine song ≡ true = rw (← w.its_song) (song_fine_lem t.song f.front.basic_or_temporary.0 f.front.basic_or_temporary.1) in
      let h : title_fine song unicode title ≡ true = rw (← w.its_song, ← w.its_unicode, ← w.its_title) (titled_is_fine t.song t.unicode t.title f.front.basic_or_temporary f.front.titled) in
      let j : judge_table table ≡ accepted (length t.patterns) = rw (← w.its_table) (good_is_judged t.patterns f.sequence f.front.some f.front.most) in
      let p : patterns_of table ≡ t.patterns = sym (ap patterns_of w.its_table) ∙ patterns_of_cells _ t.patterns f.sequence in
      let e : tone ≡ t = (λ i. record { song = sym w.its_song i; unicode = sym w.its_unicode i; title = sym w.its_title i; patterns = p i }) in
      let c : allowed_title unicode title ≡ true = rw (← w.its_unicode, ← w.its_title) f.front.titled.allowed in
      rw (s, h, c, j, e, le-leb (tone_length t) most_octets w.well_formed.size, le-leb (tone_length t) room w.fits)

  -- so, exactly
  pub writes_exactly : (t : Tone) → Octets title → (write_tone song unicode title table room ≡ accepted t) ↔ Writable song unicode title table room t
  writes_exactly t o = (accepted_is_writable t o, writable_is_accepted t)

-- ---- every refusal's place is 0

pub write_place : (song : ℕ) (unicode : Bool) (title table : List ℕ) (room : ℕ) {n p : ℕ} → write_tone song unicode title table room ≡ refused n p → p ≡ 0
unfolding write_tone sized
write_place song unicode title table room q =
    let l = tone_length (tone_of song unicode title table) in
    place_zero
    (demand_zero (song_fine song) 4
    (demand_zero (title_fine song unicode title) 17
    (demand_zero (allowed_title unicode title) 21
    (then_zero (λ _. sized room (tone_of song unicode title table)) (table_zero table)
    (λ _. demand_zero (leb l most_octets) 1 (demand_zero (leb l room) 11 none))))))
    q

-- ---- every refusal's number is one of document 01

pub write_given : (song : ℕ) (unicode : Bool) (title table : List ℕ) (room : ℕ) → GivenBy (write_tone song unicode title table room)
unfolding write_tone sized
write_given song unicode title table room =
    let l = tone_length (tone_of song unicode title table) in
    given_demand (song_fine song) 4 _ refl
    (given_demand (title_fine song unicode title) 17 _ refl
    (given_demand (allowed_title unicode title) 21 _ refl
    (given_then (judge_table table) (λ _. sized room (tone_of song unicode title table)) (table_given table)
    (λ _. given_demand (leb l most_octets) 1 _ refl (given_demand (leb l room) 11 _ refl tt)))))

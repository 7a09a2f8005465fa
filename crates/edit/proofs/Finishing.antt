-- What each return of `finish`, `carry_out` and `edit_message` shows.
use Prim.Native.Nat.{ℕ, ◌+◌, ◌-◌, ◌*◌, ◌/◌, ◌≤◌, ◌<◌}
use native.Mathlib.Omega.{arith}
use mathlib.Core.Path.{◌≡◌, refl, sym, ap, ap₂, subst, ◌∙◌}
use mathlib.Core.Bool.{Bool}
use mathlib.Core.List.{List, ◌++◌}
use lib.ListN.{length, take, replicate}
use lib.Seq.{length-take-le}
use lib.IntN.{ℤ, pos, ◌-ℤ◌}
use borrow.Author.Tests.{le-leb, lt-leb}
use Rattle.std.specs.Prelude.{Result, Ok, Err}
use Rattle.bits.specs.Refusals.{number_of, on}
use Rattle.bits.specs.declared.refusal.Refusal.{Refusal}
use Rattle.bits.specs.declared.refusal.Ground.TheVariants.{TooLong, NoRoom}
use Rattle.bits.proofs.Refusals.{grounded, GivenBy}
use Rattle.bits.proofs.Answered.{by_number}
use Rattle.bits.specs.Bits.{bits_of, octets_to}
use Rattle.bits.specs.Lent.{over}
use Rattle.bits.specs.Outcome.{Outcome, accepted, refused, and_then}
use Rattle.bits.specs.Places.{octet_count}
use Rattle.tone.specs.Tone.{Pattern, Tone, front_of, cells, none_known}
use Rattle.tone.specs.Writing.{table_bits, front_bits, end_bits, tone_bits, tone_length, tone_octets, most_octets, WellFormed}
use Rattle.tone.specs.Reading.{got, patterns_due, read_tone}
use Rattle.tone.proofs.Demand2.{octets_are, one_tone, written_is_accepted, length_tone_octets}
use Rattle.tone_elements.specs.Answers.{Within}
use Rattle.list_rules.specs.Sounding.{at_start, entry_cells, numbers}
use Rattle.list_rules.specs.Playing.{play, playing_list}
use Rattle.list_fill.specs.Filling.{patterns_in, end_in, PatternsAt}
use Rattle.list_rules.proofs.Counts.{list_count}
use Rattle.list_rules.proofs.Marks.{list_mark}
use Rattle.list.proofs.Outcomes.{patterns_there, patterns_within}
use Rattle.list_count.specs.Bodies.{no_bodies}
use Rattle.list_count.specs.Counting.{entry_count}
use Rattle.edit_build.specs.Anew.{Built}
use Rattle.edit_build.proofs.Builds.{length_joined}
use Rattle.edit_change.specs.declared.Edit.{Edit}
use Rattle.edit_change.specs.Change.{changed}
use Rattle.edit.specs.declared.Edited.{Edited as Made}
use Rattle.edit.specs.declared.Outline.{Outline}
use Rattle.edit.specs.declared.Layout.{Layout}
use Rattle.edit.specs.Editing.{Edited, in_buffer, with_list, edit_message, cleared, buffer_after, list_after}
use Rattle.edit.specs.Plan.{Written, joined_by, end_of, Laid, SomeLaid, Going, Plans}
use Rattle.edit.specs.Promise.{numbers_of, edit_numbers, edit_answer, Leaves, EditPromise}
use Rattle.edit.proofs.Changes.{cleared_over}

-- the numbers of an answer are those that the rules ask for
numbers_are : (used : ℕ) (o : Outcome Edited) → GivenBy o → numbers_of (edit_answer used o) ≡ edit_numbers used o
numbers_are used (accepted d) g = refl
numbers_are used (refused n p) g = rw g refl

pub leaves : (o : Outcome Edited) (used : ℕ) (buf list buf' list' : List ℕ) (r : Result Made Refusal) → GivenBy o → r ≡ edit_answer used o → buf' ≡ buffer_after o used buf → list' ≡ list_after o list → Leaves o used buf list buf' list' r
leaves o used buf list buf' list' r g a b c = record { answer = a; numbers = ap numbers_of a ∙ numbers_are used o g; buffer = b; listed = c }

-- ---- putting a message in place

module _ (new buf list : List ℕ) (used : ℕ) {o : Outline} (w : Written new o) where
  -- a message is the writing of one tone
  same_tone : (t : Tone) → WellFormed t → tone_octets t ≡ new → t ≡ w.tone
  same_tone t f e = one_tone t w.tone f w.formed (e ∙ sym w.writes)

  new_reads : read_tone new ≡ accepted w.tone
  new_reads = ap read_tone (sym w.writes) ∙ written_is_accepted w.tone w.formed

  new_there : patterns_due o.patterns none_known (bits_of new) o.first.0 ≡ got w.tone.patterns (length (front_bits (front_of w.tone)) + length (table_bits (cells w.tone.patterns)))
  new_there = ap₂ (λ (x y : ℕ). patterns_due x none_known (bits_of new) y) w.outlines.patterns w.outlines.first ∙ patterns_there new w.tone new_reads

  patterns_are : patterns_in new o.first.0 o.patterns ≡ w.tone.patterns
  patterns_are = rw new_there refl

  count : length (playing_list w.tone).entries ≡ o.entries
  unfolding playing_list
  count = list_count at_start no_bodies 0 w.tone.patterns ∙ sym w.outlines.entries

  pub finish_short : {r : Refusal} → r ≡ on NoRoom 0 → length list / entry_cells < o.entries → (t : Tone) → WellFormed t → tone_octets t ≡ new → Leaves (with_list (length list) t) used buf list buf list (Err r)
  finish_short {r} q h t f e =
      let z : with_list (length list) t ≡ refused 11 0 = ap (with_list (length list)) (same_tone t f e) ∙ (rw (count, lt-leb (entry_cells * o.entries) (length list) (omega arith)) refl) in
      rw z (leaves (refused 11 0) used buf list buf list (Err r) refl (ap (λ (x : Refusal). Err x) q) refl refl)

  module _ (h : o.entries ≤ length list / entry_cells) where
    pub finish_patterns : PatternsAt new o.first.0 o.patterns (patterns_in new o.first.0 o.patterns) (end_in new o.first.0 o.patterns)
    finish_patterns = record { within = subst (Within new) (sym w.outlines.first) (patterns_within new w.tone new_reads); reads = rw new_there refl }

    pub finish_few : o.patterns ≤ 255
    finish_few = omega (arith, w.outlines.patterns, w.formed.formed.front.most)

    pub finish_room : entry_cells * entry_count no_bodies (patterns_in new o.first.0 o.patterns) ≤ length list
    finish_room = omega (arith, ap (entry_count no_bodies) patterns_are, w.outlines.entries)

    pub finish_made : {list' buf₁ buf₂ : List ℕ} {ch : ℤ} {n : ℕ} → length new ≡ n → list' ≡ over (numbers (play at_start no_bodies 0 (patterns_in new o.first.0 o.patterns)).entries) list → n ≤ length buf
        → buf₁ ≡ over new buf → buf₂ ≡ cleared n used buf₁ → ch ≡ pos n -ℤ pos used
        → (t : Tone) → WellFormed t → tone_octets t ≡ new → Leaves (with_list (length list) t) used buf list buf₂ list' (Ok (record { length = octet_count n; entries = o.entries; mark = o.mark; change = ch }))
    unfolding playing_list
    finish_made {list'} {buf₁} {buf₂} {ch} {n} hn z l b₁ b₂ hc t f e =
        let g = playing_list w.tone in
        let d : with_list (length list) t ≡ accepted (record { tone = w.tone; listing = g }) =
        ap (with_list (length list)) (same_tone t f e) ∙ (rw (count, le-leb (entry_cells * o.entries) (length list) (omega arith)) refl) in
        let size : n ≡ tone_length w.tone = sym hn ∙ ap length (sym w.writes) ∙ length_tone_octets w.tone in
        let buffer : buf₂ ≡ over (tone_octets w.tone ++ replicate (used - tone_length w.tone) 0) buf =
        b₂ ∙ ap (cleared n used) b₁ ∙ cleared_over new buf n used hn l
        ∙ ap₂ (λ (y : List ℕ) (x : ℕ). over (y ++ replicate (used - x) 0) buf) (sym w.writes) size in
        let e₁ : o.entries ≡ length g.entries = sym count in
        let e₂ : o.mark ≡ g.mark = w.outlines.mark ∙ sym (list_mark at_start no_bodies 0 w.tone.patterns) in
        let e₃ : octet_count n ≡ octet_count (tone_length w.tone) = ap octet_count size in
        let e₄ : ch ≡ pos (tone_length w.tone) -ℤ pos used = hc ∙ ap (λ (y : ℕ). pos y -ℤ pos used) size in
        let listing : list' ≡ over (numbers g.entries) list = z ∙ ap (λ (x : List Pattern). over (numbers (play at_start no_bodies 0 x).entries) list) patterns_are in
        rw d (leaves (accepted (record { tone = w.tone; listing = g })) used buf list buf₂ list' (Ok (record { length = octet_count n; entries = o.entries; mark = o.mark; change = ch })) tt (cc) buffer listing)

-- ---- building, and what is refused before it

module _ (m : List ℕ) (l : Layout) (buf list : List ℕ) (used : ℕ) {z : ℕ} (hz : z ≡ octets_to (end_of l)) where
  -- the bits' number
  joined_length : {t : Tone} → Laid m l t → length (joined_by m l) ≡ end_of l
  joined_length y = length_joined m l.header.0 l.cell l.spot.at.0 y.ahead y.inside l.piece.width l.piece.value l.spot.behind.0 l.spot.end.0 y.order y.ends

  -- the message's length, as the code computes it
  length_is : {t : Tone} → Laid m l t → z + 1 ≡ tone_length t
  length_is y = ap (λ (x : ℕ). x + 1) (hz ∙ ap octets_to (sym (joined_length y) ∙ ap length y.spells))

  pub carry_long : {r : Refusal} → r ≡ on TooLong 0 → 4096 < z + 1 → (t : Tone) → Laid m l t → Leaves (and_then (in_buffer (length buf) t) (with_list (length list))) used buf list buf list (Err r)
  carry_long {r} q h t y =
      let n = length_is y in
      let o : in_buffer (length buf) t ≡ refused 1 0 = rw (lt-leb (tone_length t) most_octets (omega arith)) refl in
      rw o (leaves (refused 1 0) used buf list buf list (Err r) refl (ap (λ (x : Refusal). Err x) q) refl refl)

  module _ (s : z + 1 ≤ 4096) where
    pub carry_room : {r : Refusal} → r ≡ on NoRoom 0 → length buf < z + 1 → (t : Tone) → Laid m l t → Leaves (and_then (in_buffer (length buf) t) (with_list (length list))) used buf list buf list (Err r)
    carry_room {r} q h t y =
        let n = length_is y in
        let o : in_buffer (length buf) t ≡ refused 11 0 = rw (le-leb (tone_length t) most_octets (omega arith), lt-leb (tone_length t) (length buf) (omega arith)) refl in
        rw o (leaves (refused 11 0) used buf list buf list (Err r) refl (ap (λ (x : Refusal). Err x) q) refl refl)

    -- what is built apart, in the buffer
    pub carry_done : {buf' list' : List ℕ} {r : Result Made Refusal} → z + 1 ≤ length buf → ((t : Tone) → Laid m l t → Leaves (with_list (length list) t) used buf list buf' list' r)
        → (t : Tone) → Laid m l t → Leaves (and_then (in_buffer (length buf) t) (with_list (length list))) used buf list buf' list' r
    carry_done h k t y =
        let n = length_is y in
        let o : in_buffer (length buf) t ≡ accepted t = rw (le-leb (tone_length t) most_octets (omega arith), le-leb (tone_length t) (length buf) (omega arith)) refl in
        rw o (k t y)

    module _ {scratch : List ℕ} {n : ℕ} (b : Built (joined_by m l) scratch n) where
      pub apart_size : SomeLaid m l → n ≡ z + 1
      apart_size y = b.size ∙ ap (λ (x : ℕ). octets_to x + 1) (joined_length y.laid) ∙ ap (λ (x : ℕ). x + 1) (sym hz)

      -- it is the writing of a tone whose song it spells
      written : {t : Tone} → Laid m l t → WellFormed t × (tone_octets t ≡ take n scratch)
      unfolding tone_bits
      written {t} y =
          let x = length_is y in
          let bits : bits_of (take n scratch) ≡ tone_bits t = b.spelt ∙ ap (λ (x : List Bool). x ++ end_bits (length x)) y.spells in
          (record { formed = y.formed; size = omega arith }, octets_are (take n scratch) t b.each bits)

      pub apart_written : SomeLaid m l → Written (take n scratch) l.outline
      apart_written y = let x = written y.laid in record { tone = y.tone; formed = x.0; writes = x.1; outlines = y.laid.outlines }

      pub apart_done : {buf' list' new : List ℕ} {r : Result Made Refusal} → new ≡ take n scratch → ((t : Tone) → WellFormed t → tone_octets t ≡ new → Leaves (with_list (length list) t) used buf list buf' list' r)
          → (t : Tone) → Laid m l t → Leaves (with_list (length list) t) used buf list buf' list' r
      apart_done e k t y = let x = written y in k t x.0 (x.1 ∙ sym e)

-- what the code needs to know before it builds
module _ (buf : List ℕ) (used : ℕ) {l : Layout} (p : (used ≤ length buf) × (used ≤ 4096) × SomeLaid (take used buf) l) where
  pub carry_short : length (take used buf) ≡ used
  carry_short = length-take-le used buf p.0

  pub carry_at : l.spot.at.0 + l.piece.width ≤ 32785
  carry_at = let y = p.2.laid in omega (arith, p.1, carry_short, y.inside, y.width)

  pub carry_end : end_of l ≤ 65553
  carry_end = let y = p.2.laid in omega (arith, p.1, carry_short, y.inside, y.width, y.ends)

-- ---- the whole edit

module _ (buf list : List ℕ) (used : ℕ) (ed : Edit) (k i : ℕ) where
  pub edit_beyond : {r : Refusal} → r ≡ on TooLong 0 → length buf < used → EditPromise buf used ed k i list buf list (Err r)
  unfolding edit_message
  edit_beyond {r} q h = rw (lt-leb used (length buf) h) (leaves (refused 1 0) used buf list buf list (Err r) refl (ap (λ (x : Refusal). Err x) q) refl refl)

  module _ (h : used ≤ length buf) where
    abbrev m : List ℕ
    m = take used buf

    -- a plan that refuses
    pub edit_halt : {pl : Result Layout Refusal} {r : Refusal} → Plans (take used buf) (record { edit = ed; pattern = k; instruction = i }) pl → pl ≡ Err r → EditPromise buf used ed k i list buf list (Err r)
    unfolding edit_message
    edit_halt {pl} {r} y z =
        let e = subst (Plans (take used buf) (record { edit = ed; pattern = k; instruction = i })) z y in
        rw (le-leb used (length buf) h, e) (leaves (refused (number_of r.why) r.place.0) used buf list buf list (Err r) (ap number_of (grounded r.why)) (ap (λ (x : Refusal). Err x) (sym (by_number r))) refl refl)

    -- a plan that goes on
    module _ {pl : Result Layout Refusal} {l : Layout} (y : Plans (take used buf) (record { edit = ed; pattern = k; instruction = i }) pl) (z : pl ≡ Ok l) where
      going : Going (take used buf) ed k i l
      going = subst (Plans (take used buf) (record { edit = ed; pattern = k; instruction = i })) z y

      pub edit_laid : (used ≤ length buf) × (used ≤ 4096) × SomeLaid (take used buf) l
      edit_laid = (h, omega (arith, going.short, length-take-le used buf h), record { tone = changed ed k i going.tone; laid = going.laid })

      pub edit_done : {r : Result Made Refusal} {buf' list' : List ℕ} → ((t : Tone) → Laid (take used buf) l t → Leaves (and_then (in_buffer (length buf) t) (with_list (length list))) used buf list buf' list' r) → EditPromise buf used ed k i list buf' list' r
      unfolding edit_message
      edit_done e = rw (le-leb used (length buf) h, going.reads, going.accepts) (e (changed ed k i going.tone) going.laid)

pub ruleset edits = (edit_beyond, edit_halt, edit_laid, edit_done)

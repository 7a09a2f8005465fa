-- What each return of the functions that read the front and the end shows.
use Prim.Native.Nat.{ℕ, zero, suc, ◌+◌, ◌-◌, ◌*◌, ◌/◌, ◌%◌, ◌^◌, ◌≤◌, ◌<◌}
use native.Mathlib.Omega.{arith}
use native.Mathlib.Nat.{add-zero}
use mathlib.Core.Path.{◌≡◌, refl, sym, ap, ◌∙◌}
use mathlib.Core.Bool.{Bool, true, false, ◌||◌}
use mathlib.Core.List.{List, []}
use lib.ListN.{length, drop}
use lib.Dec.{eqb, leb, lit≤}
use borrow.Author.Tests.{eq-eqb, ne_eqb, le-leb}
use Rattle.bits.specs.Bits.{bits_of, field, filler_to, place_after, octets_to}
use Rattle.bits.specs.declared.OctetCount.{OctetCount}
use Rattle.bits.proofs.Choice.{pick_elim}
use Rattle.bits.proofs.Refusals.{grounded}
use Rattle.bits.specs.Window.{Look, Sight}
use Rattle.bits.proofs.Octets.{length_bits_of}
use Rattle.bits.proofs.Numbers.{field_drop}
use Rattle.bits.proofs.Looking.{seen, length_left_lem, sight_zero}
use Rattle.bits.specs.Places.{place, octet_count}
use Rattle.tone.specs.Writing.{programming, unicode_part, sound}
use Rattle.tone.specs.Reading.{Got, got, bad, onward, Reader, element, any_of, part, filler_bit, filled, whether_unicode, sound_part, parts, command, text, title, counted, titled, typed, front, ending}
use Rattle.tone.proofs.Exact.{element_inside, element_small, element_good, judged_cut, judged_good, judged_bad}
use Rattle.tone.proofs.Numbered.{numbered_any}
use Rattle.tone.proofs.Fronts.{command_exact, text_exact}
use Rattle.std.specs.Prelude.{Result, Ok, Err}
use Rattle.bits.specs.Refusals.{number_of, on}
use Rattle.bits.specs.declared.refusal.Ground.{Ground}
use Rattle.bits.specs.declared.refusal.Ground.TheVariants.{Command, EndOctet, Filler, NoPattern, SongType}
use Rattle.bits.specs.declared.refusal.Refusal.{Refusal}
use Rattle.tone_elements.specs.declared.Seen.{Seen}
use Rattle.tone_elements.specs.declared.Fault.{Fault}
use Rattle.tone_elements.specs.declared.Opening.{Opening}
use Rattle.tone_elements.specs.Answers.{Within, seen_of, seen_or_fault, characters_of, opening, opening_of}
use Rattle.tone_elements.proofs.Steps.{Step, BadThere, read, seen_made, seen_there, seen_bad, refused_there, passed_on, told_as}
use Rattle.tone_elements.proofs.Walks.{stays}

-- ---- places stay within the message

pub within : {m : List ℕ} {at : ℕ} → Within m at → {p : ℕ} → p ≤ length (bits_of m) → Within m p
within {m} w h = record { inside = rw (← length_bits_of m) h; counted = w.counted }

pub element_within : (m : List ℕ) (at w number : ℕ) (fine : ℕ → Bool) {s : Step} {v : Seen ℕ} → Within m at → s ≡ seen_of (element w fine number (bits_of m) at) → s ≡ Ok v → Within m v.next.0
element_within m at w number fine i q g = within i (element_inside w fine number (bits_of m) at (seen_there (element w fine number (bits_of m) at) (sym g ∙ q)))

-- what reading any code says of an element that is judged
module _ (w number : ℕ) (fine : ℕ → Bool) (m : List ℕ) (at : ℕ) {s : Step} (q : s ≡ seen_of (any_of w (bits_of m) at)) where
  pub cut_there : {r : Refusal} → s ≡ Err r → BadThere (element w fine number (bits_of m) at) r
  cut_there g =
      let b = seen_bad (λ v. v) (any_of w (bits_of m) at) (sym g ∙ q) in
      record { number = b.number; at = b.at; end = b.end; there = judged_cut w fine number (bits_of m) at b.there; told = b.told }

  module _ {v : Seen ℕ} (g : s ≡ Ok v) where
    pub good_there : fine v.value ≡ true → element w fine number (bits_of m) at ≡ got v.value v.next.0
    good_there h = judged_good w fine number (bits_of m) at (seen_there (any_of w (bits_of m) at) (sym g ∙ q)) h

    pub bad_there : fine v.value ≡ false → element w fine number (bits_of m) at ≡ bad number at (at + w)
    bad_there h = judged_bad w fine number (bits_of m) at (seen_there (any_of w (bits_of m) at) (sym g ∙ q)) h

    -- the places stay within the message
    pub any_within : Within m at → Within m v.next.0
    any_within i = within i (element_inside w (λ _. true) 0 (bits_of m) at (seen_there (any_of w (bits_of m) at) (sym g ∙ q)))

-- ---- the code that is due, and another one

module _ (w code : ℕ) (why : Ground) (m : List ℕ) (at : ℕ) {s : Step} (q : s ≡ seen_of (any_of w (bits_of m) at)) where
  pub due_cut : {r : Refusal} → s ≡ Err r → Err r ≡ seen_of (element w (eqb code) (number_of why) (bits_of m) at)
  due_cut g = let b = cut_there w (number_of why) (eqb code) m at q g in rw b.there (told_as b.number b.at b.told)

  module _ {v : Seen ℕ} (g : s ≡ Ok v) where
    pub due_good : v.value ≡ code → Ok v ≡ seen_of (element w (eqb code) (number_of why) (bits_of m) at)
    due_good h = rw (good_there w (number_of why) (eqb code) m at q g (eq-eqb code v.value (sym h)))

    pub due_other : {e : Refusal} → e ≡ on why at → (v.value ≡ code → ⊥) → Err e ≡ seen_of (element w (eqb code) (number_of why) (bits_of m) at)
    due_other f h = rw (f, bad_there w (number_of why) (eqb code) m at q g (ne_eqb code v.value (λ k. h (sym k))), grounded why)

pub ruleset dues = (due_cut, due_good, due_other)

-- the same, where the caller gives the number
module _ (w code number : ℕ) (m : List ℕ) (at : ℕ) {s : Step} (q : s ≡ seen_of (any_of w (bits_of m) at)) where
  pub fault_cut : {r : Refusal} {f : Fault} → s ≡ Err r → f ≡ record { number = number_of r.why; place = r.place } → Err f ≡ seen_or_fault (element w (eqb code) number (bits_of m) at)
  fault_cut g h =
      let b = refused_there (λ v. v) (any_of w (bits_of m) at) (numbered_any w (bits_of m) at) (sym g ∙ q) in
      rw (h, judged_cut w (eqb code) number (bits_of m) at b.1)

  module _ {v : Seen ℕ} (g : s ≡ Ok v) where
    pub fault_good : v.value ≡ code → Ok v ≡ seen_or_fault (element w (eqb code) number (bits_of m) at)
    fault_good h = rw (good_there w number (eqb code) m at q g (eq-eqb code v.value (sym h)))

    pub fault_other : {f : Fault} → f ≡ record { number = number; place = place at } → (v.value ≡ code → ⊥) → Err f ≡ seen_or_fault (element w (eqb code) number (bits_of m) at)
    fault_other f h = rw (f, bad_there w number (eqb code) m at q g (ne_eqb code v.value (λ k. h (sym k))))

pub ruleset faults = (fault_cut, fault_good, fault_other)

-- ---- a part and its filler

module _ (m : List ℕ) (at code : ℕ) {s : Step} (q : s ≡ seen_of (element 7 (eqb code) (number_of Command) (bits_of m) at)) where
  pub filled_bad : {r : Refusal} → s ≡ Err r → Err r ≡ seen_of (filled code (bits_of m) at)
  unfolding filled
  filled_bad g = passed_on (λ v. v) (λ v. v) (part code (bits_of m) at) (λ _ p. filler_bit (bits_of m) p) (sym g ∙ q)

  pub filled_next : {v : Seen ℕ} {t : Step} → s ≡ Ok v → t ≡ seen_of (element 1 (eqb 0) (number_of Filler) (bits_of m) v.next.0) → t ≡ seen_of (filled code (bits_of m) at)
  unfolding filled
  filled_next g e = let b = seen_there (element 7 (eqb code) 3 (bits_of m) at) (sym g ∙ q) in rw b e

pub filled_within : (m : List ℕ) (at code : ℕ) {s : Step} {v : Seen ℕ} → Within m at → s ≡ seen_of (filled code (bits_of m) at) → s ≡ Ok v → Within m v.next.0
unfolding filled
filled_within m at code {s} {v} i q g = go (part code (bits_of m) at) (sym g ∙ q)
  where
    go : (x : Got ℕ) → Ok v ≡ seen_of (onward x (λ a p. filler_bit (bits_of m) p) bad) → Within m v.next.0
    go (got a p) e = within i (element_inside 1 (eqb 0) 8 (bits_of m) p (seen_there (filler_bit (bits_of m) p) e))
    go (bad n p e') e = let z : ◌≡◌ {A = ℕ} 0 1 = cc in absurd (omega arith)

-- an opening of its parts
abbrev opened : ℕ → OctetCount → ℕ → Bool → Opening
opened s o c u = record { song = s; octets = o; count = c; unicode = u }

-- ---- the command

-- what the code answers of a command
abbrev Called : Type 0
Called = Result (Seen Bool) Refusal

module _ (m : List ℕ) (at : ℕ) (unicode : Bool) {s : Step} (q : s ≡ seen_of (element 7 (eqb sound) (number_of Command) (bits_of m) at)) where
  pub sound_bad : {r : Refusal} → s ≡ Err r → Err r ≡ seen_of (sound_part unicode (bits_of m) at)
  unfolding sound_part
  sound_bad g = passed_on (λ v. v) (λ v. v) (part sound (bits_of m) at) (λ _ p. got unicode p) (sym g ∙ q)

  pub sound_good : {v : Seen ℕ} → s ≡ Ok v → read unicode v.next.0 ≡ seen_of (sound_part unicode (bits_of m) at)
  unfolding sound_part
  sound_good g = let b = seen_there (element 7 (eqb sound) 3 (bits_of m) at) (sym g ∙ q) in rw b

module _ (m : List ℕ) (at n : ℕ) {s : Step} (q : s ≡ seen_of (filled programming (bits_of m) at)) where
  pub parts_bad : {r : Refusal} → s ≡ Err r → Err r ≡ seen_of (parts n (bits_of m) at)
  unfolding parts
  parts_bad g = let b = seen_bad (λ v. v) (filled programming (bits_of m) at) (sym g ∙ q) in rw b.there (told_as b.number b.at b.told)

  module _ {v : Seen ℕ} (g : s ≡ Ok v) where
    there : filled programming (bits_of m) at ≡ got v.value v.next.0
    there = seen_there (filled programming (bits_of m) at) (sym g ∙ q)

    pub parts_plain : {c : Called} → (n ≡ 3 → ⊥) → c ≡ seen_of (sound_part false (bits_of m) v.next.0) → c ≡ seen_of (parts n (bits_of m) at)
    unfolding parts whether_unicode
    parts_plain h e = rw (there, ne_eqb n 3 h) e

    module _ {t : Step} (h : n ≡ 3) (q' : t ≡ seen_of (filled unicode_part (bits_of m) v.next.0)) where
      pub parts_unicode_bad : {r : Refusal} → t ≡ Err r → Err r ≡ seen_of (parts n (bits_of m) at)
      unfolding parts whether_unicode
      parts_unicode_bad g' = let b = seen_bad (λ v. v) (filled unicode_part (bits_of m) v.next.0) (sym g' ∙ q') in rw (there, eq-eqb n 3 h, b.there) (told_as b.number b.at b.told)

      pub parts_unicode : {v' : Seen ℕ} {c : Called} → t ≡ Ok v' → c ≡ seen_of (sound_part true (bits_of m) v'.next.0) → c ≡ seen_of (parts n (bits_of m) at)
      unfolding parts whether_unicode
      parts_unicode g' e = let b = seen_there (filled unicode_part (bits_of m) v.next.0) (sym g' ∙ q') in rw (there, eq-eqb n 3 h, b) e

-- either of two codes
abbrev either : ℕ → ℕ → ℕ → Bool
either a b n = eqb n a || eqb n b

-- 1 or 2
one_or_two : (v : ℕ) → (v ≡ 0 → ⊥) → v ≤ 2 → either 1 2 v ≡ true
one_or_two zero h k = absurd (h refl)
one_or_two (suc zero) h k = refl
one_or_two (suc (suc zero)) h k = refl
one_or_two (suc (suc (suc v))) h k = absurd (omega arith)

is_first : (a b n : ℕ) → n ≡ a → either a b n ≡ true
is_first a b n h = rw (eq-eqb n a h)

is_second : (a b n : ℕ) → (n ≡ a → ⊥) → n ≡ b → either a b n ≡ true
is_second a b n h k = rw (ne_eqb n a h, eq-eqb n b k)

is_neither : (a b n : ℕ) → (n ≡ a → ⊥) → (n ≡ b → ⊥) → either a b n ≡ false
is_neither a b n h k = rw (ne_eqb n a h, ne_eqb n b k)

module _ (m : List ℕ) (at : ℕ) {s : Step} (q : s ≡ seen_of (any_of 8 (bits_of m) at)) where
  pub command_cut : {r : Refusal} → s ≡ Err r → Err r ≡ seen_of (command (bits_of m) at)
  unfolding command
  command_cut g = let b = cut_there 8 3 (either 2 3) m at q g in rw b.there (told_as b.number b.at b.told)

  module _ {v : Seen ℕ} (g : s ≡ Ok v) where
    pub command_two : {c : Called} → v.value ≡ 2 → c ≡ seen_of (parts v.value (bits_of m) v.next.0) → c ≡ seen_of (command (bits_of m) at)
    unfolding command
    command_two h e = rw (good_there 8 3 (either 2 3) m at q g (is_first 2 3 v.value h)) e

    module _ (h : v.value ≡ 2 → ⊥) where
      pub command_three : {c : Called} → v.value ≡ 3 → c ≡ seen_of (parts v.value (bits_of m) v.next.0) → c ≡ seen_of (command (bits_of m) at)
      unfolding command
      command_three k e = rw (good_there 8 3 (either 2 3) m at q g (is_second 2 3 v.value h k)) e

      pub command_other : {e : Refusal} → e ≡ on Command at → (v.value ≡ 3 → ⊥) → Err e ≡ seen_of (command (bits_of m) at)
      unfolding command
      command_other f k = rw (f, bad_there 8 3 (either 2 3) m at q g (is_neither 2 3 v.value h k))

-- the 23 bits of a command without UNICODE, told at once
module _ (m : List ℕ) (at : ℕ) {r x : ℕ} (hr : r + at ≡ 8 * length m) (long : 23 ≤ r) (lk : Look (drop at (bits_of m)) x) where
  told : (q o w : ℕ) (fine : ℕ → Bool) (number v : ℕ) → q ≡ at + o → o + w ≤ 23 → x / 2 ^ (24 - (o + w)) % 2 ^ w ≡ v → fine v ≡ true → element w fine number (bits_of m) q ≡ got v (q + w)
  told q o w fine number v e h f t =
      let g : field (bits_of m) q w ≡ v = ap (λ (y : ℕ). field (bits_of m) y w) e ∙ seen m at o w lk (omega arith) (omega arith) ∙ f in
      rw (element_good w fine number (bits_of m) q (rw (length_bits_of m) (omega arith)) (rw g t), g)

  pub command_plain : x / 2 ≡ 75037 → read false (at + 23) ≡ seen_of (command (bits_of m) at)
  unfolding command parts filled whether_unicode sound_part
  command_plain h =
      let e : at + 8 + 7 + 1 + 7 ≡ at + 23 = omega arith in
      rw (
        told at 0 8 (either 2 3) 3 2 (omega arith) (lit≤ tt) (omega arith) refl,
        told (at + 8) 8 7 (eqb programming) 3 37 (omega arith) (lit≤ tt) (omega arith) refl,
        told (at + 8 + 7) 15 1 (eqb 0) 8 0 (omega arith) (lit≤ tt) (omega arith) refl,
        told (at + 8 + 7 + 1) 16 7 (eqb sound) 3 29 (omega arith) (lit≤ tt) (omega arith) refl,
        e,
      )

pub command_within : (m : List ℕ) (at : ℕ) {c : Called} {v : Seen Bool} → Within m at → c ≡ seen_of (command (bits_of m) at) → c ≡ Ok v → Within m v.next.0
command_within m at i q g = record { inside = stays command_exact m at i.inside (seen_there (command (bits_of m) at) (sym g ∙ q)); counted = i.counted }

-- ---- the title

-- what the code answers of a title
abbrev Characters : Type 0
Characters = Result (Seen OctetCount) Refusal

pub title_none : (m : List ℕ) (song : ℕ) (unicode : Bool) (p : ℕ) → (song ≡ 1 → ⊥) → read (octet_count 0) p ≡ characters_of (title song unicode (bits_of m) p)
unfolding title
title_none m song unicode p h = rw (ne_eqb song 1 h)

-- a title's length is at most fifteen
pub title_short : (m : List ℕ) (at : ℕ) {s : Step} {v : Seen ℕ} → s ≡ seen_of (any_of 4 (bits_of m) at) → s ≡ Ok v → v.value ≤ 15
title_short m at q g =
    let k = element_small 4 (λ _. true) 0 (bits_of m) at (seen_there (any_of 4 (bits_of m) at) (sym g ∙ q)) in
    omega arith

module _ (m : List ℕ) (at song : ℕ) (unicode : Bool) {s : Step} (h : song ≡ 1) (q : s ≡ seen_of (any_of 4 (bits_of m) at)) where
  pub title_cut : {r : Refusal} → s ≡ Err r → Err r ≡ characters_of (title song unicode (bits_of m) at)
  unfolding title
  title_cut g = let b = seen_bad (λ v. v) (any_of 4 (bits_of m) at) (sym g ∙ q) in rw (eq-eqb song 1 h, b.there) (told_as b.number b.at b.told)

  pub title_text : {v : Seen ℕ} {t : Characters} → s ≡ Ok v → t ≡ characters_of (text unicode v.value (bits_of m) v.next.0) → t ≡ characters_of (title song unicode (bits_of m) at)
  unfolding title
  title_text g e = let b = seen_there (any_of 4 (bits_of m) at) (sym g ∙ q) in rw (eq-eqb song 1 h, b) e

title_within : (m : List ℕ) (at song : ℕ) (unicode : Bool) {o : List ℕ} {p : ℕ} → at ≤ 8 * length m → title song unicode (bits_of m) at ≡ got o p → p ≤ 8 * length m
unfolding title
title_within m at song unicode {o} {p} h = pick_elim (λ (r : Reader (List ℕ)). r (bits_of m) at ≡ got o p → p ≤ 8 * length m) (eqb song 1) (λ _. basic (any_of 4 (bits_of m) at) refl) (λ _ e. none e)
  where
    none : got [] at ≡ got o p → p ≤ 8 * length m
    none e = let z : at ≡ p = cc in rw (← z) h

    basic : (x : Got ℕ) → any_of 4 (bits_of m) at ≡ x → onward x (λ n q. text unicode n (bits_of m) q) bad ≡ got o p → p ≤ 8 * length m
    basic (got n q) y e = stays (text_exact unicode n) m q (rw (← length_bits_of m) (element_inside 4 (λ _. true) 0 (bits_of m) at y)) e
    basic (bad n q e') y e = let z : ◌≡◌ {A = ℕ} 0 1 = cc in absurd (omega arith)

-- ---- the title and the count

module _ (m : List ℕ) (at song : ℕ) (unicode : Bool) {s : Characters} (q : s ≡ characters_of (title song unicode (bits_of m) at)) where
  pub titled_bad : {r : Refusal} → s ≡ Err r → Err r ≡ opening_of (titled song unicode (bits_of m) at)
  unfolding titled
  titled_bad g = passed_on (λ t. octet_count (length t)) opening (title song unicode (bits_of m) at) (λ t p. counted song unicode t (bits_of m) p) (sym g ∙ q)

  module _ {v : Seen OctetCount} (g : s ≡ Ok v) where
    title_there : (t : List ℕ) × (title song unicode (bits_of m) at ≡ got t v.next.0) × (v.value ≡ octet_count (length t))
    title_there = seen_made (λ t. octet_count (length t)) (title song unicode (bits_of m) at) (sym g ∙ q)

    pub titled_within : Within m at → Within m v.next.0
    titled_within i = record { inside = title_within m at song unicode i.inside title_there.1; counted = i.counted }

    module _ {t : Step} (q' : t ≡ seen_of (any_of 8 (bits_of m) v.next.0)) where
      pub titled_cut : {r : Refusal} → t ≡ Err r → Err r ≡ opening_of (titled song unicode (bits_of m) at)
      unfolding titled counted
      titled_cut g' = let b = cut_there 8 5 (leb 1) m v.next.0 q' g' in rw (title_there.1, b.there) (told_as b.number b.at b.told)

      module _ {n : Seen ℕ} (g' : t ≡ Ok n) where
        pub titled_zero : {e : Refusal} → e ≡ on NoPattern v.next.0 → n.value ≡ 0 → Err e ≡ opening_of (titled song unicode (bits_of m) at)
        unfolding titled counted
        titled_zero e h = rw (e, title_there.1, bad_there 8 5 (leb 1) m v.next.0 q' g' (rw h refl))

        pub titled_good : (n.value ≡ 0 → ⊥) → read (opened song v.value n.value unicode) n.next.0 ≡ opening_of (titled song unicode (bits_of m) at)
        unfolding titled counted
        titled_good h = rw (title_there.1, good_there 8 5 (leb 1) m v.next.0 q' g' (le-leb 1 n.value (omega arith))) (ap (λ (x : OctetCount). read (opened song x n.value unicode) n.next.0) title_there.2)

-- ---- the whole front

module _ (m : List ℕ) (at : ℕ) {c : Called} (q : c ≡ seen_of (command (bits_of m) at)) where
  pub front_bad : {r : Refusal} → c ≡ Err r → Err r ≡ opening_of (front (bits_of m) at)
  unfolding front
  front_bad g = passed_on (λ v. v) opening (command (bits_of m) at) (λ u p. typed u (bits_of m) p) (sym g ∙ q)

  module _ {u : Seen Bool} (g : c ≡ Ok u) where
    command_there : command (bits_of m) at ≡ got u.value u.next.0
    command_there = seen_there (command (bits_of m) at) (sym g ∙ q)

    module _ {s : Step} (q' : s ≡ seen_of (any_of 3 (bits_of m) u.next.0)) where
      pub front_cut : {r : Refusal} → s ≡ Err r → Err r ≡ opening_of (front (bits_of m) at)
      unfolding front typed
      front_cut g' = let b = cut_there 3 4 (either 1 2) m u.next.0 q' g' in rw (command_there, b.there) (told_as b.number b.at b.told)

      module _ {v : Seen ℕ} (g' : s ≡ Ok v) where
        other_song : {e : Refusal} → e ≡ on SongType u.next.0 → either 1 2 v.value ≡ false → Err e ≡ opening_of (front (bits_of m) at)
        unfolding front typed
        other_song e h = rw (e, command_there, bad_there 3 4 (either 1 2) m u.next.0 q' g' h)

        pub front_none : {e : Refusal} → e ≡ on SongType u.next.0 → v.value ≡ 0 → Err e ≡ opening_of (front (bits_of m) at)
        front_none e h = other_song e (rw h refl)

        pub front_above : {e : Refusal} → e ≡ on SongType u.next.0 → 2 < v.value → Err e ≡ opening_of (front (bits_of m) at)
        front_above e h = other_song e (is_neither 1 2 v.value (λ k. omega arith) (λ k. omega arith))

        pub front_titled : {o : Result (Seen Opening) Refusal} → (v.value ≡ 0 → ⊥) → v.value ≤ 2 → o ≡ opening_of (titled v.value u.value (bits_of m) v.next.0) → o ≡ opening_of (front (bits_of m) at)
        unfolding front typed
        front_titled h k e = rw (command_there, good_there 3 4 (either 1 2) m u.next.0 q' g' (one_or_two v.value h k)) e

-- ---- the end

-- the octets that reach the place are y, and they end at x
module _ (m : List ℕ) (at : ℕ) {x y : ℕ} (ex : x ≡ place_after y) (ey : y ≡ octets_to at) where
  width_is : x - at ≡ filler_to at
  width_is = rw (ex, ey) refl

  pub ending_aligned : {s : Step} → x - at ≡ 0 → Within m at → s ≡ seen_of (element 8 (eqb 0) (number_of EndOctet) (bits_of m) at) → s ≡ seen_of (ending (bits_of m) at)
  unfolding ending field
  ending_aligned z i q =
      let f : filler_to at ≡ 0 = sym width_is ∙ z in
      let n : at + 0 ≡ at = add-zero at in
      let g : element 0 (eqb 0) 8 (bits_of m) at ≡ got 0 (at + 0) = element_good 0 (eqb 0) 8 (bits_of m) at (rw (n, length_bits_of m) i.inside) refl in
      rw (f, g, n) q

  module _ {s : Step} (q : s ≡ seen_of (element (x - at) (eqb 0) (number_of Filler) (bits_of m) at)) where
    run : s ≡ seen_of (element (filler_to at) (eqb 0) 8 (bits_of m) at)
    run = q ∙ ap (λ (w : ℕ). seen_of (element w (eqb 0) 8 (bits_of m) at)) width_is

    pub ending_bad : {r : Refusal} → s ≡ Err r → Err r ≡ seen_of (ending (bits_of m) at)
    unfolding ending
    ending_bad g = let b = seen_bad (λ v. v) (element (filler_to at) (eqb 0) 8 (bits_of m) at) (sym g ∙ run) in rw b.there (told_as b.number b.at b.told)

    pub ending_next : {v : Seen ℕ} {t : Step} → s ≡ Ok v → t ≡ seen_of (element 8 (eqb 0) (number_of EndOctet) (bits_of m) v.next.0) → t ≡ seen_of (ending (bits_of m) at)
    unfolding ending
    ending_next g k = let b = seen_there (element (filler_to at) (eqb 0) 8 (bits_of m) at) (sym g ∙ run) in rw b k

-- both told at once: the bits through the first whole octet, which y octets reach, are zeros
module _ (m : List ℕ) (at : ℕ) {x y : ℕ} (ey : y ≡ octets_to at) (hy : y < length m) (s : Sight (filler_to at + 8) (drop at (bits_of m)) x) (z : x ≡ 0) where
  zeros : (o w number : ℕ) → o + w ≤ filler_to at + 8 → element w (eqb 0) number (bits_of m) (at + o) ≡ got 0 (at + o + w)
  zeros o w number h =
      let k : at + o + w ≤ length (bits_of m) = rw (length_bits_of m) (omega arith) in
      let e : field (bits_of m) (at + o) w ≡ 0 = sym (field_drop (bits_of m) at o w) ∙ sight_zero o w s z h (rw (length_left_lem m at) (omega arith)) in
      rw (element_good w (eqb 0) number (bits_of m) (at + o) k (rw e refl), e)

  pub ending_told : {p : ℕ} → p ≡ place_after (y + 1) → read 0 p ≡ seen_of (ending (bits_of m) at)
  unfolding ending
  ending_told {p} ep =
      let f = filler_to at in
      let r : element f (eqb 0) 8 (bits_of m) at ≡ got 0 (at + f) = rw (add-zero at) at (zeros 0 f 8 (omega arith)) in
      let e : p ≡ at + f + 8 = omega arith in
      rw (r, zeros f 8 9 (omega arith)) (ap (λ (q : ℕ). read 0 q) e)

pub ruleset commands = (element_within, filled_bad, filled_next, filled_within, sound_bad, sound_good, parts_bad, parts_plain, parts_unicode_bad, parts_unicode, any_within, command_cut, command_two, command_three, command_other, command_plain)

pub ruleset titles = (any_within, title_none, title_short, title_cut, title_text, titled_bad, titled_within, titled_cut, titled_zero, titled_good)

pub ruleset fronts = (any_within, command_within, front_bad, front_cut, front_none, front_above, front_titled)

pub ruleset endings = (element_within, ending_aligned, ending_bad, ending_next)

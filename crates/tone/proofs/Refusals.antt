-- Refusals are where they should be.
use Prim.Native.Nat.{ℕ, zero, suc, ◌+◌, ◌-◌, ◌*◌, ◌/◌, ◌≤◌, ◌<◌}
use native.Mathlib.Omega.{arith}
use native.Mathlib.Nat.{suc-mul}
use mathlib.Core.Path.{◌≡◌, refl, sym, ap, subst, ◌∙◌}
use mathlib.Core.Logic.{◌⊎◌, inl, inr, ⊎_elim, ◌↔◌}
use mathlib.Core.Bool.{Bool, true, false}
use mathlib.Core.List.{List, [], ◌++◌, append-nil}
use lib.ListN.{length, drop, take, take-append-drop}
use lib.Seq.{take_at, length-take-le}
use borrow.Author.Tests.{le-ltb, lt-ltb, ne_eqb}
use Rattle.bits.specs.Bits.{bits_of, field, Octets, place_after}
use Rattle.bits.specs.Outcome.{accepted, refused}
use Rattle.bits.proofs.Octets.{length_bits_of, bits_of_append, drop_bits_of, octets_take}
use Rattle.tone.specs.Tone.{Tone, character_bits, allowed_character, Formed}
use Rattle.tone.specs.Writing.{tone_bits, tone_length, tone_octets, most_octets, WellFormed}
use Rattle.tone.specs.Reading.{Got, got, bad, any_of, command, song_type, character, text, title, titled, typed, front, whole_tone, read_tone}
use Rattle.tone.proofs.Exact.{element_good, element_bad}
use Rattle.tone.proofs.Rows.{whole_exact}
use Rattle.tone.proofs.Grounds.{AtFault, at_fault, Among, fault_number}
use Rattle.tone.proofs.Demand2.{Says, Cut, Followed, read_says, bits_from_start, core_reads, core_alone, bits_accepted, read_formed, accepted_is_written, written_is_accepted, length_tone_bits, length_tone_octets}

-- the outcome that a refusal comes from
refusal_says : (m : List ℕ) {n p : ℕ} → read_tone m ≡ refused n p → ((n ≡ 1) × (p ≡ 0) × (most_octets < length m)) ⊎ (Cut m n p ⊎ Followed m n p)
refusal_says m {n} {p} q = subst (Says m) q (read_says m)

-- no place is past the last bit that a message can have
pub place_most : (m : List ℕ) (n p : ℕ) → read_tone m ≡ refused n p → p ≤ 8 * most_octets
place_most m n p q = ⊎_elim (λ w. omega (arith, w.1)) (λ w. ⊎_elim cut followed w) (refusal_says m q)
  where
    cut : Cut m n p → p ≤ 8 * most_octets
    cut c = omega (arith, (whole_exact.refusal (bits_of m) 0 (omega arith) c.refuses).inside, length_bits_of m, c.bound)

    followed : Followed m n p → p ≤ 8 * most_octets
    followed f = omega (arith, (whole_exact.sound (bits_of m) 0 (omega arith) f.reads).inside, length_bits_of m, f.bound)

-- 1 first: a message above 4,096 octets, whatever stands in it
pub long_first : (m : List ℕ) → most_octets < length m → read_tone m ≡ refused 1 0
unfolding read_tone
long_first m h = rw (lt-ltb most_octets (length m) h)

-- ---- 2 to 9 and 21: the element at fault

-- where an element at fault ends, as the rules say it; 0 where none is
abbrev pub end_in : Got Tone → ℕ
end_in (got t p) = 0
end_in (bad n p e) = e

-- where the element of a message ends that it is refused for
abbrev pub fault_end : List ℕ → ℕ
fault_end m = end_in (whole_tone (bits_of m) 0)

-- a refusal of an element: it begins within the message or where that stops, and place and end are those of the rules
pub record OfElement (m : List ℕ) (n p : ℕ) : Type 0 where
  pub bound : length m ≤ most_octets
  pub inside : p ≤ length (bits_of m)
  pub rules : whole_tone (bits_of m) 0 ≡ bad n p (fault_end m)
  pub element : AtFault (bits_of m) n p (fault_end m)

-- for 2 to 9 and 21: the bits from the place to the end are the element at fault
pub refused_element : (m : List ℕ) (n p : ℕ) → Among 2 9 n → read_tone m ≡ refused n p → OfElement m n p
refused_element m n p a q =
    ⊎_elim (λ w. absurd (⊎_elim (λ b. omega (arith, w.0, b.0)) (λ b. omega (arith, w.0)) a))
    (λ w. ⊎_elim cut (λ f. absurd (⊎_elim (λ b. omega (arith, f.ten, b.1)) (λ b. omega (arith, f.ten)) a)) w)
    (refusal_says m q)
  where
    cut : Cut m n p → OfElement m n p
    cut c =
        let e : c.end ≡ fault_end m = sym (ap end_in c.refuses) in
        let r : whole_tone (bits_of m) 0 ≡ bad n p (fault_end m) = c.refuses ∙ ap (λ (x : ℕ). bad n p x) e in
        record { bound = c.bound; inside = (whole_exact.refusal (bits_of m) 0 (omega arith) c.refuses).inside; rules = r; element = at_fault (bits_of m) r }

-- for 3 to 9 and 21: the element is whole, and every message that shares the bits up to its end is refused alike
pub record Faulty (m : List ℕ) (n p : ℕ) : Type 0 where
  pub element : AtFault (bits_of m) n p (fault_end m)
  pub whole : fault_end m ≤ length (bits_of m)
  pub alike : (m' : List ℕ) → length m' ≤ most_octets → fault_end m ≤ length (bits_of m') → take (fault_end m) (bits_of m') ≡ take (fault_end m) (bits_of m) → read_tone m' ≡ refused n p

-- so it is
pub refused_alike : (m : List ℕ) (n p : ℕ) → Among 3 9 n → read_tone m ≡ refused n p → Faulty m n p
unfolding read_tone
refused_alike m n p a q =
    let r = refused_element m n p (⊎_elim (λ b. inl (omega (arith, b.0), b.1)) (λ b. inr b) a) q in
    let s = whole_exact.refusal (bits_of m) 0 (omega arith) r.rules in
    let two : n ≡ 2 → ⊥ = λ e. ⊎_elim (λ b. omega (arith, b.0)) (λ b. omega arith) a in
    record {
      element = r.element;
      whole = s.whole two;
      alike = λ m' b l t. rw (le-ltb most_octets (length m') b, s.alike two (bits_of m') l t);
    }

-- so no well-formed message begins with those bits
pub none_begins : (m : List ℕ) (n p : ℕ) → Among 3 9 n → read_tone m ≡ refused n p → (t : Tone) → WellFormed t → fault_end m ≤ length (bits_of (tone_octets t))
    → take (fault_end m) (bits_of (tone_octets t)) ≡ take (fault_end m) (bits_of m) → ⊥
none_begins m n p a q t w l s =
    let f = refused_alike m n p a q in
    let short : length (tone_octets t) ≤ most_octets = rw (length_tone_octets t) w.size in
    let e : accepted t ≡ refused n p = sym (written_is_accepted t w) ∙ f.alike (tone_octets t) short l s in
    let z : ◌≡◌ {A = ℕ} 0 1 = cc in
    omega arith

-- ---- 21: a title's character

-- the first i characters at a place are there and allowed
abbrev pub Passed : List Bool → ℕ → ℕ → ℕ → Type 0
Passed l at w i = (j : ℕ) → j < i → (at + j * w + w ≤ length l) × (allowed_character (field l (at + j * w) w) ≡ true)

-- behind those the next is refused once it is complete, whatever follows it
text_refused : (unicode : Bool) (n i : ℕ) (l : List Bool) (at : ℕ) → let w = character_bits unicode in i < n → Passed l at w i → at + i * w + w ≤ length l
    → allowed_character (field l (at + i * w) w) ≡ false → text unicode n l at ≡ bad 21 (at + i * w) (at + i * w + w)
unfolding text character
text_refused u zero i l at h p k f = let z : ⊥ = omega arith in absurd z
text_refused u (suc n) zero l at h p k f =
    let w = character_bits u in
    let z : at + 0 * w ≡ at = omega arith in
    rw (z, element_bad w allowed_character 21 l at (rw z at k) (rw z at f))
text_refused u (suc n) (suc i) l at h p k f =
    let w = character_bits u in
    let z : at + 0 * w ≡ at = omega arith in
    let first = p 0 (omega arith) in
    let on : (j : ℕ) → at + w + j * w ≡ at + suc j * w = λ j. omega (arith, suc-mul j w) in
    let rest : Passed l (at + w) w i = λ j g. rw (on j) (p (suc j) (omega arith)) in
    let e = text_refused u n i l (at + w) (omega arith) rest (rw (on i) k) (rw (on i) f) in
    rw (element_good w allowed_character 21 l at (rw z at first.0) (rw z at first.1), e, on i)

-- so the first character of a basic song's title that is not allowed is refused with 21 at its place
pub refused_character : (m : List ℕ) (unicode : Bool) (n i : ℕ) {p : ℕ} → let w = character_bits unicode in length m ≤ most_octets → command (bits_of m) 0 ≡ got unicode p → song_type (bits_of m) p ≡ got 1 (p + 3)
    → any_of 4 (bits_of m) (p + 3) ≡ got n (p + 7) → i < n → Passed (bits_of m) (p + 7) w i → p + 7 + i * w + w ≤ length (bits_of m) → allowed_character (field (bits_of m) (p + 7 + i * w) w) ≡ false
    → read_tone m ≡ refused 21 (p + 7 + i * w)
unfolding read_tone whole_tone front typed titled title
refused_character m unicode n i {p} b c s a h q k f = rw (le-ltb most_octets (length m) b, c, s, a, text_refused unicode n i (bits_of m) (p + 7) h q k f)

-- ---- 10: what follows the end

-- the first octets of a message are a message of their own, which ends at p, and more octets follow them
pub record GoesOn (m : List ℕ) (p : ℕ) : Type 0 where
  pub own : ℕ
  pub tone : Tone
  pub reads : read_tone (take own m) ≡ accepted tone
  pub place : p ≡ place_after own
  pub more : own < length m
  pub bound : length m ≤ most_octets

-- the bits of the first octets
bits_of_own : (k : ℕ) (m : List ℕ) → bits_of m ≡ bits_of (take k m) ++ drop (8 * k) (bits_of m)
bits_of_own k m = ap bits_of (sym (take-append-drop k m)) ∙ bits_of_append (take k m) (drop k m) ∙ ap (λ (x : List Bool). bits_of (take k m) ++ x) (sym (drop_bits_of k m))

-- a message is refused with 10 at p exactly if its octets up to p are accepted by themselves and more follow
pub ten_exactly : (m : List ℕ) (p : ℕ) → (read_tone m ≡ refused 10 p) ↔ GoesOn m p
unfolding read_tone
ten_exactly m p = (λ q. to q, from)
  where
    follows : Followed m 10 p → GoesOn m p
    follows f =
        let t = f.tone in
        let c = core_reads m f.reads in
        let k = tone_length t in
        let l : length (bits_of (take k m)) ≡ 8 * k = length_bits_of (take k m) ∙ ap (λ (x : ℕ). 8 * x) (length-take-le k m (omega (arith, c.1, c.2))) in
        let b : bits_of (take k m) ≡ tone_bits t =
        sym (take_at (bits_of (take k m)) (drop (8 * k) (bits_of m)) (8 * k) l) ∙ ap (take (8 * k)) (sym (bits_of_own k m) ∙ c.3) ∙ take_at (tone_bits t) (drop p (bits_of m)) (8 * k) (length_tone_bits t) in
        record {
          own = k;
          tone = t;
          reads = bits_accepted (take k m) t c.0 (rw (length-take-le k m (omega (arith, c.1, c.2))) (omega (arith, c.1, c.2, f.bound))) b;
          place = c.1;
          more = let n = f.more in omega (arith, c.1, c.2);
          bound = f.bound;
        }

    to : read_tone m ≡ refused 10 p → GoesOn m p
    to q =
        ⊎_elim (λ w. let z : ⊥ = omega (arith, w.0) in absurd z)
        (λ w. ⊎_elim (λ c. absurd (⊎_elim (λ b. omega (arith, b.1)) (λ b. omega (arith, b)) (fault_number (at_fault (bits_of m) c.refuses)))) follows w)
        (refusal_says m q)

    from : GoesOn m p → read_tone m ≡ refused 10 p
    from g =
        let t = g.tone in
        let r = read_formed (take g.own m) t g.reads in
        let k : tone_length t ≡ g.own = omega (arith, sym (length_tone_bits t) ∙ ap length (sym r.1) ∙ length_bits_of (take g.own m), length-take-le g.own m (omega (arith, g.more))) in
        let w = core_alone m t (drop (8 * g.own) (bits_of m)) r.0 (bits_of_own g.own m ∙ ap (λ (x : List Bool). x ++ drop (8 * g.own) (bits_of m)) r.1) in
        let n : 8 * tone_length t ≡ 8 * length m → ⊥ = λ e. omega (arith, g.more) in
        rw (le-ltb most_octets (length m) g.bound, w, ne_eqb (8 * tone_length t) (8 * length m) n, g.place, k)

-- so every longer message that begins with the same octets is refused alike
pub ten_alike : (m : List ℕ) (p : ℕ) → read_tone m ≡ refused 10 p → (m' : List ℕ) → take (p / 8) m' ≡ take (p / 8) m → p / 8 < length m' → length m' ≤ most_octets → read_tone m' ≡ refused 10 p
ten_alike m p q m' e h b =
    let g = (ten_exactly m p).0 q in
    let k : g.own ≡ p / 8 = omega (arith, g.place) in
    (ten_exactly m' p).1 (record { own = p / 8; tone = g.tone; reads = ap read_tone e ∙ ap (λ (x : ℕ). read_tone (take x m)) (sym k) ∙ g.reads; place = rw (← k) g.place; more = h; bound = b })

-- and those octets are the writing of a well-formed tone
pub ten_own : (m : List ℕ) (p : ℕ) → Octets m → read_tone m ≡ refused 10 p → (t : Tone) × WellFormed t × (tone_octets t ≡ take (p / 8) m)
ten_own m p o q =
    let g = (ten_exactly m p).0 q in
    let k : g.own ≡ p / 8 = omega (arith, g.place) in
    let w = accepted_is_written (take g.own m) g.tone (octets_take g.own m o) g.reads in
    (g.tone, w.0, w.1 ∙ ap (λ (x : ℕ). take x m) k)

-- ---- ahead of the place

-- the bits ahead of the place begin the writing of some tone that document 01 allows, its bound on octets aside
pub record Ahead (m : List ℕ) (p : ℕ) : Type 0 where
  pub tone : Tone
  pub formed : Formed tone
  pub rest : List Bool
  pub begins : tone_bits tone ≡ take p (bits_of m) ++ rest

-- so they do
pub ahead_begins : (m : List ℕ) (n p : ℕ) → read_tone m ≡ refused n p → Ahead m p
ahead_begins m n p q =
    ⊎_elim (λ w. any w.1) (λ w. ⊎_elim cut followed w) (refusal_says m q)
  where
    any : p ≡ 0 → Ahead m p
    any e = let s = whole_exact.some in record { tone = s.0; formed = s.1; rest = tone_bits s.0; begins = rw e refl }

    cut : Cut m n p → Ahead m p
    cut c =
        let b = (whole_exact.refusal (bits_of m) 0 (omega arith) c.refuses).begun in
        let e : p - 0 ≡ p = omega arith in
        record { tone = b.value; formed = b.good; rest = b.rest; begins = sym (bits_from_start b.value) ∙ b.begins ∙ ap (λ (x : ℕ). take x (bits_of m) ++ b.rest) e }

    followed : Followed m n p → Ahead m p
    followed f =
        let c = core_reads m f.reads in
        let e : take p (bits_of m) ≡ tone_bits f.tone = ap (take p) c.3 ∙ take_at (tone_bits f.tone) (drop p (bits_of m)) p (length_tone_bits f.tone ∙ sym c.1) in
        record { tone = f.tone; formed = c.0; rest = []; begins = sym e ∙ sym (append-nil (take p (bits_of m))) }

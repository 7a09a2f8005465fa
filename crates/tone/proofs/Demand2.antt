-- Demand 2 of the rules: a message is accepted exactly if it is the writing of a well-formed tone.
use Prim.Native.Nat.{ℕ, ◌+◌, ◌*◌, ◌≤◌, ◌<◌}
use native.Mathlib.Omega.{arith}
use native.Mathlib.Nat.{zero-add}
use mathlib.Core.Path.{◌≡◌, refl, sym, ap, subst, ◌∙◌}
use mathlib.Core.Logic.{◌⊎◌, inl, inr, ◌↔◌}
use mathlib.Core.Bool.{Bool, false}
use mathlib.Core.List.{List, [], ◌++◌, append-nil}
use lib.ListN.{length, drop, length-append, length-replicate, drop_of_length-le}
use lib.Dec.{ltb, eqb}
use borrow.Author.Tests.{ltb-false, ltb-true, eqb-true, eqb-false, le-ltb, eq-eqb}
use Rattle.bits.specs.Bits.{bits_of, Octets, filler_to}
use Rattle.bits.specs.Outcome.{Outcome, accepted, refused}
use Rattle.bits.proofs.Choice.{pick_elim}
use Rattle.bits.proofs.Octets.{length_bits_of, bits_of_append, bits_octets, octets_bits, octets_octets, length_octets}
use Rattle.tone.specs.Tone.{Tone, Formed}
use Rattle.tone.specs.Writing.{song_bits, end_bits, tone_bits, tone_length, tone_octets, most_octets, WellFormed}
use Rattle.tone.specs.Reading.{Got, got, bad, whole_tone, nothing_more, read_tone}
use Rattle.tone.proofs.Rows.{bits_from, whole_exact}

-- ---- a tone's bits and octets

pub bits_from_start : (t : Tone) → bits_from 0 t ≡ tone_bits t
unfolding tone_bits
bits_from_start t = ap (λ (n : ℕ). song_bits t ++ end_bits n) (zero-add (length (song_bits t)))

pub length_tone_bits : (t : Tone) → length (tone_bits t) ≡ 8 * tone_length t
unfolding tone_bits
length_tone_bits t =
    let n = length (song_bits t) in
    length-append (song_bits t) (end_bits n) ∙ ap (λ (x : ℕ). n + x) (length-replicate (filler_to n + 8) false) ∙ omega arith

pub length_tone_octets : (t : Tone) → length (tone_octets t) ≡ tone_length t
unfolding tone_octets
length_tone_octets t = length_octets (tone_length t) (tone_bits t)

pub bits_tone_octets : (t : Tone) → bits_of (tone_octets t) ≡ tone_bits t
unfolding tone_octets
bits_tone_octets t = bits_octets (tone_length t) (tone_bits t) (length_tone_bits t)

pub octets_tone_octets : (t : Tone) → Octets (tone_octets t)
unfolding tone_octets
octets_tone_octets t = octets_octets (tone_length t) (tone_bits t) (length_tone_bits t)

-- octets with a tone's bits are its message
pub octets_are : (m : List ℕ) (t : Tone) → Octets m → bits_of m ≡ tone_bits t → tone_octets t ≡ m
unfolding tone_octets
octets_are m t o e =
    let n : length m ≡ tone_length t = omega (arith, sym (length_bits_of m) ∙ ap length e ∙ length_tone_bits t) in
    rw (← e, ← n) (octets_bits m o)

-- ---- the core, which does not depend on what follows its end octet

-- what the core reads is the writing of a tone, and it stops where that ends
pub core_reads : (m : List ℕ) {t : Tone} {p : ℕ} → whole_tone (bits_of m) 0 ≡ got t p
    → Formed t × (p ≡ 8 * tone_length t) × (p ≤ 8 * length m) × (bits_of m ≡ tone_bits t ++ drop p (bits_of m))
core_reads m {t} {p} q =
    let s = whole_exact.sound (bits_of m) 0 (omega arith) q in
    let b = bits_from_start t in (
      s.good,
      s.end ∙ zero-add (length (bits_from 0 t)) ∙ ap length b ∙ length_tone_bits t,
      rw (← length_bits_of m) s.inside,
      s.here ∙ ap (λ (x : List Bool). x ++ drop p (bits_of m)) b,
    )

-- a tone's own bits are enough, whatever follows them
pub core_alone : (m : List ℕ) (t : Tone) (rest : List Bool) → Formed t → bits_of m ≡ tone_bits t ++ rest → whole_tone (bits_of m) 0 ≡ got t (8 * tone_length t)
core_alone m t rest f e =
    let b = bits_from_start t in
    whole_exact.complete (bits_of m) 0 t rest (omega arith) f (rw b e)
    ∙ ap (λ (n : ℕ). got t n) (zero-add (length (bits_from 0 t)) ∙ ap length b ∙ length_tone_bits t)

-- the same, of octets: an accepted message is accepted by its own octets alone
pub own_octets : (t : Tone) (more : List ℕ) → Formed t → whole_tone (bits_of (tone_octets t ++ more)) 0 ≡ got t (8 * tone_length t)
own_octets t more f = core_alone (tone_octets t ++ more) t (bits_of more) f (bits_of_append (tone_octets t) more ∙ ap (λ (x : List Bool). x ++ bits_of more) (bits_tone_octets t))

-- ---- what an outcome of reading says

pub record Cut (m : List ℕ) (n p : ℕ) : Type 0 where
  pub bound : length m ≤ most_octets
  pub end : ℕ
  pub refuses : whole_tone (bits_of m) 0 ≡ bad n p end

pub record Followed (m : List ℕ) (n p : ℕ) : Type 0 where
  pub bound : length m ≤ most_octets
  pub ten : n ≡ 10
  pub tone : Tone
  pub reads : whole_tone (bits_of m) 0 ≡ got tone p
  pub more : p ≡ 8 * length m → ⊥

abbrev pub Says : List ℕ → Outcome Tone → Type 0
Says m (accepted t) = (length m ≤ most_octets) × (whole_tone (bits_of m) 0 ≡ got t (8 * length m))
Says m (refused n p) = ((n ≡ 1) × (p ≡ 0) × (most_octets < length m)) ⊎ (Cut m n p ⊎ Followed m n p)

pub read_says : (m : List ℕ) → Says m (read_tone m)
unfolding read_tone
read_says m =
    pick_elim (Says m) (ltb most_octets (length m)) (λ h. inl (refl, refl, ltb-true most_octets (length m) h))
    (λ h. core (ltb-false most_octets (length m) h) (whole_tone (bits_of m) 0) refl)
  where
    core : length m ≤ most_octets → (g : Got Tone) → whole_tone (bits_of m) 0 ≡ g → Says m (nothing_more (8 * length m) g)
    core b (got t p) q =
        pick_elim (Says m) (eqb p (8 * length m))
        (λ h. (b, q ∙ ap (λ (x : ℕ). got t x) (eqb-true p (8 * length m) h)))
        (λ h. inr (inr (record { bound = b; ten = refl; tone = t; reads = q; more = eqb-false p (8 * length m) h })))
    core b (bad n p e) q = inr (inl (record { bound = b; end = e; refuses = q }))

-- ---- demand 2

-- a message that reads is a tone that document 01 allows, and its bits are that tone's
pub read_formed : (m : List ℕ) (t : Tone) → read_tone m ≡ accepted t → Formed t × (bits_of m ≡ tone_bits t)
read_formed m t q =
    let s : Says m (accepted t) = subst (Says m) q (read_says m) in
    let c = core_reads m s.1 in
    (c.0, c.3 ∙ ap (λ (x : List Bool). tone_bits t ++ x) (drop_of_length-le (bits_of m) {i = 8 * length m} (omega (arith, length_bits_of m))) ∙ append-nil (tone_bits t))

-- what is accepted is a well-formed tone
pub read_well_formed : (m : List ℕ) (t : Tone) → read_tone m ≡ accepted t → WellFormed t
read_well_formed m t q =
    let s : Says m (accepted t) = subst (Says m) q (read_says m) in
    record { formed = (read_formed m t q).0; size = omega (arith, (core_reads m s.1).1, s.0) }

-- and the message is its writing
pub accepted_is_written : (m : List ℕ) (t : Tone) → Octets m → read_tone m ≡ accepted t → WellFormed t × (tone_octets t ≡ m)
accepted_is_written m t o q = (read_well_formed m t q, octets_are m t o (read_formed m t q).1)

-- a message whose bits are those of a tone is accepted as that tone
pub bits_accepted : (m : List ℕ) (t : Tone) → Formed t → length m ≤ most_octets → bits_of m ≡ tone_bits t → read_tone m ≡ accepted t
unfolding read_tone
bits_accepted m t f h e =
    let n : 8 * tone_length t ≡ 8 * length m = sym (sym (length_bits_of m) ∙ ap length e ∙ length_tone_bits t) in
    rw (le-ltb most_octets (length m) h, core_alone m t [] f (e ∙ sym (append-nil (tone_bits t))), eq-eqb (8 * tone_length t) (8 * length m) n)

-- the writing of a well-formed tone is accepted, as that tone
pub written_is_accepted : (t : Tone) → WellFormed t → read_tone (tone_octets t) ≡ accepted t
written_is_accepted t w = bits_accepted (tone_octets t) t w.formed (rw (length_tone_octets t) w.size) (bits_tone_octets t)

-- a message is accepted as t exactly if t is well formed and the message is its writing
pub accepted_exactly : (m : List ℕ) (t : Tone) → Octets m → (read_tone m ≡ accepted t) ↔ (WellFormed t × (tone_octets t ≡ m))
accepted_exactly m t o = (accepted_is_written m t o, λ w. rw (← w.1) (written_is_accepted t w.0))

-- two well-formed tones with one writing are one tone
pub one_tone : (t t' : Tone) → WellFormed t → WellFormed t' → tone_octets t ≡ tone_octets t' → t ≡ t'
one_tone t t' w w' e =
    let q : accepted t ≡ accepted t' = sym (written_is_accepted t w) ∙ ap read_tone e ∙ written_is_accepted t' w' in
    cc

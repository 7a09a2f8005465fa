-- What each return of `judge_inside` and `put_number` shows.
use Prim.Native.Nat.{ℕ, suc, ◌+◌, ◌-◌, ◌≤◌, ◌<◌}
use native.Mathlib.Omega.{arith}
use native.Mathlib.Numerals.{add-one}
use mathlib.Core.Path.{◌≡◌, refl, sym, ap, ◌∙◌}
use mathlib.Core.List.{List}
use lib.ListN.{length, take, drop, set, length-set}
use Rattle.bits.specs.Bits.{place_after}
use Rattle.std.specs.Prelude.{Option, Some, Result, Ok, Err}
use Rattle.bits.specs.Outcome.{refused}
use Rattle.bits.specs.Refusals.{number_of}
use Rattle.bits.specs.declared.refusal.Refusal.{Refusal}
use Rattle.bits.proofs.Refusals.{grounded}
use Rattle.bits.specs.Places.{place}
use Rattle.bits.specs.declared.BitPlace.{BitPlace}
use Rattle.bits.specs.declared.OctetCount.{OctetCount}
use Rattle.tone.specs.Tone.{Tone, front_of}
use Rattle.tone.specs.Writing.{front_bits}
use Rattle.tone.specs.Reading.{got, read_tone, tone_at}
use Rattle.tone.proofs.Refusals.{place_most}
use Rattle.tone.proofs.Numbered.{tone_numbered}
use Rattle.tone.proofs.Stretch.{stretch_reads}
use Rattle.tone.proofs.Standing.{at_stands, stands_read}
use Rattle.tone_sound.specs.Answers.{octets_or_none}
use Rattle.tone_sound.proofs.Counts.{octets_are}
use Rattle.tone_judge.specs.declared.Judged.{Judged}
use Rattle.tone_judge.specs.Answers.{plainly, judged, judged_of}
use Rattle.inside.specs.Inside.{moved_by}
use Rattle.inside.specs.Answers.{inside_of}
use Rattle.inside.proofs.Answered.{refusal_there, accepted_there}

-- ---- a message in its place

-- a tone that fills a stretch is what reading the stretch accepts
pub inside_filled : (m : List ℕ) (s e : ℕ) {n : ℕ} → n ≡ tone_at m s → n ≡ e - s → s < e → e ≤ length m → e - s ≤ 4096 → Ok tt ≡ inside_of (moved_by s (read_tone (take (e - s) (drop s m))))
inside_filled m s e {n} q f i k l =
    let a = at_stands m s (omega arith) (omega (arith, q)) in
    let z : s + tone_at m s ≡ e = omega (arith, q) in
    rw (stretch_reads m s e (omega arith) k l (stands_read m s (omega arith) a ∙ ap (λ (x : ℕ). got a.tone (place_after x)) z)) refl

-- and so it is where it was told: it has one octet at least
pub inside_told : (m : List ℕ) (s e : ℕ) {r : Option OctetCount} {o : OctetCount} → r ≡ octets_or_none (tone_at m s) → r ≡ Some o → o.0 ≡ e - s → e ≤ length m → e - s ≤ 4096 → Ok tt ≡ inside_of (moved_by s (read_tone (take (e - s) (drop s m))))
inside_told m s e {r} {o} h q f k l =
    let z = octets_are (tone_at m s) (sym q ∙ h) in
    inside_filled m s e z.0 f (omega (arith, z.1, f)) k l

-- a tone as it is judged
abbrev as_judged : Tone → Judged
as_judged t = judged plainly (length (front_bits (front_of t))) t

module _ (m : List ℕ) (start : ℕ) {j : Result Judged Refusal} (q : j ≡ judged_of (read_tone m)) where
  pub inside_fine : {w : Judged} → j ≡ Ok w → Ok tt ≡ inside_of (moved_by start (read_tone m))
  inside_fine g = let a = accepted_there as_judged (read_tone m) (sym g ∙ q) in rw a.1 refl

  module _ {e : Refusal} (g : j ≡ Err e) where
    -- the refusal behind a fault
    fault_there : read_tone m ≡ refused (number_of e.why) e.place.0
    fault_there = refusal_there as_judged (read_tone m) (tone_numbered m) (sym g ∙ q)

    -- its place is within the most octets of a tone
    pub inside_short : e.place.0 ≤ 32768
    inside_short = place_most m (number_of e.why) e.place.0 fault_there

    pub inside_fault : {r : BitPlace} → r.0 ≡ place_after start + e.place.0 → Err (record { why = e.why; place = r }) ≡ inside_of (moved_by start (read_tone m))
    inside_fault {r} h = rw (fault_there, grounded e.why) (ap (λ (x : ℕ). Err (record { why = e.why; place = place x })) h)

pub ruleset insides = (inside_told, inside_fine, inside_short, inside_fault)

-- ---- two octets

pub second_there : (l : List ℕ) (i a : ℕ) → i + 2 ≤ length l → i + 1 < length (set l i a)
second_there l i a h = rw (length-set l i a) (omega arith)

pub second_put : (l : List ℕ) (i a b : ℕ) → set (set l i a) (i + 1) b ≡ set (set l i a) (suc i) b
second_put l i a b = ap (λ (k : ℕ). set (set l i a) k b) (add-one i)

pub ruleset pairs = (second_there, second_put)

-- Instructions that were told without a branch, where none of them is faulty and the end octet is left, are those that are due.
use Prim.Native.Nat.{ℕ, zero, suc, ◌+◌, ◌-◌, ◌*◌, ◌/◌, ◌%◌, ◌^◌, ◌≤◌, ◌<◌}
use native.Mathlib.Omega.{arith}
use native.Mathlib.Nat.{mul-one, mod-lt, mod-eq_of_lt, add-mul, mul_assoc, mod-add-div, add-mul-mod_self_left}
use mathlib.Core.Path.{◌≡◌, refl, sym, ap, subst, ◌∙◌}
use mathlib.Core.Bool.{Bool, true, false, ◌&&◌}
use mathlib.Core.List.{List}
use lib.ListN.{length, get_or, drop}
use lib.Dec.{leb, eqb}
use mir.Val.{Fits}
use mir.Syntax.{w32, w64}
use lib.Pow.{pow-add, pow_pos}
use borrow.Author.Tests.{eqb-true, eqb-false, ne_eqb, leb-true}
use Rattle.bits.specs.Choice.{pick}
use Rattle.bits.specs.Bits.{bits_of}
use Rattle.bits.specs.Window.{Sight}
use Rattle.bits.proofs.Choice.{both, pick_elim}
use Rattle.tone.specs.Table.{width}
use Rattle.tone.specs.Reading.{got, instruction_due}
use Rattle.tone_tell.specs.declared.Told.{Told}
use Rattle.tone_tell.specs.Answers.{ToldOf}
use Rattle.tone_tell.proofs.Packed.{bits_least}
use Rattle.tone_tell.specs.Telling.{kind_on, kind_bits, bits_on, note_on, begins, fault_on, behind, over}
use Rattle.tone_elements.specs.Answers.{seen_as, note_in}
use Rattle.tone_elements.proofs.Seeing.{OnTop, instruction_width, seen_note, seen_other}
use Rattle.tone_elements.proofs.Steps.{Step, read, seen_made}
use Rattle.tone_elements.proofs.Walks.{BodyWalk, body_begins, body_done, body_rest, goes_on, note_one, InSight, sight_begins, sight_near, sight_here, sight_next}

-- ---- one instruction

-- the widths of the packed number are those of the table, with the id
widths : (k : ℕ) → 1 ≤ k → k ≤ 5 → get_or kind_bits k 0 ≡ 3 + width k
unfolding width
widths zero h l = absurd (omega arith)
widths (suc zero) h l = refl
widths (suc (suc zero)) h l = refl
widths (suc (suc (suc zero))) h l = refl
widths (suc (suc (suc (suc zero)))) h l = refl
widths (suc (suc (suc (suc (suc zero))))) h l = refl
widths (suc (suc (suc (suc (suc (suc k)))))) h l = absurd (omega arith)

-- no fault: the test has passed
unmarked : (b : Bool) → ◌≡◌ {A = ℕ} (pick b 0 1) 0 → b ≡ true
unmarked true h = refl
unmarked false h = absurd (omega arith)

-- what the test says of a note
fine_note : (z : ℕ) → begins z ≡ true → z / 128 ≡ 1 → (z / 8 % 16 ≤ 12) × (z % 8 ≤ 5)
fine_note z g k =
    let b = both (leb (z / 8 % 16) 12) (leb (z % 8) 5) (sym (rw k refl) ∙ g) in
    (leb-true (z / 8 % 16) 12 b.0, leb-true (z % 8) 5 b.1)

-- and of another kind: it is an instruction, and no style 3
fine_other : (z : ℕ) → begins z ≡ true → (z / 128 ≡ 1 → ⊥) → (1 ≤ z / 128) × (z / 128 ≤ 5) × (z / 32 ≡ 15 → ⊥)
fine_other z g n = go (eqb (z / 128) 3) refl
  where
    left : pick (eqb (z / 128) 3) (leb (z / 32 % 4) 2) (leb 1 (z / 128) && leb (z / 128) 5) ≡ true
    left = sym (rw (ne_eqb (z / 128) 1 n) refl) ∙ g

    go : (t : Bool) → eqb (z / 128) 3 ≡ t → (1 ≤ z / 128) × (z / 128 ≤ 5) × (z / 32 ≡ 15 → ⊥)
    go true e =
        let k = eqb-true (z / 128) 3 e in
        let s = leb-true (z / 32 % 4) 2 (sym (rw e refl) ∙ left) in
        (omega arith, omega arith, λ y. omega (arith, y, s))
    go false e =
        let b = both (leb 1 (z / 128)) (leb (z / 128) 5) (sym (rw e refl) ∙ left) in
        let d = eqb-false (z / 128) 3 e in
        (leb-true 1 (z / 128) b.0, leb-true (z / 128) 5 b.1, λ y. d (omega (arith, y)))

-- an instruction without a fault is seen as it was told
pub told_seen : (at x : ℕ) → fault_on x ≡ 0 → OnTop at x (read (note_on x) (at + bits_on x))
unfolding fault_on note_on bits_on
told_seen at x f = go (eqb (kind_on x) 1) refl
  where
    fine : begins (x / 2 ^ 54) ≡ true
    fine = unmarked (begins (x / 2 ^ 54)) f

    kind : x / 2 ^ 54 / 128 ≡ x / 2 ^ 61
    kind = omega arith

    go : (t : Bool) → eqb (kind_on x) 1 ≡ t → OnTop at x (read (pick (eqb (kind_on x) 1) 1 0) (at + get_or kind_bits (kind_on x) 0))
    go true e =
        let k = eqb-true (kind_on x) 1 e in
        let a = fine_note (x / 2 ^ 54) fine (kind ∙ k) in
        let v : x / 2 ^ 57 % 16 ≤ 12 = omega (arith, a.0) in
        rw k (seen_note at x k v a.1)
    go false e =
        let n : x / 2 ^ 61 ≡ 1 → ⊥ = eqb-false (x / 2 ^ 61) 1 e in
        let a = fine_other (x / 2 ^ 54) fine (λ q. n (sym kind ∙ q)) in
        let low : 1 ≤ x / 2 ^ 61 = omega (arith, a.0) in
        let high : x / 2 ^ 61 ≤ 5 = omega (arith, a.1) in
        let w = widths (x / 2 ^ 61) low high in
        let h : at + 3 + width (x / 2 ^ 61) ≡ at + (3 + width (x / 2 ^ 61)) = omega arith in
        let m : width (x / 2 ^ 61) ≤ 14 = omega (arith, instruction_width (x / 2 ^ 61) low) in
        rw (e, w, ← h) (seen_other at x n (λ q. omega (arith, q, low)) high (λ q. a.2 (omega (arith, q))) (refl, m))

-- ---- what stands behind it

-- a remainder may be taken ahead of a product
mod_product : (y q n : ℕ) → y % n * q % n ≡ y * q % n
mod_product y q n =
    let e : y * q ≡ y % n * q + n * (y / n * q) =
    ap (λ (t : ℕ). t * q) (sym (mod-add-div y n)) ∙ add-mul (y % n) (n * (y / n)) q ∙ ap (λ (t : ℕ). y % n * q + t) (mul_assoc n (y / n) q) in
    sym (ap (λ (t : ℕ). t % n) e ∙ add-mul-mod_self_left (y % n * q) n (y / n * q))

-- taking one away after d bits is taking away d bits and its own
shifted_on : (x d y : ℕ) → y ≡ x * 2 ^ d % 2 ^ 64 → behind y ≡ x * 2 ^ (d + bits_on y) % 2 ^ 64
unfolding behind
shifted_on x d y e =
    ap (λ (t : ℕ). t * 2 ^ bits_on y % 2 ^ 64) e
    ∙ mod_product (x * 2 ^ d) (2 ^ bits_on y) (2 ^ 64)
    ∙ ap (λ (t : ℕ). t % 2 ^ 64) (mul_assoc x (2 ^ d) (2 ^ bits_on y) ∙ ap (λ (t : ℕ). x * t) (sym (pow-add 2 d (bits_on y))))

-- ---- as many as one sight holds

module _ (m : List ℕ) (at x : ℕ) (sees : Sight 57 (drop at (bits_of m)) x) where
  -- the walk over them: n are still to be told, from y, which is on top of what is left
  record Top (due : Step) (p y left c n : ℕ) : Type 0 where
    walk : BodyWalk m due p left c
    seen : InSight at p n
    top : y ≡ x * 2 ^ (p - at) % 2 ^ 64

  module _ {due : Step} {p y left c n : ℕ} (t : Top due p y left c (suc n)) (h : 0 < left) (f : fault_on y ≡ 0) (room : p + bits_on y + 8 ≤ 8 * length m) where
    small : y < 2 ^ 64
    small = rw t.top (mod-lt (x * 2 ^ (p - at)) (pow_pos 64))

    -- the next one is the one that is due: it has five bits or more, so that with the end octet it has the twelve that are looked at
    judged : read (note_on y) (p + bits_on y) ≡ seen_as note_in (instruction_due (bits_of m) p)
    judged =
        let s = subst (λ (z : ℕ). OnTop p z (read (note_on y) (p + bits_on y))) t.top (told_seen p y f) in
        s.due m (57 - (p - at)) (omega (arith, sight_near t.seen (omega arith))) (sight_here t.seen (omega arith) m t.walk.inside sees) (omega (arith, bits_least y small, room))

    got_there : (e : ℕ) × (instruction_due (bits_of m) p ≡ got e (p + bits_on y)) × (note_on y ≡ note_in e)
    got_there = seen_made note_in (instruction_due (bits_of m) p) judged

    one_more : Top due (p + bits_on y) (behind y) (left - 1) (c + note_on y) n
    one_more =
        let a = t.seen.behind in
        let e : p - at + bits_on y ≡ p + bits_on y - at = omega arith in
        let z : suc n - 1 ≡ n = omega arith in
        record {
          walk = goes_on t.walk h got_there.1 got_there.2 (rw got_there.2 (note_one got_there.0));
          seen = subst (λ (k : ℕ). InSight at (p + bits_on y) k) z (sight_next t.seen (omega arith) m t.walk.inside got_there.1);
          top = shifted_on x (p - at) y t.top ∙ ap (λ (d : ℕ). x * 2 ^ d % 2 ^ 64) e;
        }

  walk_told : (n : ℕ) {due : Step} {p y left c : ℕ} → Top due p y left c n → n ≤ left → over fault_on n y ≡ 0 → p + over bits_on n y + 8 ≤ 8 * length m
      → BodyWalk m due (p + over bits_on n y) (left - n) (c + over note_on n y)
  walk_told zero {due} {p} {y} {left} {c} t l f r =
      let e₁ : p ≡ p + 0 = omega arith in
      let e₂ : left ≡ left - 0 = omega arith in
      let e₃ : c ≡ c + 0 = omega arith in
      rw (← e₁, ← e₂, ← e₃) t.walk
  walk_told (suc n) {due} {p} {y} {left} {c} t l f r =
      let o = one_more t (omega arith) (omega arith) (omega arith) in
      let w = walk_told n o (omega arith) (omega arith) (omega arith) in
      let e₁ : p + bits_on y + over bits_on n (behind y) ≡ p + (bits_on y + over bits_on n (behind y)) = omega arith in
      let e₂ : left - 1 - n ≡ left - suc n = omega arith in
      let e₃ : c + note_on y + over note_on n (behind y) ≡ c + (note_on y + over note_on n (behind y)) = omega arith in
      rw (← e₁, ← e₂, ← e₃) w

-- no more notes than instructions
notes_told : (n y : ℕ) → over note_on n y ≤ n
unfolding note_on
notes_told zero y = omega arith
notes_told (suc n) y =
    let one : pick (eqb (kind_on y) 1) 1 0 ≤ 1 = pick_elim (λ (k : ℕ). k ≤ 1) (eqb (kind_on y) 1) (λ _. omega arith) (λ _. omega arith) in
    omega (arith, notes_told n (behind y))

-- a turn of k instructions
module _ {m : List ℕ} {due : Step} {p left c k x : ℕ} {t : Told} (w : BodyWalk m due p left c) (l : (1 ≤ k) × (k ≤ left) × (k ≤ 4)) (q : ToldOf k x t) where
  pub turn_notes : Fits w32 (c + t.notes)
  turn_notes = record { fits = omega (arith, q.notes, notes_told k x, l.1, w.fewer) }

  pub turn_bits : Fits w64 (t.bits + 8)
  turn_bits = record { fits = omega (arith, q.most, l.2) }

  module _ {r : ℕ} (e : r + p ≡ 8 * length m) (room : t.bits + 8 ≤ r) where
    pub turn_place : length m < 2 ^ 60 → Fits w64 (p + t.bits)
    turn_place h = record { fits = omega (arith, e) }

    pub turn_on : Sight 57 (drop p (bits_of m)) x → t.faults ≡ 0 → BodyWalk m due (p + t.bits) (left - k) (c + t.notes)
    turn_on sees none =
        let z : p - p ≡ 0 = omega arith in
        let o : x * 2 ^ 0 ≡ x = mul-one x in
        let b : Top m p x sees due p x left c k = record { walk = w; seen = sight_begins p k l.2; top = rw (z, o) (sym (mod-eq_of_lt sees.small)) } in
        rw (q.bits, q.notes) (walk_told m p x sees k b l.1 (sym q.faults ∙ none) (omega (arith, e, room, q.bits)))

pub ruleset turns = (body_begins, body_done, body_rest, turn_notes, turn_bits, turn_place, turn_on)

-- What is told of where a message may start, and what each return of `in_reach` and `message_at` shows.
use Prim.Native.Nat.{ℕ, zero, suc, ◌+◌, ◌-◌, ◌*◌, ◌/◌, ◌≤◌, ◌<◌}
use native.Mathlib.Omega.{arith}
use native.Mathlib.Decide.{ℕ_discrete}
use mathlib.Core.Path.{◌≡◌, refl, sym, ap, subst, ◌∙◌}
use mathlib.Core.Bool.{Bool, true, false}
use mathlib.Core.List.{List}
use lib.ListN.{length, get_or, take, drop}
use lib.Dec.{leb, eqb}
use mir.Val.{Fits, bool_byte}
use mir.Syntax.{w8}
use borrow.Author.Tests.{le-leb, lt-leb, leb-true, leb-false, eq-eqb}
use Rattle.std.specs.Prelude.{Option, None}
use Rattle.bits.specs.Choice.{pick}
use Rattle.bits.specs.declared.OctetCount.{OctetCount}
use Rattle.tone.specs.Reading.{tone_at}
use Rattle.tone.proofs.Standing.{at_inside, front_tone, front_none, stands_begins}
use Rattle.tone_sound.specs.Answers.{octets_or_none}
use Rattle.salvage.specs.Salvage.{message_at}
use Rattle.salvage.specs.Answers.{front_of, NoFront, Fronts, Passed}
use Rattle.salvage.proofs.Pieces.{message_inside, message_least, message_stands}

-- a tone that is not too long is a message
pub message_is : (c : List ℕ) (at : ℕ) → tone_at c at ≤ 4096 → message_at c at ≡ tone_at c at
unfolding message_at
message_is c at l = rw (le-leb (tone_at c at) 4096 l) refl

-- and one that is too long is none
pub message_none : (c : List ℕ) (at : ℕ) → 4096 < tone_at c at → message_at c at ≡ 0
unfolding message_at
message_none c at l = rw (lt-leb (tone_at c at) 4096 l) refl

module _ (c : List ℕ) (at : ℕ) (h : at ≤ length c) where
  -- where no more octets are left than a message has, all are looked at
  pub reach_all : {r : Option OctetCount} → length c - at ≤ 4096 → r ≡ octets_or_none (tone_at c at) → r ≡ octets_or_none (message_at c at)
  reach_all l e = e ∙ ap octets_or_none (sym (message_is c at (omega (arith, at_inside c at h))))

  -- else as many as a message has
  pub reach_front : {r : Option OctetCount} → 4096 < length c - at → r ≡ octets_or_none (tone_at (take (at + 4096 - 0) (drop 0 c)) at) → r ≡ octets_or_none (message_at c at)
  reach_front {r} l e = e ∙ ap octets_or_none (go (leb (tone_at c at) 4096) refl)
    where
      front : tone_at (take (at + 4096 - 0) (drop 0 c)) at ≡ tone_at (take (at + 4096) c) at
      front = let z : at + 4096 - 0 ≡ at + 4096 = omega arith in ap (λ (k : ℕ). tone_at (take k c) at) z

      go : (t : Bool) → leb (tone_at c at) 4096 ≡ t → tone_at (take (at + 4096 - 0) (drop 0 c)) at ≡ message_at c at
      go true q = let b = leb-true (tone_at c at) 4096 q in front ∙ front_tone c at (at + 4096) (omega arith) (omega arith) (omega (arith, b)) ∙ sym (message_is c at b)
      go false q = let b = leb-false (tone_at c at) 4096 q in front ∙ front_none c at (at + 4096) (omega arith) (omega arith) (omega (arith, b)) ∙ sym (message_none c at b)

  -- under two octets hold no message
  pub too_few : length c - at < 2 → 0 ≡ message_at c at
  too_few l = go (message_at c at) refl
    where
      go : (n : ℕ) → message_at c at ≡ n → 0 ≡ message_at c at
      go zero e = sym e
      go (suc n) e = absurd (omega (arith, e, message_least c at h (omega (arith, e)), message_inside c at h))

  -- a message begins with 02 4A or with 03 4A, so other octets begin none
  pub no_front : 2 ≤ length c - at → ((i : ℕ) → Fits w8 (get_or c i 0)) → front_of (get_or c at 0) (get_or c (at + 1) 0) ≡ 0 → 0 ≡ message_at c at
  no_front l octets f = go (message_at c at) refl
    where
      begins : 1 ≤ message_at c at → (2 ≤ get_or c at 0) × (get_or c at 0 ≤ 3) × (get_or c (at + 1) 0 ≡ 74)
      begins n =
          let a = (octets at).fits in
          let b = (octets (at + 1)).fits in
          stands_begins c at (message_stands c at h n) (refl, omega (arith, a)) (refl, omega (arith, b)) (omega arith)

      go : (n : ℕ) → message_at c at ≡ n → 0 ≡ message_at c at
      go zero e = sym e
      go (suc n) e =
          let b = begins (omega (arith, e)) in
          let x : get_or c at 0 / 2 ≡ 1 = omega (arith, b.0, b.1) in
          let z : front_of (get_or c at 0) (get_or c (at + 1) 0) ≡ 1 = rw (eq-eqb (get_or c at 0 / 2) 1 x, eq-eqb (get_or c (at + 1) 0) 74 b.2) refl in
          absurd (omega (arith, f, z))

  -- the same, as `front` answers it
  pub told_none : {r : ℕ} → 2 ≤ length c - at → ((i : ℕ) → Fits w8 (get_or c i 0)) → (r ≡ front_of (get_or c at 0) (get_or c (at + 1) 0)) × (r ≤ 1) → r ≡ 0 → 0 ≡ message_at c at
  told_none l octets e z = no_front l octets (sym e.0 ∙ z)

  -- so none is answered
  pub none_few : length c - at < 2 → None ≡ octets_or_none (message_at c at)
  none_few l = ap octets_or_none (too_few l)

  pub none_front : {r : ℕ} → 2 ≤ length c - at → ((i : ℕ) → Fits w8 (get_or c i 0)) → (r ≡ front_of (get_or c at 0) (get_or c (at + 1) 0)) × (r ≤ 1) → r ≡ 0 → None ≡ octets_or_none (message_at c at)
  none_front l octets e z = ap octets_or_none (told_none l octets e z)

pub ruleset reaching = (reach_all, reach_front)

pub ruleset starts = (none_few, none_front)

-- ---- octets that are passed

-- so many of a block are told, and n of them may begin a message
pub record Telling (c : List ℕ) (from i n : ℕ) : Type 0 where
  pub most : i ≤ 64
  pub fewer : n ≤ i
  pub none : n ≡ 0 → NoFront c from (from + i)

module _ (c : List ℕ) (from : ℕ) where
  pub telling_begins : Telling c from 0 0
  telling_begins = record { most = omega arith; fewer = omega arith; none = λ _. record { each = λ i a b. absurd (omega arith) } }

  module _ {i n : ℕ} (t : Telling c from i n) where
    pub telling_fits : {r q : ℕ} → i < 64 → (r ≡ q) × (r ≤ 1) → Fits w8 (n + r)
    telling_fits h e = record { fits = omega (arith, t.fewer, e.1) }

    pub telling_more : {r : ℕ} → i < 64 → (r ≡ front_of (get_or c (from + i) 0) (get_or c (from + i + 1) 0)) × (r ≤ 1) → Telling c from (i + 1) (n + r)
    telling_more {r} h e = record {
      most = omega arith;
      fewer = omega (arith, t.fewer, e.1);
      none = λ z. record { each = λ j a b. go j a b (ℕ_discrete j (from + i)) (omega (arith, z)) (omega (arith, z)) };
    }
      where
        go : (j : ℕ) → from ≤ j → j < from + (i + 1) → Dec (j ≡ from + i) → n ≡ 0 → r ≡ 0 → front_of (get_or c j 0) (get_or c (j + 1) 0) ≡ 0
        go j a b (yes d) u v = rw d (sym e.0 ∙ v)
        go j a b (no d) u v = (t.none u).each j a (omega (arith, d))

    pub telling_ends : 64 ≤ i → Fronts c from (from + 64) n
    telling_ends a = let z : i ≡ 64 = omega (arith, t.most) in record { so = λ e. subst (λ (k : ℕ). NoFront c from (from + k)) z (t.none e) }

pub ruleset telling = (telling_begins, telling_fits, telling_ends)

-- both tests at once
both_tests : (t u : Bool) → (bool_byte t * bool_byte u ≡ pick t (pick u 1 0) 0) × (bool_byte t * bool_byte u ≤ 1)
both_tests true true = (refl, omega arith)
both_tests true false = (refl, omega arith)
both_tests false true = (refl, omega arith)
both_tests false false = (refl, omega arith)

module _ (x y : ℕ) where
  pub front_told : (bool_byte (eqb (x / 2) 1) * bool_byte (eqb y 74) ≡ front_of x y) × (bool_byte (eqb (x / 2) 1) * bool_byte (eqb y 74) ≤ 1)
  front_told = both_tests (eqb (x / 2) 1) (eqb y 74)

  pub front_fits : Fits w8 (bool_byte (eqb (x / 2) 1) * bool_byte (eqb y 74))
  front_fits = record { fits = omega (arith, front_told.1) }

module _ (c : List ℕ) (from : ℕ) where
  pub passed_begins : (from ≤ length c) × (length c ≤ 65535) → Passed c from from
  passed_begins h = record { onward = omega arith; inside = h.0; none = λ i a b. absurd (omega arith) }

  module _ {at : ℕ} (p : Passed c from at) where
    pub passed_inside : at ≤ length c
    passed_inside = p.inside

    -- up to another octet
    passed_to : (to : ℕ) → at ≤ to → to ≤ length c → ((i : ℕ) → at ≤ i → i < to → message_at c i ≡ 0) → Passed c from to
    passed_to to h l n = record { onward = omega (arith, p.onward); inside = l; none = λ i a b. go i a b (leb at i) refl }
      where
        go : (i : ℕ) → from ≤ i → i < to → (t : Bool) → leb at i ≡ t → message_at c i ≡ 0
        go i a b true e = n i (leb-true at i e) b
        go i a b false e = p.none i a (leb-false at i e)

    -- a block of which none may begin a message
    pub passed_block : {n : ℕ} → 65 ≤ length c - at → ((i : ℕ) → Fits w8 (get_or c i 0)) → Fronts c at (at + 64) n → n ≡ 0 → Passed c from (at + 64)
    passed_block h octets f e = passed_to (at + 64) (omega arith) (omega arith) (λ i a b. sym (no_front c i (omega arith) (omega arith) octets ((f.so e).each i a b)))

    -- one octet that may begin none
    pub passed_one : {r : ℕ} → 2 ≤ length c - at → ((i : ℕ) → Fits w8 (get_or c i 0)) → (r ≡ front_of (get_or c at 0) (get_or c (at + 1) 0)) × (r ≤ 1) → r ≡ 0 → Passed c from (at + 1)
    passed_one h octets f e =
        passed_to (at + 1) (omega arith) (omega arith) (λ i a b. let z : i ≡ at = omega arith in ap (message_at c) z ∙ sym (told_none c at (omega arith) h octets f e))

    -- octets that are passed behind those that are passed
    pub passed_joined : {to : ℕ} → Passed c at to → Passed c from to
    passed_joined {to} q = passed_to to q.onward q.inside q.none

    -- and then all, for the last octet begins none
    pub passed_all : {to : ℕ} → Passed c at to → length c - to < 2 → Passed c from (length c)
    passed_all {to} q h =
        passed_to (length c) p.inside (omega arith) (λ i a b. rest i a b (leb to i) refl)
      where
        rest : (i : ℕ) → at ≤ i → i < length c → (t : Bool) → leb to i ≡ t → message_at c i ≡ 0
        rest i a b true e = sym (too_few c i (omega arith) (omega (arith, leb-true to i e)))
        rest i a b false e = q.none i a (leb-false to i e)

pub ruleset passing = (passed_begins, passed_inside)

pub ruleset passed = (passed_inside, passed_joined, passed_all)

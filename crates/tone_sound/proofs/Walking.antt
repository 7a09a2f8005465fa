-- Instructions that were told without a mark are those that are due.
use Prim.Native.Nat.{ℕ, zero, suc, ◌+◌, ◌-◌, ◌*◌, ◌/◌, ◌%◌, ◌^◌, ◌≤◌, ◌<◌}
use native.Mathlib.Omega.{arith}
use native.Mathlib.Nat.{add_comm, add-zero}
use mathlib.Core.Path.{◌≡◌, refl, sym, ap, subst, ◌∙◌}
use mathlib.Core.Bool.{Bool, true, false}
use mathlib.Core.List.{List, [], ◌∷◌}
use lib.ListN.{length, get_or, drop}
use lib.Seq.{drop-drop}
use lib.Dec.{leb}
use lib.Pow.{shr-shr, field as pow-field}
use borrow.Author.Tests.{leb-true}
use Rattle.bits.specs.Choice.{pick}
use Rattle.bits.specs.Bits.{bits_of}
use Rattle.bits.specs.Window.{Sight}
use Rattle.bits.proofs.Below.{at_each, same_each}
use Rattle.bits.proofs.Looking.{length_left_lem}
use Rattle.tone.specs.Reading.{got, instruction_due, body_due}
use Rattle.tone.proofs.Rows.{instruction_exact}
use Rattle.tone_tell.specs.Telling.{kind_bits, begins, bits_on, fault_on}
use Rattle.tone_tell.proofs.Packed.{bits_packed, bits_least}
use Rattle.tone_elements.specs.Answers.{note_in}
use Rattle.tone_elements.proofs.Steps.{seen_made}
use Rattle.tone_elements.proofs.Telling.{told_seen}
use Rattle.tone_elements.proofs.Walks.{stays}
use Rattle.tone_sound.specs.Turning.{turn, clear, mark_of, mark_in, packed, wide_in, width_in, onward, along, AllClear}
use Rattle.tone_sound.specs.Answers.{Past}
use Rattle.tone_sound.proofs.Dues.{due_told, body_first}
use Rattle.tone_sound.proofs.Turns.{turn_lt, turn_low, turn_turn, sight_turned}

-- ---- one instruction, turned by six

-- the last bit of a duration decides nothing
begins_even : (z : ℕ) → z < 1024 → ◌≡◌ {A = ℕ} (pick (begins z) 0 1) (pick (begins (2 * (z / 2))) 0 1)
begins_even = same_each (λ z. pick (begins z) 0 1) (λ z. pick (begins (2 * (z / 2))) 0 1) 1024 refl

unmarked : (b : Bool) → ◌≡◌ {A = ℕ} (pick b clear 49) clear → ◌≡◌ {A = ℕ} (pick b 0 1) 0
unmarked true h = refl
unmarked false h = absurd (omega arith)

-- and back
marked : (b : Bool) → ◌≡◌ {A = ℕ} (pick b 0 1) 0 → ◌≡◌ {A = ℕ} (pick b clear 49) clear
marked true h = refl
marked false h = absurd (omega arith)

-- no instruction of the table has more than twelve bits
table_narrow : (z : ℕ) → z < 1024 → leb (get_or kind_bits (z / 128) 0) (pick (begins z) 12 63) ≡ true
table_narrow = at_each (λ z. leb (get_or kind_bits (z / 128) 0) (pick (begins z) 12 63)) 1024 refl

module _ (z : ℕ) (h : z < 2 ^ 64) where
  -- the kind came round
  turned_kind : turn 6 z / 8 % 8 ≡ z / 2 ^ 61
  turned_kind = sym (pow-field (turn 6 z) 3 3) ∙ ap (λ (u : ℕ). u / 2 ^ 3) (turn_low 58 6 z refl h) ∙ shr-shr z 58 3

  turned_width : width_in (turn 6 z) ≡ bits_on z
  unfolding wide_in
  turned_width = ap (λ (k : ℕ). packed k % 64) turned_kind ∙ bits_packed z h

  -- and three bits more, the first nine of the ten that tell a fault
  turned_nine : turn 3 (turn 6 z) % 512 ≡ z / 2 ^ 54 / 2
  turned_nine = ap (λ (u : ℕ). u % 512) (turn_turn 3 6 z (omega arith) h) ∙ turn_low 55 9 z refl h ∙ sym (shr-shr z 54 1)

  -- where there is no mark, there is no fault
  turned_clear : mark_in (turn 6 z) ≡ clear → fault_on z ≡ 0
  unfolding mark_in mark_of fault_on
  turned_clear e =
      begins_even (z / 2 ^ 54) (omega arith) ∙ unmarked (begins (2 * (z / 2 ^ 54 / 2))) (sym (ap (λ (u : ℕ). pick (begins (2 * u)) clear 49) turned_nine) ∙ e)

  -- and back
  clear_turned : fault_on z ≡ 0 → mark_in (turn 6 z) ≡ clear
  unfolding mark_in mark_of fault_on
  clear_turned e =
      ap (λ (u : ℕ). pick (begins (2 * u)) clear 49) turned_nine
      ∙ marked (begins (2 * (z / 2 ^ 54 / 2))) (sym (begins_even (z / 2 ^ 54) (omega arith)) ∙ e)

  clear_narrow : fault_on z ≡ 0 → bits_on z ≤ 12
  unfolding fault_on bits_on
  clear_narrow e =
      let k : z / 2 ^ 54 / 128 ≡ z / 2 ^ 61 = omega arith in
      let t = leb-true (get_or kind_bits (z / 2 ^ 54 / 128) 0) (pick (begins (z / 2 ^ 54)) 12 63) (table_narrow (z / 2 ^ 54) (omega arith)) in
      subst (λ (u : ℕ). get_or kind_bits u 0 ≤ 12) k (go (begins (z / 2 ^ 54)) e t)
    where
      go : {n : ℕ} (b : Bool) → ◌≡◌ {A = ℕ} (pick b 0 1) 0 → n ≤ pick b 12 63 → n ≤ 12
      go true e t = t
      go false e t = absurd (omega arith)

  -- turned away, the next one is turned by six
  turned_onward : fault_on z ≡ 0 → onward (turn 6 z) ≡ turn 6 (turn (bits_on z) z)
  unfolding onward
  turned_onward e =
      let n = clear_narrow e in
      ap (λ (w : ℕ). turn w (turn 6 z)) turned_width
      ∙ turn_turn (bits_on z) 6 z (omega (arith, n)) h
      ∙ ap (λ (w : ℕ). turn w z) (add_comm (bits_on z) 6)
      ∙ sym (turn_turn 6 (bits_on z) z (omega (arith, n)) h)

-- ---- n of them

-- those without a mark have at most twelve bits each
pub clear_most : (n z : ℕ) → z < 2 ^ 64 → AllClear n (turn 6 z) → along width_in n (turn 6 z) ≤ 12 * n
clear_most zero z h a = omega arith
clear_most (suc n) z h a =
    let f = turned_clear z h a.0 in
    let o = turned_onward z h f in
    let w = clear_narrow z h f in
    let r = clear_most n (turn (bits_on z) z) (turn_lt (bits_on z) z (omega (arith, w)) h) (subst (AllClear n) o a.1) in
    let e = ap (along width_in n) o in
    omega (arith, turned_width z h, w, r, e)

module _ (m : List ℕ) where
  -- the next one is the one that is due: it has five bits or more, so that with the end octet it has the twelve that are looked at
  one_due : {k : ℕ} (p : ℕ) {z : ℕ} → Sight k (drop p (bits_of m)) z → 12 ≤ k → fault_on z ≡ 0 → p + bits_on z + 8 ≤ 8 * length m → (e : ℕ) × (instruction_due (bits_of m) p ≡ got e (p + bits_on z))
  one_due {k} p {z} s h f room =
      let d = (told_seen p z f).due m k h s (omega (arith, bits_least z s.small, room)) in
      let g = seen_made note_in (instruction_due (bits_of m) p) d in
      (g.0, g.1)

  -- one instruction, and then n more
  body_one : (n p : ℕ) {q e r : ℕ} {b : List ℕ} → instruction_due (bits_of m) p ≡ got e q → body_due n (bits_of m) q ≡ got b r → body_due (suc n) (bits_of m) p ≡ got (e ∷ b) r
  unfolding body_due
  body_one n p d g = rw (d, g) refl

  pub body_none : (p : ℕ) → body_due 0 (bits_of m) p ≡ got [] p
  unfolding body_due
  body_none p = refl

  -- n instructions without a mark, seen at a place with the end octet behind them
  pub past_told : (n p : ℕ) {k z : ℕ} → Sight k (drop p (bits_of m)) z → 12 * n ≤ k → k ≤ 64 → AllClear n (turn 6 z) → p + along width_in n (turn 6 z) + 8 ≤ 8 * length m → Past m p n (p + along width_in n (turn 6 z))
  past_told zero p {k} {z} s h l a room = record { body = []; reads = body_none p ∙ ap (λ (q : ℕ). got [] q) (sym (add-zero p)); inside = omega arith }
  past_told (suc n) p {k} {z} s h l a room =
      let f = turned_clear z s.small a.0 in
      let w = clear_narrow z s.small f in
      let o = turned_onward z s.small f in
      let v = turned_width z s.small in
      let x = along width_in n (turn 6 (turn (bits_on z) z)) in
      let u : along width_in n (onward (turn 6 z)) ≡ x = ap (along width_in n) o in
      let long : bits_on z ≤ length (drop p (bits_of m)) = rw (length_left_lem m p) (omega (arith, room, v)) in
      let t = subst (λ (y : List Bool). Sight (k - bits_on z) y (turn (bits_on z) z)) (drop-drop (bits_on z) p (bits_of m)) (sight_turned s l (omega (arith, w)) long) in
      let d = one_due p s (omega arith) f (omega (arith, room, v)) in
      let r = past_told n (p + bits_on z) t (omega (arith, w)) (omega arith) (subst (AllClear n) o a.1) (omega (arith, room, v, u)) in
      let e : p + bits_on z + x ≡ p + along width_in (suc n) (turn 6 z) = omega (arith, v, u) in
      record {
        body = d.0 ∷ r.body;
        reads = body_one n p d.1 r.reads ∙ ap (λ (q : ℕ). got (d.0 ∷ r.body) q) e;
        inside = omega (arith, room);
      }

  -- and back: n instructions that stand where a sight shows them have no mark, and end where they are told to
  pub past_clear : (n p : ℕ) {k z : ℕ} {b : List ℕ} {q : ℕ} → Sight k (drop p (bits_of m)) z → 12 * n ≤ k → k ≤ 64 → p ≤ 8 * length m → body_due n (bits_of m) p ≡ got b q
      → AllClear n (turn 6 z) × (p + along width_in n (turn 6 z) ≡ q)
  past_clear zero p {k} {z} {b} {q} s h l i d =
      let g : got [] p ≡ got b q = sym (body_none p) ∙ d in
      let e : p ≡ q = cc in
      (tt, add-zero p ∙ e)
  past_clear (suc n) p {k} {z} {b} {q} s h l i d =
      let a = body_first m n p d in
      let g = due_told m p s (omega arith) a.3 in
      let f = g.0 in
      let w = clear_narrow z s.small f in
      let o = turned_onward z s.small f in
      let v = turned_width z s.small in
      let there : p + bits_on z ≤ 8 * length m = rw (← g.1) (stays instruction_exact m p i a.3) in
      let long : bits_on z ≤ length (drop p (bits_of m)) = rw (length_left_lem m p) (omega arith) in
      let t = subst (λ (y : List Bool). Sight (k - bits_on z) y (turn (bits_on z) z)) (drop-drop (bits_on z) p (bits_of m)) (sight_turned s l (omega (arith, w)) long) in
      let r = past_clear n (p + bits_on z) t (omega (arith, w)) (omega arith) there (subst (λ (y : ℕ). body_due n (bits_of m) y ≡ got a.2 q) g.1 a.4) in
      let u : along width_in n (onward (turn 6 z)) ≡ along width_in n (turn 6 (turn (bits_on z) z)) = ap (along width_in n) o in
      ((clear_turned z s.small f, subst (AllClear n) (sym o) r.0), omega (arith, r.1, v, u))

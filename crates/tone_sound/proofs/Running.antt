-- Instructions that are told one by one come to what is due of all.
use Prim.Native.Nat.{ℕ, zero, suc, ◌+◌, ◌-◌, ◌*◌, ◌%◌, ◌^◌, ◌≤◌, ◌<◌}
use native.Mathlib.Omega.{arith}
use native.Mathlib.Nat.{zero-add}
use mathlib.Core.Path.{◌≡◌, refl, sym, ap, subst, ◌∙◌}
use lib.Bits.{bit_or}
use Rattle.tone_sound.specs.declared.Told.{Told}
use Rattle.tone_sound.specs.Turning.{turn, clear, Mark, mark_in, wide_in, width_in, onward, along, AllClear}
use Rattle.tone_sound.specs.Answers.{ToldOf}
use Rattle.tone_sound.proofs.Marking.{marks_together, mark_in_lem, wide_octet}

-- with `left` of n instructions still to be told
pub record Run (n x met : ℕ) (t : Told) (left : ℕ) : Type 0 where
  pub widths : t.widths % 256 + along width_in left t.bits ≡ along width_in n (turn 6 x)
  pub marks : t.marks ≡ clear → AllClear left t.bits → (met ≡ clear) × AllClear n (turn 6 x)
  pub unmarked : met ≡ clear → AllClear n (turn 6 x) → (t.marks ≡ clear) × AllClear left t.bits
  pub mark : Mark t.marks
  pub fewer : left ≤ n
  pub room : t.widths + 2 ^ 62 * left ≤ 2 ^ 62 * n
  pub octet : t.widths % 256 + 63 * left ≤ 63 * n

-- what one more leaves
abbrev Next : Told → Told → Type 0
Next t r = (r.bits ≡ onward t.bits) × (r.widths ≡ t.widths + wide_in t.bits) × (r.marks ≡ bit_or t.marks (mark_in t.bits))

-- nothing is told yet
abbrev Begun : ℕ → ℕ → Told → Type 0
Begun x met t = (t.bits ≡ turn 6 x) × (t.widths ≡ 0) × (t.marks ≡ met)

pub run_begins : (n x met : ℕ) {t : Told} → Mark met → Begun x met t → Run n x met t n
run_begins n x met {t} k e =
    let z : t.widths % 256 ≡ 0 = rw e.1 refl in
    record {
      widths = rw (z, e.0) (zero-add (along width_in n (turn 6 x)));
      marks = λ m a. (sym e.2 ∙ m, subst (AllClear n) e.0 a);
      unmarked = λ m a. (e.2 ∙ m, subst (AllClear n) (sym e.0) a);
      mark = subst Mark (sym e.2) k;
      fewer = omega arith;
      room = omega (arith, e.1);
      octet = omega (arith, z);
    }

-- one instruction ahead of the others
one_less : (f : ℕ → ℕ) (left y : ℕ) → 0 < left → along f left y ≡ f y + along f (left - 1) (onward y)
one_less f zero y h = absurd (omega arith)
one_less f (suc k) y h = let z : suc k - 1 ≡ k = omega arith in rw z refl

clear_less : (left y : ℕ) → 0 < left → mark_in y ≡ clear → AllClear (left - 1) (onward y) → AllClear left y
clear_less zero y h e a = absurd (omega arith)
clear_less (suc k) y h e a = let z : suc k - 1 ≡ k = omega arith in (e, subst (λ (j : ℕ). AllClear j (onward y)) z a)

-- the first of those that are clear, and the others
clear_more : (left y : ℕ) → 0 < left → AllClear left y → (mark_in y ≡ clear) × AllClear (left - 1) (onward y)
clear_more zero y h a = absurd (omega arith)
clear_more (suc k) y h a = let z : suc k - 1 ≡ k = omega arith in (a.0, subst (λ (j : ℕ). AllClear j (onward y)) (sym z) a.1)

pub run_on : {n x met : ℕ} {t : Told} {left : ℕ} {r : Told} → Run n x met t left → 0 < left → n ≤ 4 → Next t r → (r.widths ≤ t.widths + 2 ^ 62) × Mark r.marks → Run n x met r (left - 1)
run_on {n} {x} {met} {t} {left} {r} c h k e l =
    let y = t.bits in
    let o : wide_in y % 256 ≡ width_in y = wide_octet y in
    let w : r.widths % 256 ≡ t.widths % 256 + width_in y = omega (arith, e.1, o, c.octet) in
    let a : along width_in left y ≡ width_in y + along width_in (left - 1) r.bits = one_less width_in left y h ∙ ap (λ (z : ℕ). width_in y + along width_in (left - 1) z) (sym e.0) in
    record {
      widths = omega (arith, c.widths, w, a);
      marks = λ m b.
          let both = (marks_together c.mark (mark_in_lem y)).1 (sym e.2 ∙ m) in
          c.marks both.0 (clear_less left y h both.1 (subst (AllClear (left - 1)) e.0 b));
      unmarked = λ m b.
          let u = c.unmarked m b in
          let v = clear_more left y h u.1 in
          (e.2 ∙ (rw (u.0, v.0) refl), subst (AllClear (left - 1)) (sym e.0) v.1);
      mark = l.1;
      fewer = omega (arith, c.fewer);
      room = omega (arith, c.room, l.0);
      octet = omega (arith, c.octet, w, o);
    }

pub run_ends : {n x met : ℕ} {t : Told} {left : ℕ} → Run n x met t left → left ≤ 0 → ToldOf n x met t
run_ends {t = t} {left = left} c h =
    let z : left ≡ 0 = omega arith in
    record {
      widths = omega (arith, c.widths, ap (λ (k : ℕ). along width_in k t.bits) z);
      marks = λ m. c.marks m (subst (λ (k : ℕ). AllClear k t.bits) (sym z) tt);
      unmarked = λ m a. (c.unmarked m a).0;
      mark = c.mark;
    }

-- what the next one may add
module _ {n x met : ℕ} {t : Told} {left : ℕ} (c : Run n x met t left) (h : 0 < left) (k : n ≤ 4) where
  pub run_room : t.widths ≤ 3 * 2 ^ 62
  run_room = omega (arith, c.room)

  pub run_mark : Mark t.marks
  run_mark = c.mark

-- the same, where those that are told are counted
pub counted_on : {n x met : ℕ} {t : Told} {i : ℕ} {r : Told} → Run n x met t (n - i) → i < n → n ≤ 4 → Next t r → (r.widths ≤ t.widths + 2 ^ 62) × Mark r.marks → Run n x met r (n - (i + 1))
counted_on {n} {x} {met} {i = i} {r} c h k e l = let z : n - i - 1 ≡ n - (i + 1) = omega arith in subst (Run n x met r) z (run_on c (omega arith) k e l)

pub ruleset running = (run_begins, counted_on, run_ends, run_room, run_mark)

-- four in a row
pub four_run : (x met : ℕ) {t₀ t₁ t₂ t₃ t₄ : Told} → Mark met → Begun x met t₀
    → Next t₀ t₁ → (t₁.widths ≤ t₀.widths + 2 ^ 62) × Mark t₁.marks → Next t₁ t₂ → (t₂.widths ≤ t₁.widths + 2 ^ 62) × Mark t₂.marks
    → Next t₂ t₃ → (t₃.widths ≤ t₂.widths + 2 ^ 62) × Mark t₃.marks → Next t₃ t₄ → (t₄.widths ≤ t₃.widths + 2 ^ 62) × Mark t₄.marks → ToldOf 4 x met t₄
four_run x met k b a₁ l₁ a₂ l₂ a₃ l₃ a₄ l₄ =
    let f : 4 ≤ 4 = omega arith in
    run_ends (run_on (run_on (run_on (run_on (run_begins 4 x met k b) (omega arith) f a₁ l₁) (omega arith) f a₂ l₂) (omega arith) f a₃ l₃) (omega arith) f a₄ l₄) (omega arith)

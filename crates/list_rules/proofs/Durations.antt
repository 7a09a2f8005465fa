-- No duration is longer than 16.8 seconds, and units are whole.
use Prim.Native.Nat.{ℕ, ◌+◌, ◌-◌, ◌*◌, ◌/◌, ◌%◌, ◌^◌, ◌≤◌, ◌<◌}
use native.Mathlib.Omega.{arith}
use native.Mathlib.Nat.{mul-le-mul, mod-lt, mod-eq-sub-div-mul, div-le_of_le-mul, div-mul-le_self}
use mathlib.Core.Path.{◌≡◌, refl, sym, ap, ap₂, ◌∙◌}
use mir.Val.{Fits}
use mir.Syntax.{w32, w64}
use Rattle.tone.specs.Table.{duration_of, specifier_of}
use Rattle.list_rules.specs.Duration.{beats, plain_units, units, microseconds, left_over}
use Rattle.list_rules.specs.Tempo.{inverse_of, Timed}
use Rattle.bits.proofs.Below.{same_each}
pub use Rattle.list_rules.proofs.LongestDuration.{slowest, fastest, plain_most, units_most, longest_duration}
pub use Rattle.list_rules.proofs.InverseExact.{inverse_exact}

-- ---- bounds

-- so every duration fits 32 bits
pub duration_fits : (d s tempo fraction : ℕ) → fraction < beats tempo → microseconds fraction (units d s) (beats tempo) < 2 ^ 32
duration_fits d s tempo fraction h = let l = longest_duration d s tempo fraction h in omega arith

-- and what is divided does too
pub sum_fits : (d s tempo fraction : ℕ) → fraction < beats tempo → fraction + units d s * 625000 < 2 ^ 32
sum_fits d s tempo fraction h = let u = units_most d s in let b = fastest tempo in omega arith

-- the fraction that is left over is below the beats again
pub left_below : (fraction u b : ℕ) → 0 < b → left_over fraction u b < b
unfolding left_over
left_below fraction u b h = mod-lt (fraction + u * 625000) h

-- ---- whole units

-- each duration code halves a full note, and nothing is lost
pub halves_whole : (d : ℕ) → d ≤ 5 → plain_units d * 2 ^ d ≡ 384
halves_whole d h = same_each (λ k. plain_units k * 2 ^ k) (λ k. 384) 6 refl d (omega arith)

-- with no specifier a note has its plain units
pub plain_whole : (d : ℕ) → units d 0 ≡ plain_units d
unfolding units
plain_whole d = refl

-- dotted is exactly 3/2 of it
pub dotted_whole : (d : ℕ) → d ≤ 5 → 2 * units d 1 ≡ 3 * plain_units d
unfolding units
dotted_whole d h = same_each (λ k. 2 * units k 1) (λ k. 3 * plain_units k) 6 refl d (omega arith)

-- double dotted is exactly 7/4
pub double_dotted_whole : (d : ℕ) → d ≤ 5 → 4 * units d 2 ≡ 7 * plain_units d
unfolding units
double_dotted_whole d h = same_each (λ k. 4 * units k 2) (λ k. 7 * plain_units k) 6 refl d (omega arith)

-- the last specifier is exactly 2/3
pub two_thirds_whole : (d : ℕ) → d ≤ 5 → 3 * units d 3 ≡ 2 * plain_units d
unfolding units
two_thirds_whole d h = same_each (λ k. 3 * units k 3) (λ k. 2 * plain_units k) 6 refl d (omega arith)

-- ---- how the code gets there

-- an entry's number on the sheet is the last five bits of a note
pub sheet_number : (p : ℕ) → duration_of p * 4 + specifier_of p ≡ p % 32
sheet_number p = omega arith

-- a number that is the rule's for entry k of the sheet is the rule's for each duration code and specifier with that entry
pub on_sheet : (d s : ℕ) {k u : ℕ} → s ≤ 3 → d * 4 + s ≡ k → u ≡ units (k / 4) (k % 4) → u ≡ units d s
on_sheet d s {k} h z e =
    let q : k / 4 ≡ d = omega arith in
    let r : k % 4 ≡ s = omega arith in
    e ∙ ap₂ units q r

-- in the code's terms
pub units_short : (d s : ℕ) {u : ℕ} → u ≡ units d s → u ≤ 672
units_short d s e = rw e (units_most d s)

module _ {b tempo : ℕ} (e : b ≡ beats tempo) (h : tempo ≤ 31) where
  pub beats_least : 25 ≤ b
  beats_least = rw e (slowest tempo (omega arith))

  pub beats_most : b ≤ 900
  beats_most = rw e (fastest tempo)

-- one over the slowest beats is the most
pub inverse_most : (b : ℕ) → 25 ≤ b → inverse_of b ≤ 21990232557
inverse_most b h = let l : 549755813888 / b ≤ 21990232556 = div-le_of_le-mul b (omega arith) in omega arith

pub inverse_fits : {b : ℕ} → 25 ≤ b → Fits w64 (549755813888 / b + 1)
inverse_fits {b} h = let p = inverse_most b h in record { fits = omega arith }

-- the duration step in the code's terms
module _ {f u b k : ℕ} (short : u ≤ 672) (t : Timed f b k) where
  -- what is divided
  abbrev sum : ℕ
  sum = f + u * 625000

  abbrev whole : ℕ
  whole = sum * k / 2 ^ 39

  sum_most : sum ≤ 420000899
  sum_most = omega (arith, t.below, t.fastest)

  quotient : whole ≡ sum / b
  quotient = ap (λ (x : ℕ). sum * x / 2 ^ 39) t.inverse ∙ inverse_exact sum b sum_most t.slowest t.fastest

  product_most : sum * k ≤ 420000899 * 21990232557
  product_most = let m : k ≤ 21990232557 = rw t.inverse (inverse_most b t.slowest) in mul-le-mul sum_most m

  pub product_fits : Fits w64 (sum * k)
  product_fits = let m = product_most in record { fits = omega arith }

  pub whole_fits : Fits w32 whole
  whole_fits = let m = product_most in record { fits = omega arith }

  pub whole_back : whole * b ≤ sum
  whole_back = rw quotient (div-mul-le_self sum b)

  pub back_fits : Fits w32 (whole * b)
  back_fits = let m = whole_back in let n = sum_most in record { fits = omega arith }

  pub step_lasts : (whole ≡ microseconds f u b) × (sum - whole * b ≡ left_over f u b)
  unfolding microseconds left_over
  step_lasts = (quotient, ap (λ (x : ℕ). sum - x * b) quotient ∙ sym (mod-eq-sub-div-mul sum b))

pub ruleset dividing = (inverse_fits, product_fits, whole_fits, whole_back, back_fits, step_lasts)

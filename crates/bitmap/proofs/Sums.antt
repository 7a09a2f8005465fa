-- Sums over the numbers below a bound.
use Prim.Native.Nat.{ℕ, zero, suc, ◌+◌, ◌*◌, ◌<◌}
use native.Mathlib.Omega.{arith}
use native.Mathlib.Nat.{add-zero, add-suc, mul-zero, mul-suc, add_assoc}
use mathlib.Core.Path.{◌≡◌, refl, sym, ap, ap₂, ◌∙◌}
use Rattle.bitmap.specs.Image.{sum}

-- two sums are equal where their terms are
pub sum_cong : (n : ℕ) {f g : ℕ → ℕ} → ((i : ℕ) → i < n → f i ≡ g i) → sum n f ≡ sum n g
unfolding sum
sum_cong zero h = refl
sum_cong (suc n) h = ap₂ (λ (a b : ℕ). a + b) (sum_cong n (λ i l. h i (omega arith))) (h n (omega arith))

-- a sum in two parts
pub sum_add : (n m : ℕ) (f : ℕ → ℕ) → sum (n + m) f ≡ sum n f + sum m (λ i. f (n + i))
unfolding sum
sum_add n zero f = rw (add-zero n) (sym (add-zero (sum n f)))
sum_add n (suc m) f =
    rw (add-suc n m) (ap (λ (a : ℕ). a + f (n + m)) (sum_add n m f) ∙ add_assoc (sum n f) (sum m (λ i. f (n + i))) (f (n + m)))

-- a sum in k parts of n terms each
pub sum_times : (n k : ℕ) (f : ℕ → ℕ) → sum (n * k) f ≡ sum k (λ j. sum n (λ i. f (n * j + i)))
unfolding sum
sum_times n zero f = rw (mul-zero n) refl
sum_times n (suc k) f =
    rw (mul-suc n k) (sum_add (n * k) n f ∙ ap (λ (a : ℕ). a + sum n (λ i. f (n * k + i))) (sum_times n k f))

-- the first term apart
pub sum_first : (n : ℕ) (f : ℕ → ℕ) → sum (suc n) f ≡ f 0 + sum n (λ i. f (suc i))
unfolding sum
sum_first zero f = omega arith
sum_first (suc n) f = ap (λ (a : ℕ). a + f (suc n)) (sum_first n f) ∙ add_assoc (f 0) (sum n (λ i. f (suc i))) (f (suc n))

-- The product with one over the beats is the quotient.
use Prim.Native.Nat.{ℕ, ◌+◌, ◌-◌, ◌*◌, ◌/◌, ◌%◌, ◌^◌, ◌≤◌, ◌<◌}
use native.Mathlib.Omega.{arith}
use native.Mathlib.Nat.{add-zero, add-mul, mul-add, mul_assoc, mul_comm, mul-le-mul, lt_of_le_of_lt, mod-lt, div-eq_of_lt, div-add-mod', mul-add-div, mul-div-mul_right, div-div-eq-div-mul}
use mathlib.Core.Path.{◌≡◌, sym, ap, ◌∙◌}
use lib.Dec.{lit<}
use Rattle.list_rules.specs.Tempo.{inverse_of}

rounded_up : (q k b n : ℕ) → q * b + k ≡ n → k < b → (q + 1) * b ≡ n + (b - k)
rounded_up q k b n e h = add-mul q 1 b ∙ omega arith

-- the product with one over the beats is the quotient: what that is too large by does not add up to one
pub inverse_exact : (n b : ℕ) → n ≤ 420000899 → 25 ≤ b → b ≤ 900 → n * inverse_of b / 2 ^ 39 ≡ n / b
inverse_exact n b most low high =
    let one : ℕ = 549755813888 in
    let some : 0 < b = omega arith in
    let r : ℕ = b - one % b in
    let up : inverse_of b * b ≡ one + r = rounded_up (one / b) (one % b) b one (div-add-mod' one b) (mod-lt one some) in
    let whole : n * inverse_of b * b ≡ one * n + n * r =
    mul_assoc n (inverse_of b) b ∙ ap (λ (x : ℕ). n * x) up ∙ mul-add n one r ∙ ap (λ (x : ℕ). x + n * r) (mul_comm n one) in
    let short : r ≤ 900 = omega arith in
    let small : n * r < one = lt_of_le_of_lt (mul-le-mul most short) (lit< tt) in
    sym (mul-div-mul_right (n * inverse_of b) one some) ∙ ap (λ (x : ℕ). x / (one * b)) whole
    ∙ sym (div-div-eq-div-mul (one * n + n * r) one b)
    ∙ ap (λ (x : ℕ). x / b) (mul-add-div (lit< tt) n (n * r) ∙ ap (λ (x : ℕ). n + x) (div-eq_of_lt small) ∙ add-zero n)

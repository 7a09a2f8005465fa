-- Numbers of two octets: what is put is read, and what is read is put.
use Prim.Native.Nat.{ℕ, zero, suc, ◌+◌, ◌/◌, ◌%◌, ◌≤◌, ◌<◌}
use native.Mathlib.Omega.{arith}
use native.Mathlib.Numerals.{add-one}
use mathlib.Core.Path.{◌≡◌, refl, sym, ap, ap₂, ◌∙◌}
use mathlib.Core.List.{List, [], ◌∷◌, ◌++◌}
use lib.ListN.{length, get_or, drop}
use lib.Seq.{drop-cons, get_or-append-add, get_or-append_seam}
use Rattle.bits.specs.Bits.{Octets}
use Rattle.inside.specs.Inside.{number, pair}

-- high octet first: 1 and 2 spell 258
pub number_high_first : number (1 ∷ 2 ∷ []) 0 ≡ 258
number_high_first = refl

pub pair_high_first : pair 258 ≡ 1 ∷ 2 ∷ []
pair_high_first = refl

-- a number that was put behind a front is read there
pub number_pair : (front rest : List ℕ) (n : ℕ) → number (front ++ (pair n ++ rest)) (length front) ≡ n
number_pair front rest n =
    let e₀ : get_or (front ++ (pair n ++ rest)) (length front) 0 ≡ n / 256 = get_or-append_seam front (n / 256) (n % 256 ∷ rest) 0 in
    let e₁ : get_or (front ++ (pair n ++ rest)) (length front + 1) 0 ≡ n % 256 = get_or-append-add front (pair n ++ rest) 1 0 in
    rw (e₀, e₁) (omega arith)

-- the octet at a place of octets is one
pub octet_below : (m : List ℕ) (i : ℕ) → Octets m → get_or m i 0 < 256
octet_below [] i o = omega arith
octet_below (x ∷ m) zero o = o.0
octet_below (x ∷ m) (suc i) o = octet_below m i o.1

-- a number that was read from octets is those two octets
pub pair_number : (m : List ℕ) (i : ℕ) → Octets m → i + 2 ≤ length m → drop i m ≡ pair (number m i) ++ drop (i + 2) m
pair_number m i o h =
    let a = octet_below m i o in
    let b = octet_below m (i + 1) o in
    let e₀ : get_or m i 0 ≡ number m i / 256 = omega arith in
    let e₁ : get_or m (i + 1) 0 ≡ number m i % 256 = omega arith in
    let e₂ : suc (i + 1) ≡ i + 2 = omega arith in
    let d : drop i m ≡ get_or m i 0 ∷ get_or m (i + 1) 0 ∷ drop (i + 2) m =
    drop-cons m i 0 (omega arith) ∙ ap (λ (r : List ℕ). get_or m i 0 ∷ r) (ap (λ (k : ℕ). drop k m) (sym (add-one i)) ∙ drop-cons m (i + 1) 0 (omega arith) ∙ ap (λ (k : ℕ). get_or m (i + 1) 0 ∷ drop k m) e₂) in
    d ∙ ap₂ (λ (x y : ℕ). x ∷ y ∷ drop (i + 2) m) e₀ e₁

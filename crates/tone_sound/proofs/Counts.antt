-- A number of octets where 0 is none: what is answered tells the number, and the number what is answered.
use Prim.Native.Nat.{ℕ, zero, suc, ◌≤◌}
use native.Mathlib.Omega.{arith}
use mathlib.Core.Path.{◌≡◌, refl, sym, ap}
use Rattle.std.specs.Prelude.{Some, None}
use Rattle.bits.specs.Places.{octet_count}
use Rattle.bits.specs.declared.OctetCount.{OctetCount}
use Rattle.tone_sound.specs.Answers.{octets_or_none}
use Rattle.tone_sound.proofs.Bodies.{some_none}

-- a number that is not 0 is so many octets
pub some_octets : (n : ℕ) → 1 ≤ n → Some (octet_count n) ≡ octets_or_none n
some_octets zero h = absurd (omega arith)
some_octets (suc n) h = refl

-- none are 0
pub none_is : (n : ℕ) → None ≡ octets_or_none n → n ≡ 0
none_is zero e = refl
none_is (suc n) e = some_none e

-- so many are that number, and one at least
pub octets_are : (n : ℕ) {o : OctetCount} → Some o ≡ octets_or_none n → (o.0 ≡ n) × (1 ≤ o.0)
octets_are zero e = some_none (sym e)
octets_are (suc n) {o} e =
    let z : o ≡ octet_count (suc n) = cc in
    let y : o.0 ≡ suc n = ap (λ (x : OctetCount). x.0) z in
    (y, omega (arith, y))

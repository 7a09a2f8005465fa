-- The sizes that are taken: the test and the plain conditions.
use Prim.Native.Nat.{ℕ, ◌*◌, ◌/◌, ◌%◌, ◌≤◌}
use native.Mathlib.Omega.{arith}
use native.Mathlib.Nat.{mul-le-mul_left, mul-le-mul_right, le_trans}
use mathlib.Core.Path.{◌≡◌, refl}
use mathlib.Core.Bool.{true, ◌&&◌}
use lib.Dec.{leb, eqb}
use borrow.Author.Tests.{leb-true, eqb-true, le-leb, eq-eqb}
use Rattle.bits.proofs.Choice.{both}
use Rattle.bitmap.specs.Image.{Sizes, sizes_taken}

-- sizes that pass the test are within the rules
pub taken_sizes : (width height : ℕ) → sizes_taken width height ≡ true → Sizes width height
unfolding sizes_taken
taken_sizes width height e =
    let e₁ = both (leb 8 width && leb width 248 && eqb (width % 8) 0 && leb 1 height) (leb height 255) e in
    let e₂ = both (leb 8 width && leb width 248 && eqb (width % 8) 0) (leb 1 height) e₁.0 in
    let e₃ = both (leb 8 width && leb width 248) (eqb (width % 8) 0) e₂.0 in
    let e₄ = both (leb 8 width) (leb width 248) e₃.0 in
    record {
      least = leb-true 8 width e₄.0;
      most = leb-true width 248 e₄.1;
      whole = eqb-true (width % 8) 0 e₃.1;
      low = leb-true 1 height e₂.1;
      high = leb-true height 255 e₁.1;
    }

-- and the other way round
pub sizes_taken_lem : (width height : ℕ) → Sizes width height → sizes_taken width height ≡ true
unfolding sizes_taken
sizes_taken_lem width height s =
    rw (le-leb 8 width s.least, le-leb width 248 s.most, eq-eqb (width % 8) 0 s.whole, le-leb 1 height s.low, le-leb height 255 s.high) refl

-- the largest image has 31 octets a row in 255 rows
pub octets_most : (width height : ℕ) → width ≤ 248 → height ≤ 255 → width / 8 * height ≤ 7905
octets_most width height h k =
    let w : width / 8 ≤ 31 = omega arith in
    le_trans (mul-le-mul_right height w) (mul-le-mul_left 31 k)

-- The black pixels of an image are the sum over its octets of their ones.
use Prim.Native.Nat.{ℕ, zero, suc, ◌+◌, ◌-◌, ◌*◌, ◌/◌, ◌%◌, ◌^◌, ◌≤◌, ◌<◌}
use native.Mathlib.Omega.{arith}
use native.Mathlib.Nat.{add_comm, mul_assoc, mul-suc, mul-le-mul_left}
use native.Mathlib.Numerals.{add-one}
use mathlib.Core.Path.{◌≡◌, refl, sym, ap, ap₂, ◌∙◌}
use mathlib.Core.Bool.{Bool}
use mathlib.Core.List.{List, [], ◌∷◌, ◌++◌}
use lib.ListN.{length, get_or, drop}
use lib.Seq.{drop-cons}
use lib.Pow.{shr_lt, shr-shr}
use lib.Count.{ones, ones_step}
use Rattle.bits.specs.Bits.{bits_n, bits_of, field, Octets}
use Rattle.bits.proofs.Numbers.{length_bits, num_bits, field_drop, field_front, field_num}
use Rattle.bits.proofs.Octets.{drop_bits_of}
use Rattle.bitmap.specs.Image.{image_octets, pixel, sum, black_pixels, ones_of}
use Rattle.bitmap.proofs.Sums.{sum_cong, sum_times, sum_first}
use Rattle.bitmap.proofs.Ones.{octet_at}

-- the digits of a number, the most significant one first, add up to its ones
digits : (w v : ℕ) → v < 2 ^ w → sum w (λ i. v / 2 ^ (w - suc i) % 2) ≡ ones v
unfolding sum ones
digits zero v h = let e : 0 ≡ v = omega arith in rw (← e) refl
digits (suc w) v h =
    let l : v / 2 ^ 1 < 2 ^ w = shr_lt w 1 (rw (add-one w) h) in
    let d : (i : ℕ) → i < w → v / 2 ^ (suc w - suc i) % 2 ≡ v / 2 ^ 1 / 2 ^ (w - suc i) % 2 =
    λ i k. let e : suc w - suc i ≡ 1 + (w - suc i) = omega arith in rw (e, shr-shr v 1 (w - suc i)) refl in
    let z : suc w - suc w ≡ 0 = omega arith in
    let e : v / 2 ^ (suc w - suc w) % 2 ≡ v % 2 = rw z (omega arith) in
    ap₂ (λ (a b : ℕ). a + b) (sum_cong w d ∙ digits w (v / 2) l) e ∙ add_comm (ones (v / 2)) (v % 2) ∙ sym (ones_step v)

-- a pixel is a digit of its octet, in rows of k octets
pixel_digit : (k : ℕ) (image : List ℕ) (y j i : ℕ) → i < 8 → pixel (8 * k) image (8 * j + i) y ≡ get_or image (k * y + j) 0 / 2 ^ (8 - suc i) % 2
unfolding pixel
pixel_digit k image y j i h =
    let a : 8 * k / 8 ≡ k = omega arith in
    let b : (8 * j + i) / 8 ≡ j = omega arith in
    let c : 7 - (8 * j + i) % 8 ≡ 8 - suc i = omega arith in
    ap₂ (λ (n e : ℕ). get_or image n 0 / 2 ^ e % 2) (ap₂ (λ (w x : ℕ). w * y + x) a b) c

-- the black pixels of a row are the ones of its octets
row : (k : ℕ) (image : List ℕ) (y : ℕ) → Octets image → sum (8 * k) (λ x. pixel (8 * k) image x y) ≡ sum k (λ j. ones (get_or image (k * y + j) 0))
row k image y h =
    sum_times 8 k (λ x. pixel (8 * k) image x y)
    ∙ sum_cong k (λ j _. sum_cong 8 (λ i l. pixel_digit k image y j i l) ∙ digits 8 (get_or image (k * y + j) 0) (octet_at image h (k * y + j)))

-- the ones of each octet, summed by number or one after the other
in_turn : (image : List ℕ) → sum (length image) (λ i. ones (get_or image i 0)) ≡ ones_of image
unfolding sum ones_of
in_turn [] = refl
in_turn (x ∷ image) = sum_first (length image) (λ i. ones (get_or (x ∷ image) i 0)) ∙ ap (λ (n : ℕ). ones x + n) (in_turn image)

-- the black pixels of an image are the sum over its octets of their ones
pub black_are_ones : (width height : ℕ) (image : List ℕ) → width % 8 ≡ 0 → Octets image → length image ≡ image_octets width height → black_pixels width height image ≡ ones_of image
unfolding black_pixels image_octets
black_are_ones width height image whole h exact =
    let k : ℕ = width / 8 in
    let e : width ≡ 8 * k = omega arith in
    ap (λ (w : ℕ). sum height (λ y. sum w (λ x. pixel w image x y))) e
    ∙ sum_cong height (λ y _. row k image y h)
    ∙ sym (sum_times k height (λ i. ones (get_or image i 0)))
    ∙ ap (λ (n : ℕ). sum n (λ i. ones (get_or image i 0))) (sym exact)
    ∙ in_turn image

-- ---- the pixels are the bits of the image octets, row by row

-- a bit of the octets is a digit of its octet
bit_digit : (m : List ℕ) (q r : ℕ) → Octets m → q < length m → r < 8 → field (bits_of m) (8 * q + r) 1 ≡ get_or m q 0 / 2 ^ (7 - r) % 2
bit_digit m q r h l k =
    let x : ℕ = get_or m q 0 in
    let e : drop (8 * q) (bits_of m) ≡ bits_n 8 x ++ bits_of (drop (suc q) m) = drop_bits_of q m ∙ ap bits_of (drop-cons m q 0 l) in
    let s : r + 1 ≤ length (bits_n 8 x) = rw (length_bits 8 x) (omega arith) in
    let n : r + 1 + (7 - r) ≡ length (bits_n 8 x) = rw (length_bits 8 x) (omega arith) in
    sym (field_drop (bits_of m) (8 * q) r 1)
    ∙ ap (λ (b : List Bool). field b r 1) e
    ∙ field_front r 1 (bits_n 8 x) (bits_of (drop (suc q) m)) s
    ∙ field_num (bits_n 8 x) r 1 (7 - r) n
    ∙ ap (λ (v : ℕ). v / 2 ^ (7 - r) % 2) (num_bits 8 x (octet_at m h q))

-- the pixel at column x of row y is the bit at width times y and x
pub pixel_is_bit : (width height : ℕ) (image : List ℕ) → width % 8 ≡ 0 → Octets image → length image ≡ image_octets width height → (x y : ℕ) → x < width → y < height
    → pixel width image x y ≡ field (bits_of image) (width * y + x) 1
unfolding pixel image_octets
pixel_is_bit width height image whole h exact x y hx hy =
    let k : ℕ = width / 8 in
    let q : ℕ = k * y + x / 8 in
    let w : width ≡ 8 * k = omega arith in
    let p : width * y ≡ 8 * (k * y) = ap (λ (a : ℕ). a * y) w ∙ mul_assoc 8 k y in
    let e : width * y + x ≡ 8 * q + x % 8 = omega arith in
    let m : k * suc y ≤ k * height = mul-le-mul_left k hy in
    let l : q < length image = rw exact (omega (arith, mul-suc k y)) in
    sym (ap (λ (n : ℕ). field (bits_of image) n 1) e ∙ bit_digit image q (x % 8) h l (omega arith))

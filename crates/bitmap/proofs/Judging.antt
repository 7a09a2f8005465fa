-- What the judges of an image and of a message find.
use Prim.Native.Nat.{ℕ, ◌-◌, ◌≤◌, ◌<◌}
use native.Mathlib.Omega.{arith}
use mathlib.Core.Path.{◌≡◌, refl, sym, ◌∙◌}
use mathlib.Core.Bool.{Bool, true, false, not}
use mathlib.Core.List.{List}
use lib.ListN.{length, get_or, take, drop}
use mir.Val.{Fits}
use mir.Syntax.{w8, w32}
use borrow.Author.Tests.{lt-ltb, le-ltb, eq-eqb, ne_eqb, not-true, not-false}
use Rattle.std.specs.Prelude.{Result, Ok, Err, ⊤}
use Rattle.bits.specs.Refusals.{refusal}
use Rattle.bits.specs.declared.refusal.Refusal.{Refusal}
use Rattle.bits.proofs.Octets.{rest}
use Rattle.bitmap.specs.Image.{sizes_taken, image_octets}
use Rattle.bitmap.specs.Bitmap.{judged, reading}
use Rattle.bitmap.specs.Promises.{verdict}
use Rattle.bitmap.proofs.Sizing.{taken_sizes}

-- ---- the exits of `fault`

pub fault_sizes : (width height : ℕ) (image : List ℕ) {t : Bool} {r : Refusal} → t ≡ sizes_taken width height → not t ≡ true → r ≡ refusal 15 0
    → Err r ≡ verdict (judged width height image)
unfolding judged
fault_sizes width height image {t} e f x = rw (x, ← e, not-true t f) refl

pub fault_octets : (width height : ℕ) (image : List ℕ) {t : Bool} {n : ℕ} {r : Refusal} → t ≡ sizes_taken width height → not t ≡ false → n ≡ image_octets width height
    → (length image ≡ n → ⊥) → r ≡ refusal 16 0 → Err r ≡ verdict (judged width height image)
unfolding judged
fault_octets width height image {t} {n} e f g h x = rw (x, ← e, not-false t f, ← g, ne_eqb (length image) n h) refl

pub fault_none : (width height : ℕ) (image : List ℕ) {t : Bool} {n : ℕ} → t ≡ sizes_taken width height → not t ≡ false → n ≡ image_octets width height → length image ≡ n
    → Ok tt ≡ verdict (judged width height image)
unfolding judged
fault_none width height image {t} {n} e f g h = rw (← e, not-false t f, ← g, eq-eqb (length image) n h) refl

pub taken_width : (width height : ℕ) {t : Bool} → t ≡ sizes_taken width height → not t ≡ false → width ≤ 248
taken_width width height {t} e f = (taken_sizes width height (sym e ∙ not-false t f)).most

pub taken_height : (width height : ℕ) {t : Bool} → t ≡ sizes_taken width height → not t ≡ false → height ≤ 255
taken_height width height {t} e f = (taken_sizes width height (sym e ∙ not-false t f)).high

pub ruleset faults = (fault_sizes, fault_octets, fault_none, taken_width, taken_height)

-- ---- the exits of `judge`

-- an octet as a wider number
pub octet_fits : {x : ℕ} → Fits w8 x → Fits w32 x
octet_fits h = omega arith

pub judge_short : (m : List ℕ) {r : Refusal} → length m < 4 → r ≡ refusal 2 0 → Err r ≡ verdict (reading m)
unfolding reading
judge_short m h x = rw (x, lt-ltb (length m) 4 h) refl

pub judge_info : (m : List ℕ) {r : Refusal} → 4 ≤ length m → (get_or m 0 0 ≡ 0 → ⊥) → r ≡ refusal 15 0 → Err r ≡ verdict (reading m)
unfolding reading
judge_info m l h x = rw (x, le-ltb (length m) 4 l, ne_eqb (get_or m 0 0) 0 h) refl

pub judge_depth : (m : List ℕ) {r : Refusal} → 4 ≤ length m → get_or m 0 0 ≡ 0 → (get_or m 3 0 ≡ 1 → ⊥) → r ≡ refusal 15 0 → Err r ≡ verdict (reading m)
unfolding reading
judge_depth m l h k x = rw (x, le-ltb (length m) 4 l, eq-eqb (get_or m 0 0) 0 h, ne_eqb (get_or m 3 0) 1 k) refl

pub judge_image : (m : List ℕ) {r : Result ⊤ Refusal} → 4 ≤ length m → get_or m 0 0 ≡ 0 → get_or m 3 0 ≡ 1
    → r ≡ verdict (judged (get_or m 1 0) (get_or m 2 0) (take (length m - 4) (drop 4 m))) → r ≡ verdict (reading m)
unfolding reading
judge_image m l h k e = rw (le-ltb (length m) 4 l, eq-eqb (get_or m 0 0) 0 h, eq-eqb (get_or m 3 0) 1 k) (rw (rest 4 m) at e)

pub ruleset judges = (judge_short, judge_info, judge_depth, judge_image)

-- The rules of bitmaps by plain conditions: when each outcome is met, and that reading and writing undo each other.
use Prim.Native.Nat.{ℕ, ◌+◌, ◌≤◌, ◌<◌}
use native.Mathlib.Omega.{arith}
use mathlib.Core.Path.{◌≡◌, refl, sym, ap, ap₂, subst, ◌∙◌}
use mathlib.Core.Logic.{◌↔◌}
use mathlib.Core.Bool.{Bool, true, false, ◌&&◌}
use mathlib.Core.List.{List, [], ◌∷◌}
use lib.ListN.{length, get_or, drop}
use lib.Dec.{ltb, leb, eqb}
use borrow.Author.Tests.{ltb-true, ltb-false, leb-true, leb-false, eqb-true, eqb-false, eq-eqb}
use Rattle.bits.specs.Choice.{pick}
use Rattle.bits.specs.Outcome.{Outcome, accepted, refused}
use Rattle.bits.specs.Bits.{Octets}
use Rattle.bits.proofs.Choice.{both}
use Rattle.bits.proofs.Octets.{octets_drop}
use Rattle.bitmap.specs.Image.{Sizes, sizes_taken, image_octets}
use Rattle.bitmap.specs.Bitmap.{Bitmap, WellFormed, writing, judged, reading, into_room, writing_into}
use Rattle.bitmap.proofs.Sizing.{taken_sizes, sizes_taken_lem}

-- ---- when each outcome is met

-- sizes and image octets as they are handed over
abbrev pub bitmap : ℕ → ℕ → List ℕ → Bitmap
bitmap width height image = record { width = width; height = height; image = image }

-- a header within the rules: info octet 00, sizes that are taken, depth 01
pub record Header (m : List ℕ) : Type 0 where
  pub info : get_or m 0 0 ≡ 0
  pub sizes : Sizes (get_or m 1 0) (get_or m 2 0)
  pub depth : get_or m 3 0 ≡ 1

-- sizes and image octets: 15 for the sizes, then 16 for the number of octets
pub data JudgedCase (width height : ℕ) (image : List ℕ) : Outcome Bitmap → Type 0 where
  outside : (Sizes width height → ⊥) → JudgedCase width height image (refused 15 0)
  other_length : Sizes width height → (length image ≡ image_octets width height → ⊥) → JudgedCase width height image (refused 16 0)
  right : Sizes width height → length image ≡ image_octets width height → JudgedCase width height image (accepted (bitmap width height image))

-- a message: 2 for fewer than four octets, 15 for a header outside the rules, 16 for an image of another length
pub data ReadingCase (m : List ℕ) : Outcome Bitmap → Type 0 where
  short : length m < 4 → ReadingCase m (refused 2 0)
  outside : 4 ≤ length m → (Header m → ⊥) → ReadingCase m (refused 15 0)
  other_length : 4 ≤ length m → Header m → (length (drop 4 m) ≡ image_octets (get_or m 1 0) (get_or m 2 0) → ⊥) → ReadingCase m (refused 16 0)
  right : 4 ≤ length m → Header m → length (drop 4 m) ≡ image_octets (get_or m 1 0) (get_or m 2 0) → ReadingCase m (accepted (bitmap (get_or m 1 0) (get_or m 2 0) (drop 4 m)))

-- writing: 15 for the sizes, 16 for the number of octets, 11 for the room
pub data WritingCase (room width height : ℕ) (image : List ℕ) : Outcome (List ℕ) → Type 0 where
  outside : (Sizes width height → ⊥) → WritingCase room width height image (refused 15 0)
  other_length : Sizes width height → (length image ≡ image_octets width height → ⊥) → WritingCase room width height image (refused 16 0)
  small : Sizes width height → length image ≡ image_octets width height → room < length image + 4 → WritingCase room width height image (refused 11 0)
  right : Sizes width height → length image ≡ image_octets width height → length image + 4 ≤ room
      → WritingCase room width height image (accepted (writing (bitmap width height image)))

by_octets : (width height : ℕ) (image : List ℕ) → Sizes width height → (t : Bool) → eqb (length image) (image_octets width height) ≡ t
    → JudgedCase width height image (pick t (accepted (bitmap width height image)) (refused 16 0))
by_octets width height image s true e = right s (eqb-true (length image) (image_octets width height) e)
by_octets width height image s false e = other_length s (eqb-false (length image) (image_octets width height) e)

never : {A : Type 0} → true ≡ false → A
never e = let z : ◌≡◌ {A = ℕ} 0 1 = cc in let n : ⊥ = omega arith in absurd n

by_sizes : (width height : ℕ) (image : List ℕ) (t : Bool) → sizes_taken width height ≡ t
    → JudgedCase width height image
    (pick t (pick (eqb (length image) (image_octets width height)) (accepted (bitmap width height image)) (refused 16 0)) (refused 15 0))
by_sizes width height image true e = by_octets width height image (taken_sizes width height e) (eqb (length image) (image_octets width height)) refl
by_sizes width height image false e = outside (λ s. never (sym (sizes_taken_lem width height s) ∙ e))

-- the judgement of sizes and image octets, by plain conditions
pub judged_is : (width height : ℕ) (image : List ℕ) → JudgedCase width height image (judged width height image)
unfolding judged
judged_is width height image = by_sizes width height image (sizes_taken width height) refl

met : (m : List ℕ) → 4 ≤ length m → get_or m 0 0 ≡ 0 → get_or m 3 0 ≡ 1 → {o : Outcome Bitmap} → JudgedCase (get_or m 1 0) (get_or m 2 0) (drop 4 m) o → ReadingCase m o
met m l i d (outside n) = outside l (λ h. n h.sizes)
met m l i d (other_length s n) = other_length l (record { info = i; sizes = s; depth = d }) n
met m l i d (right s e) = right l (record { info = i; sizes = s; depth = d }) e

by_header : (m : List ℕ) → 4 ≤ length m → (t : Bool) → (eqb (get_or m 0 0) 0 && eqb (get_or m 3 0) 1) ≡ t
    → ReadingCase m (pick t (judged (get_or m 1 0) (get_or m 2 0) (drop 4 m)) (refused 15 0))
by_header m l true e =
    let b = both (eqb (get_or m 0 0) 0) (eqb (get_or m 3 0) 1) e in
    met m l (eqb-true (get_or m 0 0) 0 b.0) (eqb-true (get_or m 3 0) 1 b.1) (judged_is (get_or m 1 0) (get_or m 2 0) (drop 4 m))
by_header m l false e = outside l (λ h. never (sym (rw (eq-eqb (get_or m 0 0) 0 h.info, eq-eqb (get_or m 3 0) 1 h.depth) refl) ∙ e))

by_length : (m : List ℕ) (t : Bool) → ltb (length m) 4 ≡ t
    → ReadingCase m (pick t (refused 2 0) (pick (eqb (get_or m 0 0) 0 && eqb (get_or m 3 0) 1) (judged (get_or m 1 0) (get_or m 2 0) (drop 4 m)) (refused 15 0)))
by_length m true e = short (ltb-true (length m) 4 e)
by_length m false e = by_header m (ltb-false (length m) 4 e) (eqb (get_or m 0 0) 0 && eqb (get_or m 3 0) 1) refl

-- the outcome of reading, by plain conditions
pub reading_is : (m : List ℕ) → ReadingCase m (reading m)
unfolding reading
reading_is m = by_length m (ltb (length m) 4) refl

by_room : (room width height : ℕ) (image : List ℕ) → Sizes width height → length image ≡ image_octets width height → (t : Bool)
    → leb (length (writing (bitmap width height image))) room ≡ t
    → WritingCase room width height image (pick t (accepted (writing (bitmap width height image))) (refused 11 0))
by_room room width height image s e true h = right s e (omega (arith, leb-true (length (writing (bitmap width height image))) room h))
by_room room width height image s e false h = small s e (omega (arith, leb-false (length (writing (bitmap width height image))) room h))

put : (room width height : ℕ) (image : List ℕ) {o : Outcome Bitmap} → JudgedCase width height image o → WritingCase room width height image (into_room room o)
put room width height image (outside n) = outside n
put room width height image (other_length s n) = other_length s n
put room width height image (right s e) = by_room room width height image s e (leb (length (writing (bitmap width height image))) room) refl

-- the outcome of writing, by plain conditions
pub writing_is : (room width height : ℕ) (image : List ℕ) → WritingCase room width height image (writing_into room width height image)
unfolding writing_into
writing_is room width height image = put room width height image (judged_is width height image)

-- ---- reading and writing undo each other

-- what is refused is not accepted
pub refused_not : {A B : Type 0} {n p : ℕ} {x : A} → refused n p ≡ accepted x → B
refused_not e = let z : ◌≡◌ {A = ℕ} 0 1 = cc in let n : ⊥ = omega arith in absurd n

-- a message with a header within the rules is what its sizes and its image spell
pub spelt : (m : List ℕ) → 4 ≤ length m → Header m → writing (bitmap (get_or m 1 0) (get_or m 2 0) (drop 4 m)) ≡ m
spelt [] l h = let z : ⊥ = omega arith in absurd z
spelt (a ∷ []) l h = let z : ⊥ = omega arith in absurd z
spelt (a ∷ b ∷ []) l h = let z : ⊥ = omega arith in absurd z
spelt (a ∷ b ∷ c ∷ []) l h = let z : ⊥ = omega arith in absurd z
spelt (a ∷ b ∷ c ∷ d ∷ m) l h = ap₂ (λ (x y : ℕ). x ∷ b ∷ c ∷ y ∷ m) (sym h.info) (sym h.depth)

sound : (m : List ℕ) (b : Bitmap) {o : Outcome Bitmap} → ReadingCase m o → o ≡ accepted b
    → Sizes b.width b.height × (length b.image ≡ image_octets b.width b.height) × (writing b ≡ m)
sound m b (short l) e = refused_not e
sound m b (outside l n) e = refused_not e
sound m b (other_length l h n) e = refused_not e
sound m b (right l h x) e =
    let q : bitmap (get_or m 1 0) (get_or m 2 0) (drop 4 m) ≡ b = cc in
    subst
    (λ (a : Bitmap). Sizes a.width a.height × (length a.image ≡ image_octets a.width a.height) × (writing a ≡ m))
    q
    (h.sizes, x, spelt m l h)

complete : (b : Bitmap) → Sizes b.width b.height → length b.image ≡ image_octets b.width b.height → {o : Outcome Bitmap} → ReadingCase (writing b) o → o ≡ accepted b
complete b s x (short l) = let z : ⊥ = omega arith in absurd z
complete b s x (outside l n) = absurd (n (record { info = refl; sizes = s; depth = refl }))
complete b s x (other_length l h n) = absurd (n x)
complete b s x (right l h y) = refl

-- reading the writing of a well-formed bitmap gives that bitmap
pub read_written : (b : Bitmap) → WellFormed b → reading (writing b) ≡ accepted b
read_written b f = complete b f.sizes f.exact (reading_is (writing b))

-- the same where the image is any list of numbers
pub read_spelt : (b : Bitmap) → Sizes b.width b.height → length b.image ≡ image_octets b.width b.height → reading (writing b) ≡ accepted b
read_spelt b s x = complete b s x (reading_is (writing b))

-- what is read has sizes that are taken, and as many octets as they ask
pub read_right : (m : List ℕ) (b : Bitmap) → reading m ≡ accepted b → Sizes b.width b.height × (length b.image ≡ image_octets b.width b.height)
read_right m b e = let s = sound m b (reading_is m) e in (s.0, s.1)

-- writing what was read gives the same octets
pub write_read : (m : List ℕ) (b : Bitmap) → reading m ≡ accepted b → writing b ≡ m
write_read m b e = (sound m b (reading_is m) e).2

-- what is read from octets is well formed
pub read_well_formed : (m : List ℕ) (b : Bitmap) → Octets m → reading m ≡ accepted b → WellFormed b
read_well_formed m b o e =
    let r = read_right m b e in
    record { sizes = r.0; octets = octets_drop 4 (writing b) (subst Octets (sym (write_read m b e)) o); exact = r.1 }

-- reading m accepts b exactly if b is well formed and its writing is m
pub reads_exactly : (m : List ℕ) (b : Bitmap) → Octets m → (reading m ≡ accepted b) ↔ (WellFormed b × (writing b ≡ m))
reads_exactly m b o = (λ e. (read_well_formed m b o e, write_read m b e), λ f. ap reading (sym f.1) ∙ read_written b f.0)

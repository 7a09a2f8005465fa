-- What the public calls return keeps their promises.
use Prim.Native.Nat.{ℕ, ◌+◌, ◌-◌, ◌≤◌, ◌<◌}
use native.Mathlib.Omega.{arith}
use native.Mathlib.Nat.{add_comm}
use mathlib.Core.Path.{◌≡◌, refl, sym, ap, ◌∙◌}
use mathlib.Core.List.{List, ◌++◌}
use lib.ListN.{length, get_or, take, drop, length-take, length-drop}
use borrow.Author.Tests.{lt-leb, le-leb}
use denote.Ref.{Bor}
use mir.Val.{Fits}
use mir.Syntax.{w8}
use Rattle.std.specs.Prelude.{Result, Ok, Err, ⊤}
use Rattle.bits.specs.Outcome.{Outcome, accepted, refused}
use Rattle.bits.specs.Refusals.{number_of, refusal}
use Rattle.bits.proofs.Refusals.{GivenBy}
use Rattle.bits.proofs.Answered.{not_refused, by_number, refusal_answered}
use Rattle.bits.specs.declared.refusal.Refusal.{Refusal}
use Rattle.bits.proofs.Octets.{octets_of_lem, octets_drop, rest}
use Rattle.written.proofs.Unique.{written, unwritten}
use Rattle.bitmap.specs.Image.{Sizes, image_octets, black_pixels, ones_of}
use Rattle.bitmap.specs.Bitmap.{Bitmap, writing, judged, reading, writing_into}
use Rattle.bitmap.specs.Promises.{verdict, told, ReadPromise, ImagePromise, WritePromise}
use Rattle.bitmap.proofs.Sizing.{octets_most}
use Rattle.bitmap.proofs.Pixels.{black_are_ones}
use Rattle.bitmap.proofs.Judging.{octet_fits}
use Rattle.bitmap.proofs.Rules.{bitmap, Header, JudgedCase, ReadingCase, judged_is, reading_is}

-- ---- what a verdict says

-- a message that meets no refusal
pub record Clear (m : List ℕ) : Type 0 where
  pub long : 4 ≤ length m
  pub header : Header m
  pub exact : length (drop 4 m) ≡ image_octets (get_or m 1 0) (get_or m 2 0)
  pub reads : reading m ≡ accepted (bitmap (get_or m 1 0) (get_or m 2 0) (drop 4 m))

clear : (m : List ℕ) {o : Outcome Bitmap} → ReadingCase m o → reading m ≡ o → {u : ⊤} → Ok u ≡ verdict o → Clear m
clear m (ReadingCase.short l) e z = not_refused z
clear m (ReadingCase.outside l n) e z = not_refused z
clear m (ReadingCase.other_length l h n) e z = not_refused z
clear m (ReadingCase.right l h x) e z = record { long = l; header = h; exact = x; reads = e }

pub cleared : (m : List ℕ) {v : Result ⊤ Refusal} {u : ⊤} → v ≡ verdict (reading m) → v ≡ Ok u → Clear m
cleared m e z = clear m (reading_is m) refl (sym z ∙ e)

-- each refusal has a number of document 01
judged_given : (width height : ℕ) (image : List ℕ) {o : Outcome Bitmap} → JudgedCase width height image o → GivenBy o
judged_given width height image (JudgedCase.outside k) = refl
judged_given width height image (JudgedCase.other_length s k) = refl
judged_given width height image (JudgedCase.right s x) = tt

reading_given : (m : List ℕ) {o : Outcome Bitmap} → ReadingCase m o → GivenBy o
reading_given m (ReadingCase.short l) = refl
reading_given m (ReadingCase.outside l n) = refl
reading_given m (ReadingCase.other_length l h n) = refl
reading_given m (ReadingCase.right l h x) = tt

pub judged_numbered : (width height : ℕ) (image : List ℕ) → GivenBy (judged width height image)
judged_numbered width height image = judged_given width height image (judged_is width height image)

pub reading_numbered : (m : List ℕ) → GivenBy (reading m)
reading_numbered m = reading_given m (reading_is m)

pub refused_reading : (m : List ℕ) {v : Result ⊤ Refusal} {r : Refusal} → v ≡ verdict (reading m) → v ≡ Err r → reading m ≡ refused (number_of r.why) r.place.0
refused_reading m e k = refusal_answered (λ b. tt) (reading m) (reading_numbered m) (sym k ∙ e)

-- ---- `read`

-- an accepted message has its four octets of header, and no more octets than the largest image
pub read_long : (m : List ℕ) (k : ℕ) {v : Result ⊤ Refusal} {u : ⊤} → k ≤ 4 → v ≡ verdict (reading m) → v ≡ Ok u → k ≤ length m
read_long m k h e z = omega (arith, (cleared m e z).long)

pub read_inside : (m : List ℕ) (k : ℕ) {v : Result ⊤ Refusal} {u : ⊤} → k < 4 → v ≡ verdict (reading m) → v ≡ Ok u → k < length m
read_inside m k h e z = omega (arith, (cleared m e z).long)

pub read_small : (m : List ℕ) (k : ℕ) {v : Result ⊤ Refusal} {u : ⊤} → v ≡ verdict (reading m) → v ≡ Ok u → length (take (length m - k) (drop k m)) ≤ 65536
unfolding image_octets
read_small m k e z =
    let c = cleared m e z in
    let s = c.header.sizes in
    let o = octets_most (get_or m 1 0) (get_or m 2 0) s.most s.high in
    let l : length (drop 4 m) ≡ length m - 4 = length-drop 4 m in
    simp (length-take, length-drop) (omega (arith, c.exact, c.long, o, l))

pub read_refused : (m : List ℕ) {v : Result ⊤ Refusal} {r : Refusal} → v ≡ verdict (reading m) → v ≡ Err r → ReadPromise m (Err r)
read_refused m {v} {r} e k = let q = refused_reading m e k in record { answer = rw q (ap Err (sym (by_number r))); numbers = rw q refl }

pub read_accepted : (m : List ℕ) {v : Result ⊤ Refusal} {u : ⊤} {k : ℕ} → ((i : ℕ) → Fits w8 (get_or m i 0)) → v ≡ verdict (reading m) → v ≡ Ok u
    → k ≡ ones_of (take (length m - 4) (drop 4 m)) → ReadPromise m (Ok (told (get_or m 1 0) (get_or m 2 0) k))
read_accepted m {k = k} f e z h =
    let c = cleared m e z in
    let b : k ≡ black_pixels (get_or m 1 0) (get_or m 2 0) (drop 4 m) =
    h ∙ ap ones_of (rest 4 m)
    ∙ sym (black_are_ones (get_or m 1 0) (get_or m 2 0) (drop 4 m) c.header.sizes.whole (octets_drop 4 m (octets_of_lem m f)) c.exact) in
    record { answer = rw (c.reads, b) refl; numbers = rw (c.reads, b) refl }

pub ruleset reads = (octet_fits, read_long, read_inside, read_small, read_refused, read_accepted)

-- ---- `image`

pub image_accepted : (m : Bor (List ℕ)) {v : Result ⊤ Refusal} {u : ⊤} → v ≡ verdict (reading m.now) → v ≡ Ok u
    → ImagePromise m (record { ref_ptr = (m.ref_ptr.0, 4 + m.ref_ptr.1); now = take (length m.now - 4) (drop 4 m.now) })
image_accepted m e z =
    let q = (cleared m.now e z).reads in
    record { octets = rw q (rest 4 m.now); block = refl; start = rw q (add_comm 4 m.ref_ptr.1) }

pub image_refused : (m : Bor (List ℕ)) {v : Result ⊤ Refusal} {r : Refusal} → v ≡ verdict (reading m.now) → v ≡ Err r
    → ImagePromise m (record { ref_ptr = (m.ref_ptr.0, 0 + m.ref_ptr.1); now = take (0 - 0) (drop 0 m.now) })
image_refused m e k =
    let q = refused_reading m.now e k in
    record { octets = rw q refl; block = refl; start = rw q (add_comm 0 m.ref_ptr.1) }

pub ruleset images = (read_long, image_accepted, image_refused)

-- ---- `write`

-- what the judge of sizes and image finds
right : (width height : ℕ) (image : List ℕ) {o : Outcome Bitmap} → JudgedCase width height image o → {u : ⊤} → Ok u ≡ verdict o
    → (o ≡ accepted (bitmap width height image)) × Sizes width height
right width height image (JudgedCase.outside k) z = not_refused z
right width height image (JudgedCase.other_length s k) z = not_refused z
right width height image (JudgedCase.right s x) z = (refl, s)

module _ (width height : ℕ) (image : List ℕ) {v : Result ⊤ Refusal} (e : v ≡ verdict (judged width height image)) where
  pub judged_right : {u : ⊤} → v ≡ Ok u → judged width height image ≡ accepted (bitmap width height image)
  judged_right z = (right width height image (judged_is width height image) (sym z ∙ e)).0

  pub judged_wrong : {r : Refusal} → v ≡ Err r → judged width height image ≡ refused (number_of r.why) r.place.0
  judged_wrong k = refusal_answered (λ b. tt) (judged width height image) (judged_numbered width height image) (sym k ∙ e)

  pub write_width : {u : ⊤} → v ≡ Ok u → Fits w8 width
  write_width z = omega (arith, ((right width height image (judged_is width height image) (sym z ∙ e)).1).most)

  pub write_height : {u : ⊤} → v ≡ Ok u → Fits w8 height
  write_height z = omega (arith, ((right width height image (judged_is width height image) (sym z ∙ e)).1).high)

  -- what is refused for its sizes or its image
  pub write_refused : (out : List ℕ) {r : Refusal} → v ≡ Err r → WritePromise width height image out (Err r) out
  unfolding writing_into
  write_refused out k = unwritten (writing_into (length out) width height image) out (rw (judged_wrong k) refl)

  -- what is refused for want of room
  pub write_full : (out : List ℕ) (k : ℕ) {u : ⊤} {r : Refusal} → v ≡ Ok u → length out < length image + k → k ≤ 4 → r ≡ refusal 11 0
      → WritePromise width height image out (Err r) out
  unfolding writing_into
  write_full out k z l h x =
      let t = lt-leb (length (writing (bitmap width height image))) (length out) (omega arith) in
      unwritten (writing_into (length out) width height image) out (rw (x, judged_right z, t) refl)

  -- what is written
  pub write_done : (out : List ℕ) {u : ⊤} {after : List ℕ} → v ≡ Ok u → length image + 4 ≤ length out
      → after ≡ writing (bitmap width height image) ++ drop (length image + 4) out → WritePromise width height image out (Ok (record { 0 = length image + 4 })) after
  unfolding writing_into
  write_done out {after = after} z l f =
      let w = writing (bitmap width height image) in
      let t = le-leb (length w) (length out) (omega arith) in
      let s : length image + 4 ≡ length w = omega arith in
      written (writing_into (length out) width height image) out after w (rw (judged_right z, t) refl) s (f ∙ ap (λ (n : ℕ). w ++ drop n out) s)

pub ruleset writes = (write_width, write_height, write_refused, write_full, write_done)

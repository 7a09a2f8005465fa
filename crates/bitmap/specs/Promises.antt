-- What each public call promises: every number returned and every cell lent, on acceptance and on refusal.
use Rattle.std.specs.Prelude.{ℕ, ◌+◌, ◌≡◌, List, length, take, drop, Result, Ok, Err, ⊤}
use Rattle.std.specs.Borrow.{Bor}
use Rattle.bits.specs.Outcome.{Outcome, accepted, refused}
use Rattle.bits.specs.Refusals.{number_of, answered}
use Rattle.bits.specs.declared.refusal.Refusal.{Refusal}
use Rattle.written.specs.Written.{Writing, Fills}
use Rattle.bitmap.specs.declared.Reading.{Reading}
use Rattle.bitmap.specs.Image.{black_pixels}
use Rattle.bitmap.specs.Bitmap.{Bitmap, reading, writing_into}

-- ---- judging

-- whether it is accepted, or the refusal
abbrev pub verdict : {A : Type 0} → Outcome A → Result ⊤ Refusal
verdict o = answered (λ a. tt) o

-- ---- read

-- the numbers of an answer to reading
pub record ReadNumbers : Type 0 where
  pub refusal : ℕ
  pub place : ℕ
  pub width : ℕ
  pub height : ℕ
  pub black : ℕ

-- sizes and black pixels, as an answer holds them
abbrev pub told : ℕ → ℕ → ℕ → Reading
told w h k = record { width = w; height = h; black = k }

-- the answer that the rules ask for
abbrev pub read_answer : Outcome Bitmap → Result Reading Refusal
read_answer o = answered (λ b. told b.width b.height (black_pixels b.width b.height b.image)) o

-- the numbers that the rules ask for: on a refusal its number and place, all others 0
abbrev pub read_numbers : Outcome Bitmap → ReadNumbers
read_numbers (accepted b) = record { refusal = 0; place = 0; width = b.width; height = b.height; black = black_pixels b.width b.height b.image }
read_numbers (refused n p) = record { refusal = n; place = p; width = 0; height = 0; black = 0 }

-- the numbers of each case of the answer
abbrev pub numbers_of_reading : Result Reading Refusal → ReadNumbers
numbers_of_reading (Ok x) = record { refusal = 0; place = 0; width = x.width; height = x.height; black = x.black }
numbers_of_reading (Err r) = record { refusal = number_of r.why; place = r.place.0; width = 0; height = 0; black = 0 }

-- `read` of the message m answers r
pub record ReadPromise (m : List ℕ) (r : Result Reading Refusal) : Type 0 where
  pub answer : r ≡ read_answer (reading m)
  pub numbers : numbers_of_reading r ≡ read_numbers (reading m)

-- ---- image

-- the image as a stretch of the message: all that follows the four octets of the header; on a refusal the empty front
abbrev pub image_of : Outcome Bitmap → List ℕ → List ℕ
image_of (accepted b) m = drop 4 m
image_of (refused n p) m = take 0 m

-- the octets of the message that stand ahead of that stretch
abbrev pub image_start : Outcome Bitmap → ℕ
image_start (accepted b) = 4
image_start (refused n p) = 0

-- `image` of the message m hands back the part r: these octets, where they stand in the message's own memory
pub record ImagePromise (m r : Bor (List ℕ)) : Type 0 where
  pub octets : r.now ≡ image_of (reading m.now) m.now
  pub block : r.ref_ptr.0 ≡ m.ref_ptr.0
  pub start : r.ref_ptr.1 ≡ m.ref_ptr.1 + image_start (reading m.now)

-- ---- write

-- `write` of sizes and image octets into the buffer `out` answers r and leaves `after` in the buffer
abbrev pub WritePromise : (width height : ℕ) (image out : List ℕ) (r : Writing) (after : List ℕ) → Type 0
WritePromise width height image out r after = Fills (writing_into (length out) width height image) out after r

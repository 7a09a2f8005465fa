-- What each call promises, once for the three kinds: every number returned and every cell lent, on acceptance and on refusal.
use Rattle.std.specs.Prelude.{ℕ, ◌+◌, ◌≡◌, List, [], length, Result, Ok, Err}
use Rattle.std.specs.Borrow.{Bor}
use Rattle.bits.specs.Outcome.{Outcome, accepted, refused}
use Rattle.bits.specs.Places.{octet_count}
use Rattle.bits.specs.Refusals.{number_of, answered}
use Rattle.bits.specs.declared.refusal.Refusal.{Refusal}
use Rattle.written.specs.Written.{Writing, Fills}
use Rattle.bitmap.specs.Image.{black_pixels}
use Rattle.bitmap_ahead.specs.declared.Kind.{Kind}
use Rattle.bitmap_ahead.specs.declared.Kind.TheVariants.{Plain, Icon, Logo}
use Rattle.bitmap_ahead.specs.Ahead.{Ahead, ahead_octets}
use Rattle.bitmap_kinds.specs.declared.Field.{Field}
use Rattle.bitmap_kinds.specs.declared.Field.TheVariants.{Mcc, Mnc, Date, Image}
use Rattle.bitmap_kinds.specs.declared.Stretch.{Stretch}
use Rattle.bitmap_kinds.specs.declared.Fields.{Fields}
use Rattle.bitmap_kinds.specs.declared.Reading.{Reading}
use Rattle.bitmap_kinds.specs.Kinds.{Graphic, reading, writing_into}

-- ---- the fields of a message, each a stretch of it

-- a field's octets
abbrev pub field_of : Field → Graphic → List ℕ
field_of Mcc g = g.ahead.mcc
field_of Mnc g = g.ahead.mnc
field_of Date g = g.ahead.date
field_of Image g = g.bitmap.image

-- where a field stands that only a logo has; in the other kinds it is empty and stands at 0
abbrev pub in_logo : Kind → ℕ → ℕ
in_logo Plain at = 0
in_logo Icon at = 0
in_logo Logo at = at

-- where a field begins: the codes at 1 and 4, the date at 6, the image behind the part ahead and the four octets of the bitmap's header
abbrev pub field_start : Kind → Field → Graphic → ℕ
field_start kind Mcc g = in_logo kind 1
field_start kind Mnc g = in_logo kind 4
field_start kind Date g = in_logo kind 6
field_start kind Image g = length (ahead_octets kind g.ahead) + 4

-- so many octets from a place on
abbrev pub stretch : ℕ → ℕ → Stretch
stretch start octets = record { start = octet_count start; length = octet_count octets }

-- the stretch that a field is
abbrev pub stretch_of : Kind → Field → Graphic → Stretch
stretch_of kind f g = stretch (field_start kind f g) (length (field_of f g))

-- the stretches of all four
abbrev pub fields_of : Kind → Graphic → Fields
fields_of kind g = record { mcc = stretch_of kind Mcc g; mnc = stretch_of kind Mnc g; date = stretch_of kind Date g; image = stretch_of kind Image g }

-- on a refusal each is empty
abbrev pub no_fields : Fields
no_fields = record { mcc = stretch 0 0; mnc = stretch 0 0; date = stretch 0 0; image = stretch 0 0 }

-- ---- read

-- the numbers of an answer to reading
pub record ReadNumbers : Type 0 where
  pub refusal : ℕ
  pub place : ℕ
  pub width : ℕ
  pub height : ℕ
  pub black : ℕ
  pub fields : Fields

-- the black pixels of a bitmap with what is said ahead of it: those of its image
abbrev pub black_of : Graphic → ℕ
black_of g = black_pixels g.bitmap.width g.bitmap.height g.bitmap.image

-- fields, sizes and black pixels, as an answer holds them
abbrev pub told : Fields → ℕ → ℕ → ℕ → Reading
told f w h k = record { fields = f; width = w; height = h; black = k }

-- what is told of a bitmap with what is said ahead of it
abbrev pub told_of : Kind → Graphic → Reading
told_of kind g = told (fields_of kind g) g.bitmap.width g.bitmap.height (black_of g)

-- the answer that the rules ask for
abbrev pub read_answer : Kind → Outcome Graphic → Result Reading Refusal
read_answer kind o = answered (told_of kind) o

-- the numbers that the rules ask for: on a refusal its number and place, all others 0
abbrev pub read_numbers : Kind → Outcome Graphic → ReadNumbers
read_numbers kind (accepted g) =
    record { refusal = 0; place = 0; width = g.bitmap.width; height = g.bitmap.height; black = black_of g; fields = fields_of kind g }
read_numbers kind (refused n p) = record { refusal = n; place = p; width = 0; height = 0; black = 0; fields = no_fields }

-- the numbers of each case of the answer
abbrev pub numbers_of_reading : Result Reading Refusal → ReadNumbers
numbers_of_reading (Ok x) = record { refusal = 0; place = 0; width = x.width; height = x.height; black = x.black; fields = x.fields }
numbers_of_reading (Err r) = record { refusal = number_of r.why; place = r.place.0; width = 0; height = 0; black = 0; fields = no_fields }

-- `read` of the message m as a kind answers r
pub record ReadPromise (kind : Kind) (m : List ℕ) (r : Result Reading Refusal) : Type 0 where
  pub answer : r ≡ read_answer kind (reading kind m)
  pub numbers : numbers_of_reading r ≡ read_numbers kind (reading kind m)

-- ---- field_of

-- the octets of a field; on a refusal none
abbrev pub octets_of : Field → Outcome Graphic → List ℕ
octets_of f (accepted g) = field_of f g
octets_of f (refused n p) = []

-- where it begins in the message; on a refusal at 0
abbrev pub start_in : Kind → Field → Outcome Graphic → ℕ
start_in kind f (accepted g) = field_start kind f g
start_in kind f (refused n p) = 0

-- `field_of` the message m as a kind hands back the part r: these octets, where they stand in the message's own memory
pub record FieldPromise (kind : Kind) (f : Field) (m r : Bor (List ℕ)) : Type 0 where
  pub octets : r.now ≡ octets_of f (reading kind m.now)
  pub block : r.ref_ptr.0 ≡ m.ref_ptr.0
  pub start : r.ref_ptr.1 ≡ m.ref_ptr.1 + start_in kind f (reading kind m.now)

-- ---- write

-- `write` as a kind into the buffer `out` answers r and leaves `after` in the buffer
abbrev pub WritePromise : (kind : Kind) (a : Ahead) (width height : ℕ) (image out : List ℕ) (r : Writing) (after : List ℕ) → Type 0
WritePromise kind a width height image out r after = Fills (writing_into (length out) kind a width height image) out after r

-- A bitmap of a kind: what stands ahead of it, and then a plain bitmap.
use Rattle.std.specs.Prelude.{ℕ, ◌+◌, List, ◌++◌, length, drop, ltb, leb}
use Rattle.bits.specs.Choice.{pick}
use Rattle.bits.specs.Outcome.{Outcome, accepted, refused}
use Rattle.bitmap.specs.Bitmap.{Bitmap, WellFormed as WellFormedBitmap, writing as bitmapOctets, judged as bitmapJudged, reading as bitmapReading}
use Rattle.bitmap_ahead.specs.declared.Kind.{Kind}
use Rattle.bitmap_ahead.specs.Ahead.{Ahead, WellFormed as WellFormedAhead, ahead_octets, taken, start_of, ahead_in, stands}

-- a bitmap, and what is said ahead of it
pub record Graphic : Type 0 where
  pub ahead : Ahead
  pub bitmap : Bitmap

-- well formed as a kind: what is said ahead is, and the bitmap is
pub record WellFormed (kind : Kind) (g : Graphic) : Type 0 where
  pub ahead : WellFormedAhead kind g.ahead
  pub bitmap : WellFormedBitmap g.bitmap

-- its writing: what stands ahead, then the bitmap
abbrev pub writing : Kind → Graphic → List ℕ
writing kind g = ahead_octets kind g.ahead ++ bitmapOctets g.bitmap

-- a bitmap that is read or judged, with what is said ahead of it
abbrev pub with_ahead : Ahead → Outcome Bitmap → Outcome Graphic
with_ahead a (accepted b) = accepted (record { ahead = a; bitmap = b })
with_ahead a (refused n p) = refused n p

-- reading: 2 where the part ahead and the bitmap's four octets of header are not all there, 20 for the part ahead, then the bitmap's 15 and 16
unfoldable pub reading : Kind → List ℕ → Outcome Graphic
reading kind m =
    pick (ltb (length m) (start_of kind m + 4))
    (refused 2 0)
    (pick (stands kind m) (with_ahead (ahead_in kind m) (bitmapReading (drop (start_of kind m) m))) (refused 20 0))

-- what is to be written: 20 for what is said ahead, then the bitmap's 15 and 16
unfoldable pub judged : Kind → Ahead → ℕ → ℕ → List ℕ → Outcome Graphic
judged kind a width height image = pick (taken kind a) (with_ahead a (bitmapJudged width height image)) (refused 20 0)

-- it needs room: 11
abbrev pub into_room : ℕ → Kind → Outcome Graphic → Outcome (List ℕ)
into_room room kind (accepted g) = pick (leb (length (writing kind g)) room) (accepted (writing kind g)) (refused 11 0)
into_room room kind (refused n p) = refused n p

-- writing into so much room: 20, 15, 16, 11
unfoldable pub writing_into : ℕ → Kind → Ahead → ℕ → ℕ → List ℕ → Outcome (List ℕ)
writing_into room kind a width height image = into_room room kind (judged kind a width height image)

-- What each export promises: its answer holds the numbers of document 01, and every lent cell is as the rules say.
use Rattle.std.specs.Prelude.{ℕ, ◌+◌, ◌*◌, ◌≡◌, Bool, true, false, List, length, take, drop}
use Rattle.bits.specs.Choice.{pick}
use Rattle.bits.specs.Outcome.{Outcome}
use Rattle.tone_read.specs.Promise.{Numbers as ReadNumbers, read_numbers, read_into, table_after, title_after}
use Rattle.tone_write.specs.Judging.{write_tone}
use Rattle.tone_write.specs.Promise.{write_numbers, octets_after}
use Rattle.written.specs.Written.{answer_as, FillsNumbers}
use Rattle.label.specs.declared.Supplier.{Supplier}
use Rattle.label.specs.declared.Supplier.TheVariants.{Title, StandIn}
use Rattle.label.specs.Label.{stands_in, label_of}
use Rattle.list_rules.specs.declared.Entry.{Entry}
use Rattle.list_rules.specs.Playing.{Listing}
use Rattle.list_rules.specs.Listing.{list_tone, fits_numbers, fits_both}
use Rattle.list.specs.Promise.{Numbers as ListNumbers, list_numbers, cells_after, rows_after}
use Rattle.edit_change.specs.declared.Edit.{Edit}
use Rattle.edit.specs.Editing.{Edited, edit_message, buffer_after, list_after}
use Rattle.edit.specs.Promise.{Numbers as EditNumbers, edit_numbers}
use Rattle.bitmap.specs.Bitmap.{reading, writing_into}
use Rattle.bitmap.specs.Promises.{ReadNumbers as BitmapNumbers, read_numbers as bitmapNumbers, image_of, image_start}
use Rattle.bitmap_ahead.specs.declared.Kind.{Kind}
use Rattle.bitmap_ahead.specs.Ahead.{Ahead}
use Rattle.bitmap_kinds.specs.Kinds.{writing_into as kindInto}
use Rattle.bitmap_answers.specs.declared.BitmapAnswer.{BitmapAnswer}
use Rattle.ohakelm.specs.declared.ToneAnswer.{ToneAnswer}
use Rattle.written.specs.declared.WrittenAnswer.{WrittenAnswer}
use Rattle.ohakelm.specs.declared.LabelAnswer.{LabelAnswer}
use Rattle.ohakelm.specs.declared.ListAnswer.{ListAnswer}
use Rattle.ohakelm.specs.declared.EditAnswer.{EditAnswer}

-- ---- the version

-- a version is first × 10,000 + second × 100 + third; this one is 0.10.0
abbrev pub version : ℕ
version = 0 * 10000 + 10 * 100 + 0

-- `ohakelm_version`: the version
pub record VersionExport (r : ℕ) : Type 0 where
  pub answer : r ≡ version

-- ---- reading a tone

-- the numbers of a reading, as the answer holds them
abbrev pub read_as : ReadNumbers → ToneAnswer
read_as n = record {
  refusal = n.refusal;
  place = n.place;
  song = n.song;
  unicode = n.unicode;
  characters = n.characters;
  patterns = n.patterns;
  entries = n.entries;
}

-- `ohakelm_read`: every number, every cell of the table and every octet of the title
pub record ReadExport (m table title table' title' : List ℕ) (r : ToneAnswer) : Type 0 where
  pub answer : r ≡ read_as (read_numbers (read_into m (length title) (length table)))
  pub leaves_table : table' ≡ table_after (read_into m (length title) (length table)) table
  pub leaves_title : title' ≡ title_after (read_into m (length title) (length table)) title

-- ---- writing a tone

-- `ohakelm_write`: every number and every octet of the buffer
pub record WriteExport (song : ℕ) (unicode : Bool) (title table out out' : List ℕ) (r : WrittenAnswer) : Type 0 where
  pub answer : r ≡ answer_as (write_numbers (write_tone song unicode title table (length out)))
  pub leaves : out' ≡ octets_after (write_tone song unicode title table (length out)) out

-- ---- the label

-- who supplies a label, as the answer holds it
abbrev pub supplied_as : Supplier → LabelAnswer
supplied_as (StandIn n) = record { stand_in = true; start = 0; length = n.0 }
supplied_as (Title n) = record { stand_in = false; start = 0; length = n.0 }

-- `ohakelm_label`: the buffer that supplies the label, and the stretch of it that is the label
pub record LabelExport (title : List ℕ) (unicode : Bool) (standIn : List ℕ) (r : LabelAnswer) : Type 0 where
  pub answer : r ≡ record { stand_in = stands_in unicode title; start = 0; length = length (label_of unicode title standIn) }
  pub stretch : label_of unicode title standIn ≡ take r.length (drop r.start (pick r.stand_in standIn title))

-- ---- the playing list

-- the numbers of a list, as the answer holds them
abbrev pub listed_as : ListNumbers → ListAnswer
listed_as n = record { refusal = n.refusal; place = n.place; entries = n.entries; mark = n.mark }

-- the list of a message, into so many numbers
abbrev pub list_into : List ℕ → ℕ → Outcome Listing
list_into m room = list_tone m (fits_numbers room)

-- `ohakelm_list`: every number and every cell of the list
pub record ListExport (m list list' : List ℕ) (r : ListAnswer) : Type 0 where
  pub answer : r ≡ listed_as (list_numbers (list_into m (length list)))
  pub leaves : list' ≡ cells_after (list_into m (length list)) list

-- the list of a message, into so many numbers and so many rows
abbrev pub list_both : List ℕ → ℕ → ℕ → Outcome Listing
list_both m room rows = list_tone m (fits_both room rows)

-- `ohakelm_rows`: every number, every cell of the list and every row
pub record RowsExport (m list : List ℕ) (rows : List Entry) (list' : List ℕ) (rows' : List Entry) (r : ListAnswer) : Type 0 where
  pub answer : r ≡ listed_as (list_numbers (list_both m (length list) (length rows)))
  pub leaves : list' ≡ cells_after (list_both m (length list) (length rows)) list
  pub leaves_rows : rows' ≡ rows_after (list_both m (length list) (length rows)) rows

-- ---- edits

-- the numbers of an edit, as the answer holds them
abbrev pub edited_as : EditNumbers → EditAnswer
edited_as n = record { refusal = n.refusal; place = n.place; length = n.length; entries = n.entries; mark = n.mark; change = n.change }

-- what the outcome of an edit answers and leaves
pub record EditLeaves (o : Outcome Edited) (used : ℕ) (buf list buf' list' : List ℕ) (r : EditAnswer) : Type 0 where
  pub answer : r ≡ edited_as (edit_numbers used o)
  pub buffer : buf' ≡ buffer_after o used buf
  pub listed : list' ≡ list_after o list

-- `ohakelm_replace`, `ohakelm_insert` and `ohakelm_delete`, each with its own edit: every number, every octet of the buffer and every cell of the list
abbrev pub EditExport : Edit → List ℕ → ℕ → ℕ → ℕ → List ℕ → List ℕ → List ℕ → EditAnswer → Type 0
EditExport ed buf used k i list buf' list' r = EditLeaves (edit_message buf used ed k i (length list)) used buf list buf' list' r

-- ---- bitmaps

-- the numbers of a bitmap and the stretch of its image, as the answer holds them
abbrev pub bitmap_as : BitmapNumbers → ℕ → ℕ → BitmapAnswer
bitmap_as n start octets = record {
  refusal = n.refusal;
  place = n.place;
  width = n.width;
  height = n.height;
  black = n.black;
  start = start;
  length = octets;
}

-- `ohakelm_bitmap_read`: every number, and the stretch of the message that is the image
pub record BitmapReadExport (m : List ℕ) (r : BitmapAnswer) : Type 0 where
  pub answer : r ≡ bitmap_as (bitmapNumbers (reading m)) (image_start (reading m)) (length (image_of (reading m) m))
  pub stretch : image_of (reading m) m ≡ take r.length (drop r.start m)

-- `ohakelm_bitmap_write`: every number and every octet of the buffer
abbrev pub BitmapWriteExport : (width height : ℕ) (image out out' : List ℕ) → WrittenAnswer → Type 0
BitmapWriteExport width height image out out' r = FillsNumbers (writing_into (length out) width height image) out out' r

-- ---- icons and logos

-- `ohakelm_icon_write` and `ohakelm_logo_write`, each with its own kind: every number and every octet of the buffer
abbrev pub KindWriteExport : (kind : Kind) (a : Ahead) (width height : ℕ) (image out out' : List ℕ) → WrittenAnswer → Type 0
KindWriteExport kind a width height image out out' r = FillsNumbers (kindInto (length out) kind a width height image) out out' r

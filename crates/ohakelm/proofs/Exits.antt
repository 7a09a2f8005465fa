-- Where each export returns: what the proved call promises is what the export promises.
use Prim.Native.Nat.{ℕ}
use native.Mathlib.Omega.{arith}
use mathlib.Core.Path.{◌≡◌, refl, sym, ap, ap₂, ◌∙◌}
use mathlib.Core.Bool.{Bool, true, false}
use mathlib.Core.List.{List}
use lib.ListN.{length, take, drop}
use lib.Seq.{take-length, length-take-le}
use denote.Ref.{Bor}
use Rattle.std.specs.Prelude.{Result, Ok, Err}
use Rattle.bits.specs.Choice.{pick}
use Rattle.bits.specs.Outcome.{Outcome, accepted, refused}
use Rattle.bits.specs.Refusals.{number_of}
use Rattle.bits.specs.declared.refusal.Refusal.{Refusal}
use Rattle.bits.proofs.Answered.{not_refused}
use Rattle.tone.specs.Tone.{per_character}
use Rattle.tone_read.specs.declared.Reading.{Reading}
use Rattle.tone_read.specs.Promise.{numbers as toneNumbers, ReadPromise}
use Rattle.tone_write.specs.Promise.{WritePromise}
use Rattle.written.specs.declared.WrittenAnswer.{WrittenAnswer}
use Rattle.written.specs.Written.{Writing, numbers as writtenNumbers, answer_as}
use Rattle.label.specs.declared.Supplier.{Supplier}
use Rattle.label.specs.declared.Supplier.TheVariants.{Title, StandIn}
use Rattle.label.specs.Label.{left_octets, stands_in, label_of}
use Rattle.label.specs.Promises.{SuppliedPromise}
use Rattle.label.proofs.Exits.{left_inside}
use Rattle.list_rules.specs.declared.Entry.{Entry}
use Rattle.list_rules.specs.Listing.{fits_numbers}
use Rattle.list.specs.declared.Listed.{Listed}
use Rattle.list.specs.Promise.{numbers_of as listedNumbers, ListPromise, RowsPromise}
use Rattle.edit_change.specs.declared.Edit.{Edit}
use Rattle.edit.specs.declared.Edited.{Edited}
use Rattle.edit.specs.Promise.{numbers_of as edit_numbers, EditPromise}
use Rattle.bitmap.specs.declared.Reading.{Reading as BitmapReading}
use Rattle.bitmap.specs.Bitmap.{Bitmap, reading}
use Rattle.bitmap.specs.Promises.{ReadPromise as BitmapReadPromise, ImagePromise, read_answer as bitmapAnswer, read_numbers as bitmapNumbers, numbers_of_reading, image_of, image_start}
use Rattle.ohakelm.specs.declared.ToneAnswer.{ToneAnswer}
use Rattle.ohakelm.specs.declared.LabelAnswer.{LabelAnswer}
use Rattle.ohakelm.specs.declared.ListAnswer.{ListAnswer}
use Rattle.ohakelm.specs.declared.EditAnswer.{EditAnswer}
use Rattle.ohakelm.specs.Promise.{read_as, ReadExport, WriteExport, supplied_as, LabelExport, listed_as, ListExport, RowsExport, edited_as, EditExport, bitmap_as, BitmapReadExport}

-- ---- tones

pub tone_told : {m table title table' title' : List ℕ} {x : Result Reading Refusal} {r : ToneAnswer}
    → ReadPromise m table title table' title' x → r ≡ read_as (toneNumbers x) → ReadExport m table title table' title' r
tone_told p e = record { answer = e ∙ ap read_as p.said; leaves_table = p.leaves_table; leaves_title = p.leaves_title }

pub tone_put : {song : ℕ} {unicode : Bool} {title table out out' : List ℕ} {x : Writing} {r : WrittenAnswer}
    → WritePromise song unicode title table out out' x → r ≡ answer_as (writtenNumbers x) → WriteExport song unicode title table out out' r
tone_put p e = record { answer = e ∙ ap answer_as p.said; leaves = p.leaves }

-- ---- the label

module _ (title : List ℕ) (unicode : Bool) (standIn : List ℕ) where
  abbrev stretched : Bool → ℕ → LabelAnswer
  stretched b k = record { stand_in = b; start = 0; length = k }

  found : (b : Bool) (k : ℕ) → stands_in unicode title ≡ b → k ≡ length (label_of unicode title standIn) → label_of unicode title standIn ≡ take k (pick b standIn title)
  unfolding label_of
  found true k h e = rw (e, h) (sym (take-length standIn))
  found false k h e =
      let l = length-take-le (left_octets (per_character unicode) title) title (left_inside (per_character unicode) title) in
      rw (e, h) (ap (λ (n : ℕ). take n title) (sym l))

  named : (b : Bool) (k : ℕ) → stands_in unicode title ≡ b → k ≡ length (label_of unicode title standIn) → LabelExport title unicode standIn (stretched b k)
  named b k h e = record { answer = ap₂ stretched (sym h) e; stretch = found b k h e }

  one : (b : Bool) → ◌≡◌ {A = ℕ} 1 (pick b 1 0) → b ≡ true
  one true e = refl
  one false e = absurd (omega arith)

  none : (b : Bool) → ◌≡◌ {A = ℕ} 0 (pick b 1 0) → b ≡ false
  none true e = absurd (omega arith)
  none false e = refl

module _ {title : List ℕ} {unicode : Bool} {standIn : List ℕ} where
  supplies : (x : Supplier) → SuppliedPromise title unicode standIn x → LabelExport title unicode standIn (supplied_as x)
  supplies (StandIn n) p = named title unicode standIn true n.0 (one title unicode standIn (stands_in unicode title) (ap (λ y. y.buffer) p.said)) (ap (λ y. y.octets) p.said)
  supplies (Title n) p = named title unicode standIn false n.0 (none title unicode standIn (stands_in unicode title) (ap (λ y. y.buffer) p.said)) (ap (λ y. y.octets) p.said)

  pub label_told : {x : Supplier} {r : LabelAnswer} → SuppliedPromise title unicode standIn x → r ≡ supplied_as x → LabelExport title unicode standIn r
  label_told {x} p e = rw e (supplies x p)

-- ---- the playing list

pub list_told : {m list list' : List ℕ} {x : Result Listed Refusal} {r : ListAnswer}
    → ListPromise m (fits_numbers (length list)) list list' x → r ≡ listed_as (listedNumbers x) → ListExport m list list' r
list_told p e = record { answer = e ∙ ap listed_as p.said; leaves = p.leaves }

pub rows_told : {m list : List ℕ} {rows : List Entry} {list' : List ℕ} {rows' : List Entry} {x : Result Listed Refusal} {r : ListAnswer}
    → RowsPromise m list rows list' rows' x → r ≡ listed_as (listedNumbers x) → RowsExport m list rows list' rows' r
rows_told p e = record { answer = e ∙ ap listed_as p.listed.said; leaves = p.listed.leaves; leaves_rows = p.leaves }

-- ---- edits

pub edit_told : (ed : Edit) (buf : List ℕ) (used k i : ℕ) (list : List ℕ) {buf' list' : List ℕ} {x : Result Edited Refusal} {r : EditAnswer}
    → EditPromise buf used ed k i list buf' list' x → r ≡ edited_as (edit_numbers x) → EditExport ed buf used k i list buf' list' r
edit_told ed buf used k i list p e = record { answer = e ∙ ap edited_as p.numbers; buffer = p.buffer; listed = p.listed }

-- ---- reading a bitmap

module _ (m : Bor (List ℕ)) {x : Result BitmapReading Refusal} (p : BitmapReadPromise m.now x) where
  pub bitmap_refused : {r : Refusal} {n : ℕ} → x ≡ Err r → n ≡ number_of r.why
      → BitmapReadExport m.now (record { refusal = n; place = r.place.0; width = 0; height = 0; black = 0; start = 0; length = 0 })
  bitmap_refused {r} {n} g s = let t = go (reading m.now) (sym g ∙ p.answer) (ap numbers_of_reading (sym g) ∙ p.numbers) in rw s (record { answer = t.0; stretch = t.1 })
    where
      go : (o : Outcome Bitmap) → Err r ≡ bitmapAnswer o → numbers_of_reading (Err r) ≡ bitmapNumbers o
          → (record { refusal = number_of r.why; place = r.place.0; width = 0; height = 0; black = 0; start = 0; length = 0 } ≡ bitmap_as (bitmapNumbers o) (image_start o) (length (image_of o m.now)))
          × (image_of o m.now ≡ take 0 (drop 0 m.now))
      go (accepted b) e h = not_refused (sym e)
      go (refused k q) e h = (ap (λ y. bitmap_as y 0 0) h, refl)

  pub bitmap_read : {b : BitmapReading} {i : Bor (List ℕ)} → x ≡ Ok b → ImagePromise m i
      → BitmapReadExport m.now (record { refusal = 0; place = 0; width = b.width; height = b.height; black = b.black; start = 4; length = length i.now })
  bitmap_read {b} {i} g q = let t = go (reading m.now) (sym g ∙ p.answer) (ap numbers_of_reading (sym g) ∙ p.numbers) q.octets in record { answer = t.0; stretch = t.1 }
    where
      go : (o : Outcome Bitmap) → Ok b ≡ bitmapAnswer o → numbers_of_reading (Ok b) ≡ bitmapNumbers o → i.now ≡ image_of o m.now
          → (record { refusal = 0; place = 0; width = b.width; height = b.height; black = b.black; start = 4; length = length i.now } ≡ bitmap_as (bitmapNumbers o) (image_start o) (length (image_of o m.now)))
          × (image_of o m.now ≡ take (length i.now) (drop 4 m.now))
      go (accepted c) e h j = (ap₂ (λ y (n : ℕ). bitmap_as y 4 n) h (ap length j), rw j (sym (take-length (drop 4 m.now))))
      go (refused k q) e h j = not_refused e

-- Each export is decided by its promise: two outcomes that satisfy it coincide.
use Prim.Native.Nat.{ℕ}
use mathlib.Core.Path.{◌≡◌, sym, ◌∙◌}
use mathlib.Core.Bool.{Bool}
use mathlib.Core.List.{List}
use Rattle.list_rules.specs.declared.Entry.{Entry}
use Rattle.edit_change.specs.declared.Edit.{Edit}
use Rattle.bitmap_ahead.specs.declared.Kind.{Kind}
use Rattle.bitmap_ahead.specs.Ahead.{Ahead}
use Rattle.bitmap_answers.specs.declared.BitmapAnswer.{BitmapAnswer}
use Rattle.ohakelm.specs.declared.ToneAnswer.{ToneAnswer}
use Rattle.written.specs.declared.WrittenAnswer.{WrittenAnswer}
use Rattle.ohakelm.specs.declared.LabelAnswer.{LabelAnswer}
use Rattle.ohakelm.specs.declared.ListAnswer.{ListAnswer}
use Rattle.ohakelm.specs.declared.EditAnswer.{EditAnswer}
use Rattle.ohakelm.specs.Promise.{VersionExport, ReadExport, WriteExport, LabelExport, ListExport, RowsExport, EditExport, BitmapReadExport, BitmapWriteExport, KindWriteExport}

-- `ohakelm_version`: the answer
pub version_decided : (r s : ℕ) → VersionExport r → VersionExport s → r ≡ s
version_decided r s p q = p.answer ∙ sym q.answer

-- `ohakelm_read`: the answer, the table and the title
pub read_decided : (m table title table₁ title₁ table₂ title₂ : List ℕ) (r s : ToneAnswer)
    → ReadExport m table title table₁ title₁ r → ReadExport m table title table₂ title₂ s → (r ≡ s) × (table₁ ≡ table₂) × (title₁ ≡ title₂)
read_decided m table title table₁ title₁ table₂ title₂ r s p q =
    (p.answer ∙ sym q.answer, p.leaves_table ∙ sym q.leaves_table, p.leaves_title ∙ sym q.leaves_title)

-- `ohakelm_write`: the answer and the buffer
pub write_decided : (song : ℕ) (unicode : Bool) (title table out out₁ out₂ : List ℕ) (r s : WrittenAnswer)
    → WriteExport song unicode title table out out₁ r → WriteExport song unicode title table out out₂ s → (r ≡ s) × (out₁ ≡ out₂)
write_decided song unicode title table out out₁ out₂ r s p q = (p.answer ∙ sym q.answer, p.leaves ∙ sym q.leaves)

-- `ohakelm_label`: the answer
pub label_decided : (title : List ℕ) (unicode : Bool) (standIn : List ℕ) (r s : LabelAnswer)
    → LabelExport title unicode standIn r → LabelExport title unicode standIn s → r ≡ s
label_decided title unicode standIn r s p q = p.answer ∙ sym q.answer

-- `ohakelm_list`: the answer and the list
pub list_decided : (m list list₁ list₂ : List ℕ) (r s : ListAnswer) → ListExport m list list₁ r → ListExport m list list₂ s → (r ≡ s) × (list₁ ≡ list₂)
list_decided m list list₁ list₂ r s p q = (p.answer ∙ sym q.answer, p.leaves ∙ sym q.leaves)

-- `ohakelm_rows`: the answer, the list and the rows
pub rows_decided : (m list : List ℕ) (rows : List Entry) (list₁ list₂ : List ℕ) (rows₁ rows₂ : List Entry) (r s : ListAnswer)
    → RowsExport m list rows list₁ rows₁ r → RowsExport m list rows list₂ rows₂ s → (r ≡ s) × (list₁ ≡ list₂) × (rows₁ ≡ rows₂)
rows_decided m list rows list₁ list₂ rows₁ rows₂ r s p q =
    (p.answer ∙ sym q.answer, p.leaves ∙ sym q.leaves, p.leaves_rows ∙ sym q.leaves_rows)

-- `ohakelm_replace`, `ohakelm_insert`, `ohakelm_delete`: the answer, the buffer and the list
pub edit_decided : (ed : Edit) (buf : List ℕ) (used k i : ℕ) (list buf₁ list₁ buf₂ list₂ : List ℕ) (r s : EditAnswer)
    → EditExport ed buf used k i list buf₁ list₁ r → EditExport ed buf used k i list buf₂ list₂ s → (r ≡ s) × (buf₁ ≡ buf₂) × (list₁ ≡ list₂)
edit_decided ed buf used k i list buf₁ list₁ buf₂ list₂ r s p q =
    (p.answer ∙ sym q.answer, p.buffer ∙ sym q.buffer, p.listed ∙ sym q.listed)

-- `ohakelm_bitmap_read`: the answer
pub bitmap_read_decided : (m : List ℕ) (r s : BitmapAnswer) → BitmapReadExport m r → BitmapReadExport m s → r ≡ s
bitmap_read_decided m r s p q = p.answer ∙ sym q.answer

-- `ohakelm_bitmap_write`: the answer and the buffer
pub bitmap_write_decided : (width height : ℕ) (image out out₁ out₂ : List ℕ) (r s : WrittenAnswer)
    → BitmapWriteExport width height image out out₁ r → BitmapWriteExport width height image out out₂ s → (r ≡ s) × (out₁ ≡ out₂)
bitmap_write_decided width height image out out₁ out₂ r s p q = (p.answer ∙ sym q.answer, p.leaves ∙ sym q.leaves)

-- `ohakelm_icon_write`, `ohakelm_logo_write`: the answer and the buffer
pub kind_write_decided : (kind : Kind) (a : Ahead) (width height : ℕ) (image out out₁ out₂ : List ℕ) (r s : WrittenAnswer)
    → KindWriteExport kind a width height image out out₁ r → KindWriteExport kind a width height image out out₂ s → (r ≡ s) × (out₁ ≡ out₂)
kind_write_decided kind a width height image out out₁ out₂ r s p q = (p.answer ∙ sym q.answer, p.leaves ∙ sym q.leaves)

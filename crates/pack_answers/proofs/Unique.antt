-- Each call is decided by its promise: two outcomes that satisfy it coincide.
use Prim.Native.Nat.{ℕ}
use mathlib.Core.Path.{◌≡◌, sym, ◌∙◌}
use mathlib.Core.List.{List}
use Rattle.written.specs.declared.WrittenAnswer.{WrittenAnswer}
use Rattle.written.proofs.Unique.{numbers_decided}
use Rattle.pack_answers.specs.declared.PackAnswer.{PackAnswer}
use Rattle.pack_answers.specs.declared.StretchAnswer.{StretchAnswer}
use Rattle.pack_answers.specs.declared.SalvageAnswer.{SalvageAnswer}
use Rattle.pack_answers.specs.Promise.{PackReadExport, PackMessageExport, PackWriteExport, PackSalvageExport}

-- `read_pack`: every number
pub pack_read_decided : {p : List ℕ} {r s : PackAnswer} → PackReadExport p r → PackReadExport p s → r ≡ s
pack_read_decided p q = p.answer ∙ sym q.answer

-- `find_message`: every number
pub pack_message_decided : {p : List ℕ} {n : ℕ} {r s : StretchAnswer} → PackMessageExport p n r → PackMessageExport p n s → r ≡ s
pack_message_decided p q = p.answer ∙ sym q.answer

-- `write_pack`: every number and every octet of the buffer
pub pack_write_decided : (octets ns : List ℕ) {out out₁ out₂ : List ℕ} {r s : WrittenAnswer} → PackWriteExport octets ns out out₁ r → PackWriteExport octets ns out out₂ s → (r ≡ s) × (out₁ ≡ out₂)
pack_write_decided octets ns p q = numbers_decided p q

-- `salvage_pack`: every number, every octet of the buffer and every number of the report
pub pack_salvage_decided : (p out report : List ℕ) {out₁ out₂ report₁ report₂ : List ℕ} {r s : SalvageAnswer} → PackSalvageExport p out report out₁ report₁ r → PackSalvageExport p out report out₂ report₂ s
    → (r ≡ s) × (out₁ ≡ out₂) × (report₁ ≡ report₂)
pack_salvage_decided p out report a b = (a.answer ∙ sym b.answer, a.pack ∙ sym b.pack, a.reported ∙ sym b.reported)

-- Each answer is decided by its promise: two that satisfy it coincide.
use Prim.Native.Nat.{ℕ}
use mathlib.Core.Path.{◌≡◌, sym, ◌∙◌}
use mathlib.Core.List.{List}
use Rattle.bitmap_answers.specs.declared.BitmapAnswer.{BitmapAnswer}
use Rattle.bitmap_answers.specs.declared.LogoAnswer.{LogoAnswer}
use Rattle.bitmap_answers.specs.Promise.{IconReadExport, LogoReadExport}

-- `read_icon`
pub icon_read_decided : (m : List ℕ) (r s : BitmapAnswer) → IconReadExport m r → IconReadExport m s → r ≡ s
icon_read_decided m r s p q = p.answer ∙ sym q.answer

-- `read_logo`
pub logo_read_decided : (m : List ℕ) (r s : LogoAnswer) → LogoReadExport m r → LogoReadExport m s → r ≡ s
logo_read_decided m r s p q = p.answer ∙ sym q.answer

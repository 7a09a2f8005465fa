-- The call is decided by its promise: two outcomes that satisfy it coincide.
use Prim.Native.Nat.{ℕ}
use mathlib.Core.Path.{◌≡◌, sym, ◌∙◌}
use mathlib.Core.List.{List}
use Rattle.edit_change.specs.declared.Edit.{Edit}
use Rattle.std.specs.Prelude.{Result}
use Rattle.bits.specs.declared.refusal.Refusal.{Refusal}
use Rattle.edit.specs.declared.Edited.{Edited}
use Rattle.edit.specs.Promise.{numbers_of, EditPromise}

-- `edit_message`: the answer and its numbers, every octet of the buffer and every cell of the list
pub edit_decided : (buf : List ℕ) (used : ℕ) (ed : Edit) (k i : ℕ) (list buf₁ list₁ buf₂ list₂ : List ℕ) (r s : Result Edited Refusal)
    → EditPromise buf used ed k i list buf₁ list₁ r → EditPromise buf used ed k i list buf₂ list₂ s
    → (r ≡ s) × (numbers_of r ≡ numbers_of s) × (buf₁ ≡ buf₂) × (list₁ ≡ list₂)
edit_decided buf used ed k i list buf₁ list₁ buf₂ list₂ r s p q = (
  p.answer ∙ sym q.answer,
  p.numbers ∙ sym q.numbers,
  p.buffer ∙ sym q.buffer,
  p.listed ∙ sym q.listed,
)

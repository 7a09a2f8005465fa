-- Each call is decided by its promise: two outcomes that satisfy it coincide.
use Prim.Native.Nat.{ℕ}
use mathlib.Core.Path.{◌≡◌, sym, ap₂, ◌∙◌}
use mathlib.Core.List.{List}
use denote.Ref.{Bor}
use Rattle.std.specs.Prelude.{Result}
use Rattle.bits.specs.declared.refusal.Refusal.{Refusal}
use Rattle.written.specs.Written.{Writing, numbers}
use Rattle.written.proofs.Unique.{fills_decided}
use Rattle.bitmap_ahead.specs.declared.Kind.{Kind}
use Rattle.bitmap_ahead.specs.Ahead.{Ahead}
use Rattle.bitmap_kinds.specs.declared.Field.{Field}
use Rattle.bitmap_kinds.specs.declared.Reading.{Reading}
use Rattle.bitmap_kinds.specs.Promises.{numbers_of_reading, ReadPromise, FieldPromise, WritePromise}

-- `read`: the answer and its numbers
pub read_decided : (kind : Kind) (m : List ℕ) (r s : Result Reading Refusal) → ReadPromise kind m r → ReadPromise kind m s → (r ≡ s) × (numbers_of_reading r ≡ numbers_of_reading s)
read_decided kind m r s p q = (p.answer ∙ sym q.answer, p.numbers ∙ sym q.numbers)

-- `field_of`: the octets of the stretch, and where it stands
pub field_decided : (kind : Kind) (f : Field) (m r s : Bor (List ℕ)) → FieldPromise kind f m r → FieldPromise kind f m s → (r.now ≡ s.now) × (r.ref_ptr ≡ s.ref_ptr)
field_decided kind f m r s p q = (
  p.octets ∙ sym q.octets,
  ap₂ (λ (b o : ℕ). (b, o)) (p.block ∙ sym q.block) (p.start ∙ sym q.start),
)

-- `write`: the answer, its numbers and every cell of the lent buffer
pub write_decided : (kind : Kind) (a : Ahead) (width height : ℕ) (image out : List ℕ) (r s : Writing) (after other : List ℕ)
    → WritePromise kind a width height image out r after → WritePromise kind a width height image out s other
    → (r ≡ s) × (numbers r ≡ numbers s) × (after ≡ other)
write_decided kind a width height image out r s after other p q = fills_decided p q

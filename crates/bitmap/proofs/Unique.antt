-- Each call is decided by its promise: two outcomes that satisfy it coincide.
use Prim.Native.Nat.{ℕ}
use mathlib.Core.Path.{◌≡◌, sym, ap₂, ◌∙◌}
use mathlib.Core.List.{List}
use denote.Ref.{Bor}
use Rattle.std.specs.Prelude.{Result}
use Rattle.bits.specs.declared.refusal.Refusal.{Refusal}
use Rattle.written.specs.Written.{Writing, numbers}
use Rattle.written.proofs.Unique.{fills_decided}
use Rattle.bitmap.specs.declared.Reading.{Reading}
use Rattle.bitmap.specs.Promises.{ReadPromise, ImagePromise, WritePromise, numbers_of_reading}

-- `read`: the answer and its numbers
pub read_decided : (m : List ℕ) (r s : Result Reading Refusal) → ReadPromise m r → ReadPromise m s → (r ≡ s) × (numbers_of_reading r ≡ numbers_of_reading s)
read_decided m r s p q = (p.answer ∙ sym q.answer, p.numbers ∙ sym q.numbers)

-- `image`: the octets of the stretch, and where it stands
pub image_decided : (m r s : Bor (List ℕ)) → ImagePromise m r → ImagePromise m s → (r.now ≡ s.now) × (r.ref_ptr ≡ s.ref_ptr)
image_decided m r s p q = (
  p.octets ∙ sym q.octets,
  ap₂ (λ (b o : ℕ). (b, o)) (p.block ∙ sym q.block) (p.start ∙ sym q.start),
)

-- `write`: the answer, its numbers and every cell of the lent buffer
pub write_decided : (width height : ℕ) (image out : List ℕ) (r s : Writing) (after other : List ℕ) → WritePromise width height image out r after
    → WritePromise width height image out s other → (r ≡ s) × (numbers r ≡ numbers s) × (after ≡ other)
write_decided width height image out r s after other p q = fills_decided p q

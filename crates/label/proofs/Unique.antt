-- Each call is decided by its promise: two outcomes that satisfy it coincide.
use Prim.Native.Nat.{ℕ}
use mathlib.Core.Path.{◌≡◌, sym, ◌∙◌}
use mathlib.Core.Bool.{Bool}
use mathlib.Core.List.{List}
use denote.Ref.{Bor}
use Rattle.label.specs.declared.Supplier.{Supplier}
use Rattle.label.specs.Promises.{numbers, SuppliedPromise, LabelPromise}

-- `supplied`: the answer and its numbers
pub supplied_decided : (title : List ℕ) (unicode : Bool) (standIn : List ℕ) (r s : Supplier) → SuppliedPromise title unicode standIn r → SuppliedPromise title unicode standIn s
    → (r ≡ s) × (numbers r ≡ numbers s)
supplied_decided title unicode standIn r s p q = (p.answer ∙ sym q.answer, p.said ∙ sym q.said)

-- `label`: the octets of the stretch, and where it stands
pub label_decided : (title : Bor (List ℕ)) (unicode : Bool) (standIn r s : Bor (List ℕ)) → LabelPromise title unicode standIn r → LabelPromise title unicode standIn s
    → (r.now ≡ s.now) × (r.ref_ptr ≡ s.ref_ptr)
label_decided title unicode standIn r s p q = (p.octets ∙ sym q.octets, p.place ∙ sym q.place)

-- Each call is decided by its promise: two outcomes that satisfy it coincide.
use Prim.Native.Nat.{ℕ}
use mathlib.Core.Path.{◌≡◌, sym, ap₂, ◌∙◌}
use mathlib.Core.List.{List}
use denote.Ref.{Bor}
use Rattle.std.specs.Prelude.{Err}
use Rattle.bits.specs.declared.refusal.Refusal.{Refusal}
use Rattle.written.specs.Written.{Writing, numbers}
use Rattle.written.proofs.Unique.{fills_decided, fills_refused}
use Rattle.pack.specs.Promises.{Reading, Finding, ReadPromise, FindPromise, MessagePromise, WritePromise, numbers_of_reading, numbers_of_finding}

-- `read`: the answer and its numbers
pub read_decided : {p : List ℕ} {r s : Reading} → ReadPromise p r → ReadPromise p s → (r ≡ s) × (numbers_of_reading r ≡ numbers_of_reading s)
read_decided p q = (p.answer ∙ sym q.answer, p.said ∙ sym q.said)

-- `find`: the answer and its numbers
pub find_decided : {p : List ℕ} {n : ℕ} {r s : Finding} → FindPromise p n r → FindPromise p n s → (r ≡ s) × (numbers_of_finding r ≡ numbers_of_finding s)
find_decided p q = (p.answer ∙ sym q.answer, p.said ∙ sym q.said)

-- `message`: the octets of the stretch, and where it stands
pub message_decided : {p : Bor (List ℕ)} {n : ℕ} {r s : Bor (List ℕ)} → MessagePromise p n r → MessagePromise p n s → (r.now ≡ s.now) × (r.ref_ptr ≡ s.ref_ptr)
message_decided p q = (p.octets ∙ sym q.octets, ap₂ (λ (b o : ℕ). (b, o)) (p.block ∙ sym q.block) (p.start ∙ sym q.start))

-- `write`: the answer, its numbers and every octet of the lent buffer
pub write_decided : (octets ns : List ℕ) {out out₁ out₂ : List ℕ} {r s : Writing} → WritePromise octets ns out out₁ r → WritePromise octets ns out out₂ s
    → (r ≡ s) × (numbers r ≡ numbers s) × (out₁ ≡ out₂)
write_decided octets ns p q = fills_decided p q

-- what `write` refuses leaves the buffer as it was
pub write_keeps : (octets ns : List ℕ) {out out' : List ℕ} {r : Refusal} → WritePromise octets ns out out' (Err r) → out' ≡ out
write_keeps octets ns h = (fills_refused h).1

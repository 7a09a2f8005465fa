-- What a call that fills a lent buffer promises decides every number returned and every octet lent.
use Prim.Native.Nat.{ℕ}
use native.Mathlib.Omega.{arith}
use mathlib.Core.Path.{◌≡◌, refl, sym, ap, ◌∙◌}
use mathlib.Core.List.{List}
use lib.ListN.{length}
use Rattle.std.specs.Prelude.{Ok, Err}
use Rattle.bits.specs.Lent.{over}
use Rattle.bits.specs.Outcome.{Outcome, accepted, refused}
use Rattle.bits.specs.Places.{octet_count}
use Rattle.bits.specs.Refusals.{number_of}
pub use Rattle.bits.proofs.Answered.{by_number}
use Rattle.bits.specs.declared.OctetCount.{OctetCount}
use Rattle.bits.specs.declared.refusal.Refusal.{Refusal}
use Rattle.written.specs.declared.WrittenAnswer.{WrittenAnswer}
use Rattle.written.specs.Written.{Writing, Numbers, numbers, write_answer, write_numbers, octets_after, Fills, answer_as, FillsNumbers}

module _ {o : Outcome (List ℕ)} {out : List ℕ} where
  -- two outcomes that satisfy it coincide
  pub fills_decided : {out₁ out₂ : List ℕ} {r₁ r₂ : Writing} → Fills o out out₁ r₁ → Fills o out out₂ r₂ → (r₁ ≡ r₂) × (numbers r₁ ≡ numbers r₂) × (out₁ ≡ out₂)
  fills_decided p q = (p.answer ∙ sym q.answer, p.said ∙ sym q.said, p.leaves ∙ sym q.leaves)

  -- a refusal is the outcome's, and changes nothing lent
  pub fills_refused : {out' : List ℕ} {r : Refusal} → Fills o out out' (Err r) → (o ≡ refused (number_of r.why) r.place.0) × (out' ≡ out)
  fills_refused {out'} {r} h = go o h.answer h.said h.leaves
    where
      go : (x : Outcome (List ℕ)) → Err r ≡ write_answer x → numbers (Err r) ≡ write_numbers x → out' ≡ octets_after x out → (x ≡ refused (number_of r.why) r.place.0) × (out' ≡ out)
      go (accepted w) e s l = let z : ◌≡◌ {A = ℕ} 0 1 = cc in absurd (omega arith)
      go (refused k f) e s l = let e₁ : number_of r.why ≡ k = ap (λ (m : Numbers). m.refusal) s in let e₂ : r.place.0 ≡ f = ap (λ (m : Numbers). m.place) s in (rw (e₁, e₂) refl, l)

  -- what is written is the outcome's, and stands at the front of what was lent
  pub fills_written : {out' : List ℕ} {n : OctetCount} → Fills o out out' (Ok n) → (w : List ℕ) × (o ≡ accepted w) × (n.0 ≡ length w) × (out' ≡ over w out)
  fills_written {out'} {n} h = go o refl h.answer h.leaves
    where
      go : (x : Outcome (List ℕ)) → o ≡ x → ◌≡◌ {A = Writing} (Ok n) (write_answer x) → out' ≡ octets_after x out → (w : List ℕ) × (o ≡ accepted w) × (n.0 ≡ length w) × (out' ≡ over w out)
      go (accepted w) y e l = let e₁ : n ≡ octet_count (length w) = cc in (w, y, ap (λ (c : OctetCount). c.0) e₁, l)
      go (refused k f) y e l = let z : ◌≡◌ {A = ℕ} 0 1 = cc in absurd (omega arith)

-- ---- the two ways to keep the promise

pub written : (o : Outcome (List ℕ)) (out out' w : List ℕ) {n : OctetCount} → o ≡ accepted w → n.0 ≡ length w → out' ≡ over w out → Fills o out out' (Ok n)
written o out out' w {n} e k l = record { answer = rw e (ap (λ (x : ℕ). Ok (octet_count x)) k); said = rw e (ap (λ (x : ℕ). record { refusal = 0; place = 0; octets = x }) k); leaves = rw e l }

pub unwritten : (o : Outcome (List ℕ)) (out : List ℕ) {r : Refusal} → o ≡ refused (number_of r.why) r.place.0 → Fills o out out (Err r)
unwritten o out {r} e = record { answer = rw e (ap Err (sym (by_number r))); said = rw e refl; leaves = rw e refl }

-- ---- by the numbers of the C border

-- two outcomes that satisfy the promise coincide
pub numbers_decided : {o : Outcome (List ℕ)} {out out₁ out₂ : List ℕ} {r₁ r₂ : WrittenAnswer} → FillsNumbers o out out₁ r₁ → FillsNumbers o out out₂ r₂ → (r₁ ≡ r₂) × (out₁ ≡ out₂)
numbers_decided p q = (p.answer ∙ sym q.answer, p.leaves ∙ sym q.leaves)

-- what a call promises, by the numbers of its answer
pub by_numbers : {o : Outcome (List ℕ)} {out out' : List ℕ} {w : Writing} {r : WrittenAnswer} → Fills o out out' w → r ≡ answer_as (numbers w) → FillsNumbers o out out' r
by_numbers p e = record { answer = e ∙ ap answer_as p.said; leaves = p.leaves }

-- The promise of `write` decides every number returned and every octet lent.
use Prim.Native.Nat.{ℕ}
use mathlib.Core.Path.{◌≡◌, refl, sym, ap, ◌∙◌}
use mathlib.Core.Bool.{Bool}
use mathlib.Core.List.{List}
use lib.ListN.{length}
use Rattle.std.specs.Prelude.{Err}
use Rattle.bits.specs.Outcome.{Outcome, accepted, refused}
use Rattle.bits.specs.Refusals.{refusal}
use Rattle.bits.specs.declared.refusal.Refusal.{Refusal}
use Rattle.bits.specs.Places.{place}
use Rattle.tone.specs.Tone.{Tone}
use Rattle.written.specs.Written.{Writing, numbers}
use Rattle.tone_write.specs.Judging.{write_tone}
use Rattle.tone_write.specs.Promise.{write_answer, octets_after, WritePromise}
use Rattle.tone_write.proofs.Accepting.{write_place}

module _ {song : ℕ} {unicode : Bool} {title table out : List ℕ} where
  -- two outcomes that satisfy it coincide
  pub write_decided : {out₁ out₂ : List ℕ} {r₁ r₂ : Writing} → WritePromise song unicode title table out out₁ r₁ → WritePromise song unicode title table out out₂ r₂
      → (r₁ ≡ r₂) × (numbers r₁ ≡ numbers r₂) × (out₁ ≡ out₂)
  write_decided p q = (p.answer ∙ sym q.answer, p.said ∙ sym q.said, p.leaves ∙ sym q.leaves)

  -- a refusal changes nothing lent, and its place is 0
  pub write_refused : {out' : List ℕ} {r : Refusal} → WritePromise song unicode title table out out' (Err r) → (out' ≡ out) × (r.place ≡ place 0)
  write_refused {out'} {r} h = go (write_tone song unicode title table (length out)) refl h.answer h.leaves
    where
      go : (x : Outcome Tone) → write_tone song unicode title table (length out) ≡ x → Err r ≡ write_answer x → out' ≡ octets_after x out → (out' ≡ out) × (r.place ≡ place 0)
      go (accepted t) q e a = cc
      go (refused k l) q e a = let f : r ≡ refusal k l = cc in (a, ap (λ (y : Refusal). y.place) f ∙ ap place (write_place song unicode title table (length out) q))

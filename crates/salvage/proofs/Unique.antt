-- The call is decided by its promise: two outcomes that satisfy it coincide.
use Prim.Native.Nat.{ℕ}
use mathlib.Core.Path.{◌≡◌, refl, sym, ap, ◌∙◌}
use mathlib.Core.List.{List}
use lib.ListN.{length}
use Rattle.std.specs.Prelude.{Ok, Err}
use Rattle.bits.specs.Outcome.{Outcome, accepted, refused}
use Rattle.bits.specs.declared.refusal.Refusal.{Refusal}
use Rattle.bits.specs.declared.OctetCount.{OctetCount}
use Rattle.bits.specs.Places.{octet_count}
use Rattle.bits.specs.Lent.{over}
use Rattle.salvage.specs.declared.Done.{Done}
use Rattle.salvage.specs.Salvage.{Salvaged, salvage}
use Rattle.salvage.specs.Promises.{Salvaging, done_of, salvage_answer, numbers_of_salvaging, pack_after, report_after, SalvagePromise}

-- the answer, its numbers, every octet and every number lent
pub salvage_decided : (p out report : List ℕ) {out₁ out₂ report₁ report₂ : List ℕ} {r s : Salvaging} → SalvagePromise p out report out₁ report₁ r → SalvagePromise p out report out₂ report₂ s
    → (r ≡ s) × (numbers_of_salvaging r ≡ numbers_of_salvaging s) × (out₁ ≡ out₂) × (report₁ ≡ report₂)
salvage_decided p out report a b = (a.answer ∙ sym b.answer, a.said ∙ sym b.said, a.pack ∙ sym b.pack, a.reported ∙ sym b.reported)

module _ (p out report out' report' : List ℕ) where
  -- what is refused leaves both buffers as they were
  pub salvage_keeps : {r : Refusal} → SalvagePromise p out report out' report' (Err r) → (out' ≡ out) × (report' ≡ report)
  salvage_keeps {r} h = go (salvage p (length out) (length report)) h.answer h.pack h.reported
    where
      go : (o : Outcome Salvaged) → Err r ≡ salvage_answer o → out' ≡ pack_after o out → report' ≡ report_after o report → (out' ≡ out) × (report' ≡ report)
      go (accepted s) e a b = cc
      go (refused k g) e a b = (a, b)

  -- what an accepting answer says
  pub record Came (k : ℕ) (o s : OctetCount) : Type 0 where
    pub what : Salvaged
    pub outcome : salvage p (length out) (length report) ≡ accepted what
    pub messages : k ≡ what.messages
    pub octets : o ≡ octet_count (length what.pack)
    pub skips : s ≡ octet_count what.skips
    pub lent : out' ≡ over what.pack out
    pub reported : report' ≡ over what.report report

  pub salvage_says : {k : ℕ} {o s : OctetCount} → SalvagePromise p out report out' report' (Ok (record { messages = k; octets = o; skipped = s })) → Came k o s
  salvage_says {k} {o} {s} h = go (salvage p (length out) (length report)) refl h.answer h.pack h.reported
    where
      go : (x : Outcome Salvaged) → salvage p (length out) (length report) ≡ x → ◌≡◌ {A = Salvaging} (Ok (record { messages = k; octets = o; skipped = s })) (salvage_answer x) → out' ≡ pack_after x out → report' ≡ report_after x report → Came k o s
      go (accepted w) q e a b =
          let z : ◌≡◌ {A = Done} (record { messages = k; octets = o; skipped = s }) (done_of w) = cc in
          record { what = w; outcome = q; messages = ap (λ (d : Done). d.messages) z; octets = ap (λ (d : Done). d.octets) z; skips = ap (λ (d : Done). d.skipped) z; lent = a; reported = b }
      go (refused n f) q e a b = cc

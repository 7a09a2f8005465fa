-- The promise of `read` decides every number returned and every cell lent.
use Prim.Native.Nat.{ℕ}
use native.Mathlib.Omega.{arith}
use mathlib.Core.Path.{◌≡◌, sym, ◌∙◌}
use mathlib.Core.List.{List}
use lib.ListN.{length}
use Rattle.bits.specs.Outcome.{Outcome, accepted, refused}
use Rattle.std.specs.Prelude.{Result, Err}
use Rattle.bits.specs.declared.refusal.Refusal.{Refusal}
use Rattle.tone.specs.Tone.{Tone}
use Rattle.tone_read.specs.declared.Reading.{Reading}
use Rattle.tone_read.specs.Promise.{read_into, numbers, read_answer, table_after, title_after, ReadPromise}

module _ {m table title : List ℕ} where
  -- two outcomes that satisfy it coincide
  pub read_decided : {table₁ title₁ table₂ title₂ : List ℕ} {r₁ r₂ : Result Reading Refusal} → ReadPromise m table title table₁ title₁ r₁ → ReadPromise m table title table₂ title₂ r₂
      → (r₁ ≡ r₂) × (numbers r₁ ≡ numbers r₂) × (table₁ ≡ table₂) × (title₁ ≡ title₂)
  read_decided p q =
      (p.answer ∙ sym q.answer, p.said ∙ sym q.said, p.leaves_table ∙ sym q.leaves_table, p.leaves_title ∙ sym q.leaves_title)

  -- a refusal changes nothing lent
  pub read_refused : {table' title' : List ℕ} {r : Refusal} → ReadPromise m table title table' title' (Err r) → (table' ≡ table) × (title' ≡ title)
  read_refused {table'} {title'} {r} h = go (read_into m (length title) (length table)) h.answer h.leaves_table h.leaves_title
    where
      go : (x : Outcome Tone) → Err r ≡ read_answer x → table' ≡ table_after x table → title' ≡ title_after x title → (table' ≡ table) × (title' ≡ title)
      go (accepted t) e a b = let z : ◌≡◌ {A = ℕ} 0 1 = cc in absurd (omega arith)
      go (refused k l) e a b = (a, b)

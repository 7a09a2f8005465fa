-- Where two grounds against a table meet, which of them is given.
use Prim.Native.Nat.{ℕ, ◌<◌}
use native.Mathlib.Omega.{arith}
use mathlib.Core.Path.{◌≡◌, refl}
use mathlib.Core.Bool.{true, false}
use mathlib.Core.List.{List, [], ◌∷◌, ◌++◌}
use borrow.Author.Tests.{le-leb, lt-leb, ne_eqb}
use Rattle.bits.specs.Outcome.{Outcome, accepted, refused, and_then}
use Rattle.tone.specs.Table.{kind}
use Rattle.tone.specs.Tone.{recallable}
use Rattle.tone_table.specs.Judging.{Stage, start, entry_fine, entry_judged, entries_judged, end_judged, judge_table}

-- what follows is judged from where the entries ahead of it led
in_turn : (s : Stage) (t more : List ℕ) → entries_judged s (t ++ more) ≡ and_then (entries_judged s t) (λ s'. entries_judged s' more)
unfolding entries_judged
in_turn s [] more = refl
in_turn s (x ∷ t) more = go (entry_judged s x) (λ s'. in_turn s' t more)
  where
    go : (o : Outcome Stage) → ((s' : Stage) → entries_judged s' (t ++ more) ≡ and_then (entries_judged s' t) (λ s'. entries_judged s' more))
        → and_then o (λ s'. entries_judged s' (t ++ more)) ≡ and_then (and_then o (λ s'. entries_judged s' t)) (λ s'. entries_judged s' more)
    go (accepted s') again = again s'
    go (refused n p) again = refl

-- the ground against an earlier entry, whatever follows
pub earlier_first : (t more : List ℕ) {n p : ℕ} → entries_judged start t ≡ refused n p → judge_table (t ++ more) ≡ refused n p
unfolding judge_table
earlier_first t more e = rw (in_turn start t more, e) refl

-- behind entries that led to s
module _ (t : List ℕ) {s : Stage} (a : entries_judged start t ≡ accepted s) where
  -- ---- one more entry, and what follows it

  module _ (e : ℕ) (more : List ℕ) where
    -- the ground against it, whatever follows
    pub entry_first : {n p : ℕ} → entry_judged s e ≡ refused n p → judge_table (t ++ (e ∷ more)) ≡ refused n p
    unfolding judge_table entries_judged
    entry_first j = rw (in_turn start t (e ∷ more), a, j) refl

    -- that is 6, whatever is due
    pub code_first : entry_fine e ≡ false → judge_table (t ++ (e ∷ more)) ≡ refused 6 0
    unfolding entry_judged
    code_first f = entry_first (rw f refl)

    module _ (f : entry_fine e ≡ true) where
      -- then 18 for an instruction where a header is due, whatever it would recall as a header
      pub header_due_lem : s.due ≡ 0 → (kind e ≡ 0 → ⊥) → judge_table (t ++ (e ∷ more)) ≡ refused 18 0
      unfolding entry_judged
      header_due_lem d k = entry_first (rw (f, d, ne_eqb (kind e) 0 k) refl)

      -- and 18 for a header where an instruction is due, a recall of nothing too
      pub instruction_due_lem : (s.due ≡ 0 → ⊥) → kind e ≡ 0 → judge_table (t ++ (e ∷ more)) ≡ refused 18 0
      unfolding entry_judged
      instruction_due_lem d k = entry_first (rw (f, ne_eqb s.due 0 d, k) refl)

      -- 7 last
      pub recall_last : s.due ≡ 0 → kind e ≡ 0 → recallable s.known e ≡ false → judge_table (t ++ (e ∷ more)) ≡ refused 7 0
      unfolding entry_judged
      recall_last d k r = entry_first (rw (f, d, k, r) refl)

  -- ---- no more

  -- a cut body, however many patterns were begun
  pub cut_first_lem : (s.due ≡ 0 → ⊥) → judge_table t ≡ refused 18 0
  unfolding judge_table end_judged
  cut_first_lem d = rw (a, ne_eqb s.due 0 d) refl

  module _ (d : s.due ≡ 0) where
    -- then no pattern
    pub none_second : s.begun ≡ 0 → judge_table t ≡ refused 5 0
    unfolding judge_table end_judged
    none_second b = rw (a, d, b) refl

    -- then too many
    pub many_third : 255 < s.begun → judge_table t ≡ refused 18 0
    unfolding judge_table end_judged
    many_third b = rw (a, d, le-leb 1 s.begun (omega arith), lt-leb s.begun 255 b) refl

-- A header is judged as if all parts were known, and then whether the one that it recalls is.
use Prim.Native.Nat.{ℕ, zero, suc, ◌+◌, ◌<◌}
use native.Mathlib.Omega.{arith}
use mathlib.Core.Path.{◌≡◌, refl, ap, ◌∙◌}
use mathlib.Core.Bool.{Bool, true, false}
use mathlib.Core.List.{List}
use lib.ListN.{length, get_or}
use lib.Dec.{ltb, eqb}
use Rattle.bits.specs.Choice.{pick}
use Rattle.bits.specs.Bits.{field}
use Rattle.bits.proofs.Choice.{pick_elim}
use Rattle.tone.specs.Tone.{specifier, part_of, recallable}
use Rattle.tone.specs.Reading.{Got, got, bad, onward, element, header_due}
use Rattle.tone_elements.specs.Answers.{all_known}

-- where all are known, a header may recall any
pub any_recalled : (h : ℕ) → recallable all_known h ≡ true
any_recalled h = pick_elim (λ (t : Bool). t ≡ true) (eqb (specifier h) 0) (λ _. known (part_of h) (omega arith)) (λ _. refl)
  where
    known : (i : ℕ) → i < 4 → get_or all_known i false ≡ true
    known zero k = refl
    known (suc zero) k = refl
    known (suc (suc zero)) k = refl
    known (suc (suc (suc zero))) k = refl
    known (suc (suc (suc (suc i)))) k = absurd (omega arith)

-- an element that is judged, and the same where all codes are taken
narrower : (w : ℕ) (all fine : ℕ → Bool) (number : ℕ) (l : List Bool) (at : ℕ) → ((v : ℕ) → all v ≡ true)
    → element w fine number l at ≡ onward (element w all number l at) (λ v p. pick (fine v) (got v p) (bad number at (at + w))) bad
unfolding element
narrower w all fine number l at any = rw (any (field l at w)) (go (ltb (length l) (at + w)))
  where
    go : (t : Bool) → pick t (bad 2 at (at + w)) (pick (fine (field l at w)) (got (field l at w) (at + w)) (bad number at (at + w)))
        ≡ onward (pick t (bad 2 at (at + w)) (got (field l at w) (at + w))) (λ v p. pick (fine v) (got v p) (bad number at (at + w))) bad
    go true = refl
    go false = refl

-- what a header recalls can be judged behind the rest of it
pub header_apart : (known l : List Bool) (at : ℕ) → header_due known l at ≡ onward (header_due all_known l at) (λ h p. pick (recallable known h) (got h p) (bad 7 (at + 3) (at + 17))) bad
unfolding header_due element
header_apart known l at = go (ltb (length l) (at + 3)) (eqb 0 (field l at 3))
  where
    payload : element 14 (recallable known) 7 l (at + 3) ≡ onward (element 14 (recallable all_known) 7 l (at + 3)) (λ h p. pick (recallable known h) (got h p) (bad 7 (at + 3) (at + 17))) bad
    payload =
        let e : at + 3 + 14 ≡ at + 17 = omega arith in
        narrower 14 (recallable all_known) (recallable known) 7 l (at + 3) any_recalled
        ∙ ap (λ (z : ℕ). onward (element 14 (recallable all_known) 7 l (at + 3)) (λ h p. pick (recallable known h) (got h p) (bad 7 (at + 3) z)) bad) e

    go : (s t : Bool) →
        let id : Got ℕ = pick s (bad 2 at (at + 3)) (pick t (got (field l at 3) (at + 3)) (bad 6 at (at + 3))) in
        onward id (λ _ p. element 14 (recallable known) 7 l p) bad
        ≡ onward (onward id (λ _ p. element 14 (recallable all_known) 7 l p) bad) (λ h p. pick (recallable known h) (got h p) (bad 7 (at + 3) (at + 17))) bad
    go true t = refl
    go false true = payload
    go false false = refl

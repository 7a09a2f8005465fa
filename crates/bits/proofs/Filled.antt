-- A lent buffer that is filled from the front, one cell a turn.
use Prim.Native.Nat.{ℕ, suc, ◌+◌, ◌≤◌, ◌<◌}
use native.Mathlib.Omega.{arith}
use native.Mathlib.Numerals.{add-one}
use mathlib.Core.Path.{◌≡◌, sym, ap, ap₂, ◌∙◌}
use mathlib.Core.List.{List, ◌++◌}
use lib.ListN.{length, get_or, take, drop, set, length-append, length-drop}
use lib.Seq.{take-suc, drop-cons, take-length, append_snoc, set_at, length-take-le}
use Rattle.bits.specs.Lent.{over}

-- with i cells of t written over the old ones
abbrev pub filled_to : List ℕ → ℕ → List ℕ → List ℕ
filled_to t i old = take i t ++ drop i old

-- one more
pub filled_more : (t old : List ℕ) (i : ℕ) → i < length t → length t ≤ length old → set (filled_to t i old) i (get_or t i 0) ≡ filled_to t (i + 1) old
filled_more t old i h k =
    let l : i < length old = omega arith in
    rw (drop-cons old i 0 l, set_at (take i t) (get_or old i 0) (drop (suc i) old) (get_or t i 0) i (length-take-le i t (omega arith)), add-one i, take-suc t i 0 h)
    (sym (append_snoc (take i t) (get_or t i 0) (drop (suc i) old)))

-- all
pub filled_all : (t old : List ℕ) {i : ℕ} → i ≡ length t → filled_to t i old ≡ over t old
filled_all t old e = rw e (ap (λ (x : List ℕ). x ++ drop (length t) old) (take-length t))

pub length_filled : (t old : List ℕ) (i : ℕ) → i ≤ length t → length t ≤ length old → length (filled_to t i old) ≡ length old
length_filled t old i h k =
    length-append (take i t) (drop i old) ∙ ap₂ (λ (x y : ℕ). x + y) (length-take-le i t h) (length-drop i old) ∙ omega arith

-- A header and an image that are written to the front of a buffer.
use Prim.Native.Nat.{ℕ, ◌+◌, ◌-◌, ◌≤◌}
use native.Mathlib.Omega.{arith}
use mathlib.Core.Path.{◌≡◌, refl, ap, ◌∙◌}
use mathlib.Core.List.{List, [], ◌∷◌, ◌++◌, append-nil}
use lib.ListN.{length, take, drop, set, length-set, length-take, length-drop, length-append}
use lib.Seq.{take-length, drop-length, drop-drop}

-- ---- four octets of header, and the image behind them

-- a buffer with a header in front
abbrev headed : ℕ → ℕ → ℕ → ℕ → List ℕ → List ℕ
headed i w h d out = set (set (set (set out 0 i) 1 w) 2 h) 3 d

-- the room behind a header
pub room : (i w h d : ℕ) (image out : List ℕ) → length image + 4 ≤ length out
    → length image ≤ length (take (length (headed i w h d out) - 4) (drop 4 (headed i w h d out)))
room i w h d image out l = simp (length-take, length-drop, length-set) (omega arith)

-- what `fill` leaves in the buffer
pub filled : (i w h d : ℕ) (image out : List ℕ) {x : List ℕ} → length image + 4 ≤ length out
    → x ≡ image ++ drop (length image) (take (length (headed i w h d out) - 4) (drop 4 (headed i w h d out)))
    → take 4 (headed i w h d out) ++ (x ++ drop (length (headed i w h d out) - 4) (drop 4 (headed i w h d out)))
    ≡ i ∷ w ∷ h ∷ d ∷ image ++ drop (length image + 4) out
filled i w h d image [] l e = let z : ⊥ = omega arith in absurd z
filled i w h d image (a ∷ []) l e = let z : ⊥ = omega arith in absurd z
filled i w h d image (a ∷ b ∷ []) l e = let z : ⊥ = omega arith in absurd z
filled i w h d image (a ∷ b ∷ c ∷ []) l e = let z : ⊥ = omega arith in absurd z
filled i w h d image (a ∷ b ∷ c ∷ f ∷ out) {x} l e =
    let n : length (i ∷ w ∷ h ∷ d ∷ out) - 4 ≡ length out = omega arith in
    let k : length image + 4 ≡ 4 + length image = omega arith in
    let t : x ≡ image ++ drop (length image) out = e ∙ (rw (n, take-length out) refl) in
    rw (n, drop-length out, append-nil x, t, k, ← drop-drop (length image) 4 (a ∷ b ∷ c ∷ f ∷ out)) refl

-- the buffer keeps its length
pub filled_long : (i w h d : ℕ) (image out : List ℕ) {x : List ℕ} → length image + 4 ≤ length out
    → x ≡ image ++ drop (length image) (take (length (headed i w h d out) - 4) (drop 4 (headed i w h d out)))
    → length (take 4 (headed i w h d out) ++ (x ++ drop (length (headed i w h d out) - 4) (drop 4 (headed i w h d out)))) ≡ length out
filled_long i w h d image out l e = ap length (filled i w h d image out l e) ∙ simp (length-append, length-drop) (omega arith)

pub ruleset filling = (room, filled, filled_long)

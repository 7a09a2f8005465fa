-- The change in octets, and clearing.
use Prim.Native.Nat.{ℕ, zero, suc, ◌+◌, ◌-◌, ◌≤◌, ◌<◌}
use native.Mathlib.Omega.{arith}
use mathlib.Core.Path.{◌≡◌, sym, ap, ap₂, ◌∙◌}
use mathlib.Core.Bool.{Bool, true, false, cond}
use mathlib.Core.List.{List, ◌++◌, append_assoc}
use lib.ListN.{length, drop, replicate, length-append, length-replicate}
use lib.Seq.{take_at, drop_at, drop-drop}
use lib.Dec.{ltb}
use lib.IntN.{ℤ, pos, negsuc, sub_ℕ, ◌-ℤ◌}
use lib.Signed.{mag}
use mir.Val.{SFits, to_z, of_z}
use mir.ValLaws.{to_z_pos, to_z-of_z}
use mir.Syntax.{w32}
use Rattle.bits.specs.Lent.{over}
use Rattle.edit.specs.Editing.{cleared}

small_sub : (a b : ℕ) → a ≤ 4096 → b ≤ 4096 → mag (sub_ℕ a b) < 2147483648
small_sub a b h k = go (ltb a b)
  where
    go : (t : Bool) → mag (cond t (negsuc (b - suc a)) (pos (a - b))) < 2147483648
    go true = omega arith
    go false = omega arith

small : (a b : ℕ) → a ≤ 4096 → b ≤ 4096 → mag (pos a -ℤ pos b) < 2147483648
small a zero h k = omega arith
small a (suc b) h k = small_sub a (suc b) h k

pub change_fits : (a b : ℕ) → a ≤ 4096 → b ≤ 4096 → SFits w32 (to_z w32 a -ℤ to_z w32 b)
change_fits a b h k =
    rw (to_z_pos w32 a (omega arith), to_z_pos w32 b (omega arith)) (record { sfits = small a b h k })

pub change_is : (a b : ℕ) → a ≤ 4096 → b ≤ 4096 → to_z w32 (of_z w32 (to_z w32 a -ℤ to_z w32 b)) ≡ pos a -ℤ pos b
change_is a b h k =
    to_z-of_z w32 (to_z w32 a -ℤ to_z w32 b) (change_fits a b h k) ∙ ap₂ (λ (x y : ℤ). x -ℤ y) (to_z_pos w32 a (omega arith)) (to_z_pos w32 b (omega arith))

-- a change that is held in an answer is the change
pub change_kept : (a b : ℕ) {r : ℤ} → a ≤ 4096 → b ≤ 4096 → r ≡ pos a -ℤ pos b → to_z w32 (of_z w32 r) ≡ pos a -ℤ pos b
change_kept a b h k e = ap (λ (z : ℤ). to_z w32 (of_z w32 z)) e ∙ to_z-of_z w32 (pos a -ℤ pos b) (record { sfits = small a b h k })

-- ---- clearing

-- a message over the buffer and zeros behind it up to the old length
pub cleared_over : (o buf : List ℕ) (n used : ℕ) → length o ≡ n → n ≤ length buf → cleared n used (over o buf) ≡ over (o ++ replicate (used - n) 0) buf
cleared_over o buf n used e h =
    let z : List ℕ = replicate (used - n) 0 in
    let l : length (o ++ z) ≡ n + (used - n) = length-append o z ∙ ap₂ (λ (x y : ℕ). x + y) e (length-replicate (used - n) 0) in
    let d : drop (n + (used - n)) (over o buf) ≡ drop (n + (used - n)) buf =
    sym (drop-drop (used - n) n (over o buf)) ∙ ap (drop (used - n)) (drop_at o (drop (length o) buf) n e ∙ ap (λ (x : ℕ). drop x buf) e) ∙ drop-drop (used - n) n buf in
    ap₂ (λ (x y : List ℕ). x ++ (z ++ y)) (take_at o (drop (length o) buf) n e) (d ∙ ap (λ (x : ℕ). drop x buf) (sym l))
    ∙ sym (append_assoc o z (drop (length (o ++ z)) buf))

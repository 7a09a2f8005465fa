-- Spaces as octets, in both widths.
use Prim.Native.Nat.{ℕ, zero, suc, ◌+◌, ◌*◌, ◌<◌}
use native.Mathlib.Omega.{arith}
use native.Mathlib.Nat.{mul-suc, mul-zero, add_comm}
use mathlib.Core.Path.{◌≡◌, refl, sym, ap, ◌∙◌}
use mathlib.Core.Bool.{Bool, true, false}
use mathlib.Core.List.{List, [], ◌∷◌, ◌++◌}
use lib.ListN.{length, take, drop, length-append}
use lib.Seq.{take_at, drop-append-add}
use Rattle.tone.specs.Tone.{per_character}
use Rattle.label.specs.Label.{number, space, spaces}

pub length_space : (unicode : Bool) → length (space unicode) ≡ per_character unicode
length_space true = refl
length_space false = refl

pub length_spaces : (unicode : Bool) (n : ℕ) → length (spaces unicode n) ≡ per_character unicode * n
length_spaces unicode zero = sym (mul-zero (per_character unicode))
length_spaces unicode (suc n) =
    length-append (space unicode) (spaces unicode n) ∙ (rw (length_space unicode, length_spaces unicode n, mul-suc (per_character unicode) n) (add_comm (per_character unicode) (per_character unicode * n)))

-- a space spells 32
pub space_spells : (unicode : Bool) → number (space unicode) ≡ 32
space_spells true = refl
space_spells false = refl

-- a character that spells 32 is a space
pub spells_space : (unicode : Bool) (o : List ℕ) → length o ≡ per_character unicode → number o ≡ 32 → o ≡ space unicode
spells_space true [] e h = absurd (omega arith)
spells_space true (x ∷ []) e h = absurd (omega arith)
spells_space true (x ∷ y ∷ []) e h = let a : x ≡ 0 = omega arith in let b : y ≡ 32 = omega arith in cc
spells_space true (x ∷ y ∷ z ∷ o) e h = absurd (omega arith)
spells_space false [] e h = absurd (omega arith)
spells_space false (x ∷ []) e h = let a : x ≡ 32 = omega arith in cc
spells_space false (x ∷ y ∷ o) e h = absurd (omega arith)

-- each character of spaces is one
pub spaces_at : (unicode : Bool) (n i : ℕ) → i < n → take (per_character unicode) (drop (per_character unicode * i) (spaces unicode n)) ≡ space unicode
spaces_at unicode zero i h = absurd (omega arith)
spaces_at unicode (suc n) zero h = rw (mul-zero (per_character unicode)) (take_at (space unicode) (spaces unicode n) (per_character unicode) (length_space unicode))
spaces_at unicode (suc n) (suc i) h =
    let w = per_character unicode in
    let e : w * suc i ≡ length (space unicode) + w * i = mul-suc w i ∙ add_comm (w * i) w ∙ ap (λ (x : ℕ). x + w * i) (sym (length_space unicode)) in
    ap (λ (x : ℕ). take w (drop x (space unicode ++ spaces unicode n))) e ∙ ap (take w) (drop-append-add (space unicode) (spaces unicode n) (w * i)) ∙ spaces_at unicode n i (omega arith)

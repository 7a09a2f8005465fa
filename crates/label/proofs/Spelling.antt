-- A character's octets, in both widths.
use Prim.Native.Nat.{ℕ, suc, ◌+◌, ◌*◌, ◌≤◌, ◌<◌}
use native.Mathlib.Omega.{arith}
use native.Mathlib.Numerals.{add-one}
use mathlib.Core.Path.{◌≡◌}
use mathlib.Core.Bool.{Bool, true, false}
use mathlib.Core.List.{List}
use lib.ListN.{length, get_or}
use lib.Seq.{drop-cons}
use Rattle.tone.specs.Tone.{per_character}
use Rattle.label.specs.Label.{character}

-- 8 bits
spelled_8 : (title : List ℕ) (at : ℕ) → at + 1 ≤ length title → get_or title at 0 ≡ character 1 title at
spelled_8 title at h = rw (drop-cons title at 0 (omega arith)) (omega arith)

-- 16 bits, high octet first
spelled_16 : (title : List ℕ) (at : ℕ) → at + 2 ≤ length title → get_or title at 0 * 256 + get_or title (at + 1) 0 ≡ character 2 title at
spelled_16 title at h = rw (drop-cons title at 0 (omega arith), drop-cons title (suc at) 0 (omega arith), add-one at) (omega arith)

module _ (unicode : Bool) (title : List ℕ) (at : ℕ) (h : at + per_character unicode ≤ length title) where
  pub first_inside : at < length title
  first_inside = go unicode h
    where
      go : (u : Bool) → at + per_character u ≤ length title → at < length title
      go true h = omega arith
      go false h = omega arith

  pub second_inside : unicode ≡ true → at + 1 < length title
  second_inside u = let g : at + 2 ≤ length title = rw u at h in omega arith

  pub narrow_spelled : unicode ≡ false → get_or title at 0 ≡ character (per_character unicode) title at
  narrow_spelled u = let g : at + 1 ≤ length title = rw u at h in rw u (spelled_8 title at g)

  pub wide_spelled : unicode ≡ true → get_or title at 0 * 256 + get_or title (at + 1) 0 ≡ character (per_character unicode) title at
  wide_spelled u = let g : at + 2 ≤ length title = rw u at h in rw u (spelled_16 title at g)

pub ruleset spellings = (first_inside, second_inside, narrow_spelled, wide_spelled)

-- How long notes sound, in the numbers of document 01 and of table 3.7-11 of 000.
use Rattle.std.specs.Prelude.{ℕ, zero, suc, ◌≡◌, List, [], ◌∷◌, ◌++◌, map}
use Rattle.list_rules.specs.Duration.{beats, units, microseconds}

-- the codes below n, in turn
abbrev pub codes : ℕ → List ℕ
codes zero = []
codes (suc n) = codes n ++ (n ∷ [])

-- tempos, quarter notes and lengths
pub record Durations : Type 0 where
  -- the beats a minute of the tempo codes 0 to 31
  pub tempos : map beats (codes 32)
      ≡ 25 ∷ 28 ∷ 31 ∷ 35 ∷ 40 ∷ 45 ∷ 50 ∷ 56 ∷ 63 ∷ 70 ∷ 80 ∷ 90 ∷ 100 ∷ 112 ∷ 125 ∷ 140
      ∷ 160 ∷ 180 ∷ 200 ∷ 225 ∷ 250 ∷ 285 ∷ 320 ∷ 355 ∷ 400 ∷ 450 ∷ 500 ∷ 565 ∷ 635 ∷ 715 ∷ 800 ∷ 900 ∷ []
  -- a quarter note at each of them: 60,000,000 microseconds over the beats, rounded down
  pub quarters : map (λ t. microseconds 0 (units 2 0) (beats t)) (codes 32)
      ≡ 2400000 ∷ 2142857 ∷ 1935483 ∷ 1714285 ∷ 1500000 ∷ 1333333 ∷ 1200000 ∷ 1071428 ∷ 952380 ∷ 857142 ∷ 750000
      ∷ 666666 ∷ 600000 ∷ 535714 ∷ 480000 ∷ 428571 ∷ 375000 ∷ 333333 ∷ 300000 ∷ 266666 ∷ 240000 ∷ 210526 ∷ 187500
      ∷ 169014 ∷ 150000 ∷ 133333 ∷ 120000 ∷ 106194 ∷ 94488 ∷ 83916 ∷ 75000 ∷ 66666 ∷ []
  -- the units of each duration code: plain, dotted, double dotted, two thirds
  pub lengths : map (λ d. map (units d) (codes 4)) (codes 6)
      ≡ (384 ∷ 576 ∷ 672 ∷ 256 ∷ [])
      ∷ (192 ∷ 288 ∷ 336 ∷ 128 ∷ [])
      ∷ (96 ∷ 144 ∷ 168 ∷ 64 ∷ [])
      ∷ (48 ∷ 72 ∷ 84 ∷ 32 ∷ [])
      ∷ (24 ∷ 36 ∷ 42 ∷ 16 ∷ [])
      ∷ (12 ∷ 18 ∷ 21 ∷ 8 ∷ [])
      ∷ []

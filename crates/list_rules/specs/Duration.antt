-- How long a note sounds.
use Rattle.std.specs.Prelude.{ℕ, ◌+◌, ◌*◌, ◌/◌, ◌%◌, ◌^◌, List, [], ◌∷◌, get_or, eqb}
use Rattle.bits.specs.Choice.{pick}

-- beats a minute of each tempo code, table 3.7-11 of 000
abbrev pub tempos : List ℕ
tempos =
    25 ∷ 28 ∷ 31 ∷ 35 ∷ 40 ∷ 45 ∷ 50 ∷ 56
    ∷ 63 ∷ 70 ∷ 80 ∷ 90 ∷ 100 ∷ 112 ∷ 125 ∷ 140
    ∷ 160 ∷ 180 ∷ 200 ∷ 225 ∷ 250 ∷ 285 ∷ 320 ∷ 355
    ∷ 400 ∷ 450 ∷ 500 ∷ 565 ∷ 635 ∷ 715 ∷ 800 ∷ 900 ∷ []

-- the beats a minute of a tempo code
unfoldable pub beats : ℕ → ℕ
beats tempo = get_or tempos tempo 0

-- a full note is 384 units, and each duration code halves it
abbrev pub plain_units : ℕ → ℕ
plain_units duration = 384 / 2 ^ duration

-- dotted is times 3/2, double dotted times 7/4, the last specifier times 2/3
unfoldable pub units : ℕ → ℕ → ℕ
units duration specifier =
    pick (eqb specifier 1) (plain_units duration * 3 / 2)
    (pick (eqb specifier 2) (plain_units duration * 7 / 4)
    (pick (eqb specifier 3) (plain_units duration * 2 / 3)
    (plain_units duration)))

-- ---- the duration step: it takes the fraction left over, in beats-ths of a microsecond, and hands back the new one

-- how long so many units sound: a quarter note, 96 units, is one beat; rounded down
unfoldable pub microseconds : ℕ → ℕ → ℕ → ℕ
microseconds fraction u b = (fraction + u * 625000) / b

-- the fraction that they leave over
unfoldable pub left_over : ℕ → ℕ → ℕ → ℕ
left_over fraction u b = (fraction + u * 625000) % b

-- Each octet that counts lies in one piece: in one message that is kept, or it is one that is skipped.
use Prim.Native.Nat.{ℕ, zero, suc, ◌+◌, ◌-◌, ◌≤◌}
use native.Mathlib.Omega.{arith}
use native.Mathlib.Nat.{add-zero}
use mathlib.Core.Path.{◌≡◌, refl, sym, ap, ap₂, ◌∙◌}
use mathlib.Core.List.{List, [], ◌∷◌, ◌++◌, map}
use lib.ListN.{length}
use Rattle.inside.specs.Inside.{join}
use Rattle.salvage.specs.Salvage.{message_at, Piece, kept, skipped, pieces, kept_in, skipped_in}
use Rattle.salvage.proofs.Pieces.{message_inside, by_pieces}

-- so many octets in a row, by their numbers
abbrev pub numbers_from : ℕ → ℕ → List ℕ
numbers_from at zero = []
numbers_from at (suc n) = at ∷ numbers_from (at + 1) n

-- the octets of a piece
abbrev pub octets_of : Piece → List ℕ
octets_of (kept r) = numbers_from r.start r.length
octets_of (skipped at) = at ∷ []

numbers_append : (at j k : ℕ) → numbers_from at j ++ numbers_from (at + j) k ≡ numbers_from at (j + k)
numbers_append at zero k = let z : 0 + k ≡ k = omega arith in ap₂ numbers_from (add-zero at) (sym z)
numbers_append at (suc j) k =
    let z : suc j + k ≡ suc (j + k) = omega arith in
    let y : at + suc j ≡ at + 1 + j = omega arith in
    ap (λ (l : List ℕ). at ∷ l) (ap (λ (x : ℕ). numbers_from (at + 1) j ++ numbers_from x k) y ∙ numbers_append (at + 1) j k) ∙ sym (ap (numbers_from at) z)

-- piece by piece, the octets that count come each once, and in their order
pub each_octet_once : (c : List ℕ) → join (map octets_of (pieces c)) ≡ numbers_from 0 (length c)
each_octet_once c =
    let none : length c - length c ≡ 0 = omega arith in
    let all : length c - 0 ≡ length c = omega arith in
    by_pieces c (λ at xs. join (map octets_of xs) ≡ numbers_from at (length c - at)) (rw none refl)
    (λ at h xs q. more at 1 (omega arith) (join (map octets_of xs)) q)
    (λ at h d xs q. more at (message_at c at) (message_inside c at (omega arith)) (join (map octets_of xs)) q)
    ∙ ap (numbers_from 0) all
  where
    more : (at n : ℕ) → at + n ≤ length c → (rest : List ℕ) → rest ≡ numbers_from (at + n) (length c - (at + n)) → numbers_from at n ++ rest ≡ numbers_from at (length c - at)
    more at n h rest q =
        let z : n + (length c - (at + n)) ≡ length c - at = omega arith in
        ap (λ (l : List ℕ). numbers_from at n ++ l) q ∙ numbers_append at n (length c - (at + n)) ∙ ap (numbers_from at) z

-- and as many are skipped as pieces are no message
pub skips_counted : (xs : List Piece) → length (kept_in xs) + skipped_in xs ≡ length xs
skips_counted [] = refl
skips_counted (kept r ∷ xs) = omega (arith, skips_counted xs)
skips_counted (skipped at ∷ xs) = omega (arith, skips_counted xs)

-- An input piece by piece: each message that is kept, and each octet that is skipped.
use Prim.Native.Nat.{ℕ, zero, suc, ◌+◌, ◌-◌, ◌*◌, ◌≤◌, ◌<◌}
use native.Mathlib.Omega.{arith}
use mathlib.Core.Path.{◌≡◌, refl, sym, ap, subst, ◌∙◌}
use mathlib.Core.Bool.{Bool, true, false}
use mathlib.Core.List.{List, [], ◌∷◌}
use lib.ListN.{length, get_or}
use lib.Dec.{leb}
use borrow.Author.Tests.{le-leb, lt-leb, leb-true, leb-false, eq-eqb, ne_eqb}
use Rattle.bits.specs.Choice.{pick}
use Rattle.bits.proofs.Choice.{pick_elim}
use Rattle.tone.specs.Reading.{tone_at}
use Rattle.tone.proofs.Standing.{Stands, at_stands, at_inside, at_least}
use Rattle.inside.specs.Inside.{sum}
use Rattle.pack.specs.Pack.{Row, lengths_in}
use Rattle.salvage.specs.Salvage.{message_at, Piece, kept, skipped, taken, piece_at, pieces_from, pieces, kept_in, skipped_in}

-- ---- a message at an octet

module _ (c : List ℕ) (at : ℕ) (h : at ≤ length c) where
  -- it ends within what counts
  pub message_inside : at + message_at c at ≤ length c
  unfolding message_at
  message_inside = pick_elim (λ (n : ℕ). at + n ≤ length c) (leb (tone_at c at) 4096) (λ _. at_inside c at h) (λ _. omega arith)

  -- it has at least eight octets
  pub message_least : 1 ≤ message_at c at → 8 ≤ message_at c at
  unfolding message_at
  message_least = pick_elim (λ (n : ℕ). 1 ≤ n → 8 ≤ n) (leb (tone_at c at) 4096) (λ _. at_least c at h) (λ _ l. absurd (omega arith))

  -- and it stands there
  pub message_stands : 1 ≤ message_at c at → Stands c at (message_at c at)
  unfolding message_at
  message_stands = go (leb (tone_at c at) 4096)
    where
      go : (t : Bool) → 1 ≤ pick t (tone_at c at) 0 → Stands c at (pick t (tone_at c at) 0)
      go true l = at_stands c at h l
      go false l = absurd (omega arith)

-- it has at most 4,096 octets
pub message_most : (c : List ℕ) (at : ℕ) → message_at c at ≤ 4096
unfolding message_at
message_most c at = pick_elim (λ (n : ℕ). n ≤ 4096) (leb (tone_at c at) 4096) (λ e. leb-true (tone_at c at) 4096 e) (λ _. omega arith)

-- ---- the piece at an octet

module _ (c : List ℕ) (at : ℕ) where
  -- where no message starts, the octet is skipped
  pub piece_skipped : message_at c at ≡ 0 → piece_at c at ≡ skipped at
  unfolding piece_at
  piece_skipped e = rw (eq-eqb (message_at c at) 0 e) refl

  -- where one starts, it is kept
  pub piece_kept : (message_at c at ≡ 0 → ⊥) → piece_at c at ≡ kept (record { start = at; length = message_at c at })
  unfolding piece_at
  piece_kept n = rw (ne_eqb (message_at c at) 0 n) refl

-- what the piece at an octet is
pub data PieceIs (c : List ℕ) (at : ℕ) : Piece → Type 0 where
  skips : message_at c at ≡ 0 → PieceIs c at (skipped at)
  keeps : (message_at c at ≡ 0 → ⊥) → PieceIs c at (kept (record { start = at; length = message_at c at }))

pub piece_is : (c : List ℕ) (at : ℕ) → PieceIs c at (piece_at c at)
piece_is c at = go (message_at c at) refl
  where
    go : (n : ℕ) → message_at c at ≡ n → PieceIs c at (piece_at c at)
    go zero e = subst (PieceIs c at) (sym (piece_skipped c at e)) (skips e)
    go (suc n) e = let d : message_at c at ≡ 0 → ⊥ = λ z. omega (arith, e, z) in subst (PieceIs c at) (sym (piece_kept c at d)) (keeps d)

module _ (c : List ℕ) (at : ℕ) where
  -- a piece has an octet at least
  pub taken_some : 1 ≤ taken (piece_at c at)
  taken_some = go (piece_is c at)
    where
      go : {x : Piece} → PieceIs c at x → 1 ≤ taken x
      go (skips e) = omega arith
      go (keeps d) = omega (arith, d)

  -- and ends within what counts
  pub taken_inside : at < length c → at + taken (piece_at c at) ≤ length c
  taken_inside h = go (piece_is c at)
    where
      go : {x : Piece} → PieceIs c at x → at + taken x ≤ length c
      go (skips e) = omega arith
      go (keeps d) = message_inside c at (omega arith)

-- ---- pieces in a row

module _ (c : List ℕ) where
  -- at the end there are none
  pub no_pieces : (k at : ℕ) → length c ≤ at → pieces_from k c at ≡ []
  unfolding pieces_from
  no_pieces zero at h = refl
  no_pieces (suc k) at h = rw (le-leb (length c) at h) refl

  -- before it there is one, and those behind it
  pub next_piece : (k at : ℕ) → at < length c → pieces_from (suc k) c at ≡ piece_at c at ∷ pieces_from k c (at + taken (piece_at c at))
  unfolding pieces_from
  next_piece k at h = rw (lt-leb (length c) at h) refl

  -- more steps than there are octets left change nothing
  pub enough_steps : (j k at : ℕ) → length c ≤ at + j → length c ≤ at + k → pieces_from j c at ≡ pieces_from k c at
  enough_steps zero k at a b = no_pieces zero at (omega arith) ∙ sym (no_pieces k at (omega arith))
  enough_steps (suc j) zero at a b = no_pieces (suc j) at (omega arith) ∙ sym (no_pieces zero at (omega arith))
  enough_steps (suc j) (suc k) at a b = go (leb (length c) at) refl (enough_steps j k n (omega (arith, l)) (omega (arith, l)))
    where
      n : ℕ
      n = at + taken (piece_at c at)

      l : 1 ≤ taken (piece_at c at)
      l = taken_some c at

      go : (t : Bool) → leb (length c) at ≡ t → pieces_from j c n ≡ pieces_from k c n → pieces_from (suc j) c at ≡ pieces_from (suc k) c at
      go true e r = let h = leb-true (length c) at e in no_pieces (suc j) at h ∙ sym (no_pieces (suc k) at h)
      go false e r = let h = leb-false (length c) at e in next_piece j at h ∙ ap (λ (xs : List Piece). piece_at c at ∷ xs) r ∙ sym (next_piece k at h)

  -- all pieces from an octet on
  abbrev pub onward : ℕ → List Piece
  onward at = pieces_from (length c - at) c at

  pub onward_end : (at : ℕ) → length c ≤ at → onward at ≡ []
  onward_end at h = no_pieces (length c - at) at h

  pub onward_next : (at : ℕ) → at < length c → onward at ≡ piece_at c at ∷ onward (at + taken (piece_at c at))
  onward_next at h =
      let k = length c - at - 1 in
      let z : length c - at ≡ suc k = omega arith in
      let n = at + taken (piece_at c at) in
      let l = taken_some c at in
      let i = taken_inside c at h in
      ap (λ (j : ℕ). pieces_from j c at) z ∙ next_piece k at h ∙ ap (λ (xs : List Piece). piece_at c at ∷ xs) (enough_steps k (length c - n) n (omega (arith, l)) (omega (arith, i)))

-- what holds at the end, ahead of an octet that is skipped, and ahead of a message that is kept, holds of all
pub by_pieces : (c : List ℕ) (P : ℕ → List Piece → Type 0) → P (length c) []
    → ((at : ℕ) → at < length c → (xs : List Piece) → P (at + 1) xs → P at (skipped at ∷ xs))
    → ((at : ℕ) → at < length c → (message_at c at ≡ 0 → ⊥) → (xs : List Piece) → P (at + message_at c at) xs → P at (kept (record { start = at; length = message_at c at }) ∷ xs))
    → P 0 (pieces c)
unfolding pieces
by_pieces c P end skip keep = from (length c) 0 (omega arith) (omega arith)
  where
    step : (at : ℕ) {x : Piece} → PieceIs c at x → at < length c → (xs : List Piece) → P (at + taken x) xs → P at (x ∷ xs)
    step at (skips e) h xs p = skip at h xs p
    step at (keeps d) h xs p = keep at h d xs p

    last : (k at : ℕ) → at ≤ length c → length c ≤ at → P at (pieces_from k c at)
    last k at h l = let z : length c ≡ at = omega arith in subst (P at) (sym (no_pieces c k at l)) (subst (λ (n : ℕ). P n []) z end)

    more : (k at : ℕ) → at ≤ length c → (t : Bool) → leb (length c) at ≡ t → (at < length c → P (at + taken (piece_at c at)) (pieces_from k c (at + taken (piece_at c at)))) → P at (pieces_from (suc k) c at)
    more k at h true e r = last (suc k) at h (leb-true (length c) at e)
    more k at h false e r = let i = leb-false (length c) at e in subst (P at) (sym (next_piece c k at i)) (step at (piece_is c at) i (pieces_from k c (at + taken (piece_at c at))) (r i))

    from : (k at : ℕ) → at ≤ length c → length c ≤ at + k → P at (pieces_from k c at)
    from zero at h l = last zero at h (omega arith)
    from (suc k) at h l = more k at h (leb (length c) at) refl (λ i. from k (at + taken (piece_at c at)) (taken_inside c at i) (omega (arith, taken_some c at)))

-- ---- what pieces come to

-- rows that lie one behind the other, from an octet up to another
abbrev pub InOrder : ℕ → List Row → ℕ → Type 0
InOrder at [] end = at ≤ end
InOrder at (r ∷ rs) end = (at ≤ r.start) × InOrder (r.start + r.length) rs end

-- they may begin earlier
order_earlier : (at b : ℕ) (rs : List Row) (end : ℕ) → at ≤ b → InOrder b rs end → InOrder at rs end
order_earlier at b [] end h o = omega (arith, o)
order_earlier at b (r ∷ rs) end h o = (omega (arith, o.0), o.1)

-- each ends ahead of the last octet
pub order_ends : (at : ℕ) (rs : List Row) (end : ℕ) → InOrder at rs end → at ≤ end
order_ends at [] end o = o
order_ends at (r ∷ rs) end o = omega (arith, o.0, order_ends (r.start + r.length) rs end o.1)

pub order_within : (none : Row) (at : ℕ) (rs : List Row) (end : ℕ) → InOrder at rs end → (i : ℕ) → i < length rs → (get_or rs i none).start + (get_or rs i none).length ≤ end
order_within none at [] end o i h = absurd (omega arith)
order_within none at (r ∷ rs) end o zero h = order_ends (r.start + r.length) rs end o.1
order_within none at (r ∷ rs) end o (suc i) h = order_within none (r.start + r.length) rs end o.1 i (omega arith)

module _ (c : List ℕ) where
  -- the messages that are kept lie one behind the other, within what counts
  pub kept_in_order : InOrder 0 (kept_in (pieces c)) (length c)
  kept_in_order =
      by_pieces c (λ at xs. InOrder at (kept_in xs) (length c)) (omega arith)
      (λ at h xs o. order_earlier at (at + 1) (kept_in xs) (length c) (omega arith) o)
      (λ at h d xs o. (omega arith, o))

  -- kept and skipped octets together are all that count
  pub kept_and_skipped : sum (lengths_in (kept_in (pieces c))) + skipped_in (pieces c) ≡ length c
  kept_and_skipped =
      omega (arith, by_pieces c (λ at xs. at + (sum (lengths_in (kept_in xs)) + skipped_in xs) ≡ length c) (omega arith) (λ at h xs q. omega (arith, q)) (λ at h d xs q. omega (arith, q)))

  -- each message that is kept has at least eight octets
  pub kept_least : 8 * length (kept_in (pieces c)) ≤ sum (lengths_in (kept_in (pieces c)))
  kept_least =
      by_pieces c (λ at xs. 8 * length (kept_in xs) ≤ sum (lengths_in (kept_in xs))) (omega arith)
      (λ at h xs q. q)
      (λ at h d xs q. omega (arith, q, message_least c at (omega arith) (omega (arith, d))))

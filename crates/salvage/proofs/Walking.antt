-- What going through an input keeps: the messages so far, and those still ahead.
use Prim.Native.Nat.{ℕ, zero, suc, ◌+◌, ◌-◌, ◌*◌, ◌/◌, ◌%◌, ◌≤◌, ◌<◌}
use native.Mathlib.Omega.{arith}
use native.Mathlib.Numerals.{add-one}
use mathlib.Core.Path.{◌≡◌, refl, sym, ap, ap₂, subst, ◌∙◌}
use mathlib.Core.Logic.{⊎_elim}
use mathlib.Core.List.{List, [], ◌∷◌, ◌++◌, map-append, append_assoc, append-nil}
use lib.ListN.{length, take, set, length-append, length-map, length-set}
use lib.Seq.{length-take-le, take-suc-set}
use mir.Val.{Fits}
use mir.Syntax.{w64}
use Rattle.std.specs.Prelude.{Option, Some, None}
use Rattle.bits.specs.declared.OctetCount.{OctetCount}
use Rattle.tone_sound.specs.Answers.{octets_or_none}
use Rattle.tone_sound.proofs.Counts.{none_is, octets_are}
use Rattle.inside.specs.Inside.{sum}
use Rattle.pack.specs.Pack.{most_pack, Row, lengths_in}
use Rattle.salvage.specs.Salvage.{message_at, Piece, kept, skipped, taken, pieces_from, pieces, kept_in}
use Rattle.salvage.specs.Answers.{Passed, row_of, rows_of, pack_size, Enough, all_kept, KeptAll, KeptTooMuch}
use Rattle.salvage.proofs.Pieces.{message_inside, message_least, message_most, piece_skipped, piece_kept, onward, onward_next, onward_end}

-- ---- rows behind rows

sum_rows : (rs qs : List Row) → sum (lengths_in (rs ++ qs)) ≡ sum (lengths_in rs) + sum (lengths_in qs)
sum_rows [] qs = omega arith
sum_rows (r ∷ rs) qs = omega (arith, sum_rows rs qs)

-- ---- octets that are passed

-- where octets are passed, nothing is kept
none_kept : (c : List ℕ) (at to : ℕ) → Passed c at to → kept_in (onward c at) ≡ kept_in (onward c to)
none_kept c at to p = go (to - at) at (omega (arith, p.onward)) (λ i a b. p.none i a b)
  where
    go : (k at : ℕ) → at + k ≡ to → ((i : ℕ) → at ≤ i → i < to → message_at c i ≡ 0) → kept_in (onward c at) ≡ kept_in (onward c to)
    go zero at e n = let z : at ≡ to = omega arith in ap (λ (i : ℕ). kept_in (onward c i)) z
    go (suc k) at e n =
        ap kept_in (onward_next c at (omega (arith, p.inside)) ∙ ap (λ (x : Piece). x ∷ onward c (at + taken x)) (piece_skipped c at (n at (omega arith) (omega arith))))
        ∙ go k (at + 1) (omega arith) (λ i a b. n i (omega arith) b)

-- ---- on the way

-- n messages of so many octets are kept up to an octet, a cell for each; the others are still ahead
pub record Walking (c old cells : List ℕ) (at n octets : ℕ) : Type 0 where
  pub inside : at ≤ length c
  pub rows : all_kept c ≡ rows_of (take n cells) ++ kept_in (onward c at)
  pub sums : octets ≡ sum (lengths_in (rows_of (take n cells)))
  pub least : 8 * n ≤ octets
  pub size : octets + 4 * n + 4 ≤ 65535
  pub behind : octets ≤ at
  pub enough : Enough (length c) (length cells)
  pub long : length cells ≡ length old

module _ (c old : List ℕ) where
  pub walk_begins : (length c ≤ 65535) × Enough (length c) (length old) → Walking c old old 0 0 0
  unfolding pieces
  walk_begins l =
      let z : length c ≡ length c - 0 = omega arith in
      record { inside = omega arith; rows = ap (λ (k : ℕ). kept_in (pieces_from k c 0)) z; sums = refl; least = omega arith; size = omega arith; behind = omega arith; enough = l.1; long = refl }

  module _ {cells : List ℕ} {at n octets : ℕ} (w : Walking c old cells at n octets) where
    -- there is a cell for each message
    there : n ≤ length cells
    there = ⊎_elim (λ h. omega (arith, h, w.least, w.behind, w.inside)) (λ h. omega (arith, h, w.least, w.size)) w.enough

    -- and as many rows
    many : length (rows_of (take n cells)) ≡ n
    many = length-map (take n cells) row_of ∙ length-take-le n cells there

    pub walk_inside : at ≤ length c
    walk_inside = w.inside

    pub walk_long : length cells ≡ length old
    walk_long = w.long

    pub walk_ends : length c ≤ at → KeptAll c cells n octets
    walk_ends h =
        let e : rows_of (take n cells) ≡ all_kept c = sym (append-nil (rows_of (take n cells))) ∙ ap (λ (xs : List Piece). rows_of (take n cells) ++ kept_in xs) (sym (onward_end c at h)) ∙ sym w.rows in
        record {
          rows = e;
          many = sym many ∙ ap length e;
          sums = w.sums ∙ ap (λ (rs : List Row). sum (lengths_in rs)) e;
          size = subst (λ (rs : List Row). pack_size rs ≤ most_pack) e (omega (arith, w.sums, w.size, many));
        }

    module _ (h : at < length c) {r : Option OctetCount} (q : r ≡ octets_or_none (message_at c at)) where
      -- the octet is skipped, and so are those that are passed behind it
      pub walk_skips : r ≡ None → {to : ℕ} → Passed c (at + 1) to → Walking c old cells to n octets
      walk_skips z {to} p =
          let e : onward c at ≡ skipped at ∷ onward c (at + 1) = onward_next c at h ∙ ap (λ (x : Piece). x ∷ onward c (at + taken x)) (piece_skipped c at (none_is (message_at c at) (sym z ∙ q))) in
          record {
            inside = p.inside;
            rows = w.rows ∙ ap (λ (xs : List Piece). rows_of (take n cells) ++ kept_in xs) e ∙ ap (λ (rs : List Row). rows_of (take n cells) ++ rs) (none_kept c (at + 1) to p);
            sums = w.sums;
            least = w.least;
            size = w.size;
            behind = omega (arith, w.behind, p.onward);
            enough = w.enough;
            long = w.long;
          }

      module _ {o : OctetCount} (s : r ≡ Some o) where
        -- it has so many octets
        own_is : o.0 ≡ message_at c at
        own_is = (octets_are (message_at c at) (sym s ∙ q)).0

        some : o.0 ≡ 0 → ⊥
        some z = omega (arith, z, (octets_are (message_at c at) (sym s ∙ q)).1)

        -- with one message more, the sums can be taken
        pub walk_sum : Fits w64 (octets + o.0)
        walk_sum = record { fits = omega (arith, w.size, own_is, message_most c at) }

        pub walk_rows : Fits w64 (octets + o.0 + 4 * n)
        walk_rows = record { fits = omega (arith, w.size, own_is, message_most c at) }

        pub walk_pack : Fits w64 (octets + o.0 + 4 * n + 8)
        walk_pack = record { fits = omega (arith, w.size, own_is, message_most c at) }

        -- the message that is kept
        abbrev row : Row
        row = record { start = at; length = o.0 }

        next : onward c at ≡ kept row ∷ onward c (at + o.0)
        next =
            onward_next c at h
            ∙ ap (λ (x : Piece). x ∷ onward c (at + taken x)) (piece_kept c at (λ z. some (own_is ∙ z)))
            ∙ ap (λ (k : ℕ). kept (record { start = at; length = k }) ∷ onward c (at + k)) (sym own_is)

        -- it has at least eight octets, at most 4,096, and ends within what counts
        pub own_least : 8 ≤ o.0
        own_least = rw own_is (message_least c at (omega arith) (omega (arith, some, own_is)))

        pub own_most : o.0 ≤ 4096
        own_most = rw own_is (message_most c at)

        pub own_inside : at + o.0 ≤ length c
        own_inside = rw own_is (message_inside c at (omega arith))

        -- its cell holds its row
        cell_row : row_of (at * 65536 + o.0) ≡ row
        cell_row =
            let l = own_most in
            let a : (at * 65536 + o.0) / 65536 ≡ at = omega arith in
            let b : (at * 65536 + o.0) % 65536 ≡ o.0 = omega arith in
            ap₂ (λ (x y : ℕ). record { start = x; length = y }) a b

        -- its row, and those behind it
        pub walk_too_long : 65535 < octets + o.0 + 4 * n + 8 → KeptTooMuch c
        walk_too_long l =
            let rs = rows_of (take n cells) in
            let qs = kept_in (onward c (at + o.0)) in
            let e : all_kept c ≡ rs ++ (row ∷ qs) = w.rows ∙ ap (λ (xs : List Piece). rs ++ kept_in xs) next in
            record { size = subst (λ (ts : List Row). most_pack < pack_size ts) (sym e) (omega (arith, l, w.sums, many, sum_rows rs (row ∷ qs), length-append rs (row ∷ qs))) }

        module _ (l : octets + o.0 + 4 * n + 8 ≤ 65535) where
          pub walk_there : n < length cells
          walk_there =
              ⊎_elim (λ h. omega (arith, h, own_least, own_inside, w.least, w.behind)) (λ h. omega (arith, h, own_least, w.least)) w.enough

          pub walk_keeps : Walking c old (set cells n (at * 65536 + o.0)) (at + o.0) (n + 1) (octets + o.0)
          walk_keeps =
              let cells' = set cells n (at * 65536 + o.0) in
              let rs = rows_of (take n cells) in
              let t : rows_of (take (n + 1) cells') ≡ rs ++ (row ∷ []) =
              ap (λ (k : ℕ). rows_of (take k cells')) (add-one n) ∙ ap rows_of (take-suc-set cells n (at * 65536 + o.0) walk_there) ∙ map-append row_of (take n cells) ((at * 65536 + o.0) ∷ [])
              ∙ ap (λ (r : Row). rs ++ (r ∷ [])) cell_row in
              record {
                inside = own_inside;
                rows = w.rows ∙ ap (λ (xs : List Piece). rs ++ kept_in xs) next ∙ sym (append_assoc rs (row ∷ []) (kept_in (onward c (at + o.0))))
                    ∙ ap (λ (ts : List Row). ts ++ kept_in (onward c (at + o.0))) (sym t);
                sums = rw t (omega (arith, w.sums, sum_rows rs (row ∷ [])));
                least = omega (arith, own_least, w.least);
                size = omega arith;
                behind = omega (arith, w.behind);
                enough = subst (Enough (length c)) (sym (length-set cells n (at * 65536 + o.0))) w.enough;
                long = length-set cells n (at * 65536 + o.0) ∙ w.long;
              }

pub ruleset walking = (walk_begins, walk_inside, walk_long, walk_ends, walk_sum, walk_rows, walk_pack, walk_skips, own_most, own_inside, walk_too_long, walk_there, walk_keeps)

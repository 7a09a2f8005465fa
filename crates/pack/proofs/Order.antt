-- Where two grounds against a pack meet, which of them is given, and where. Nth.antt has those against finding a message.
use Prim.Native.Nat.{ℕ, ◌+◌, ◌*◌, ◌≤◌, ◌<◌}
use native.Mathlib.Omega.{arith}
use mathlib.Core.Path.{◌≡◌, refl, sym, ap, ◌∙◌}
use mathlib.Core.Logic.{◌⊎◌, inl, inr, ⊎_elim}
use mathlib.Core.Bool.{true, false}
use mathlib.Core.List.{List, [], ◌∷◌, ◌++◌}
use lib.ListN.{length, length-append}
use lib.Dec.{leb, eqb}
use borrow.Author.Tests.{le-leb, lt-leb, eq-eqb, ne_eqb, leb-true, leb-false}
use Rattle.bits.specs.Outcome.{Outcome, accepted, refused, and_then, demand}
use Rattle.bits.proofs.Choice.{pick_elim}
use Rattle.tone.specs.Tone.{Tone}
use Rattle.bits.specs.Bits.{field}
use Rattle.tone.specs.Reading.{read_tone}
use Rattle.tone.specs.Reading as reading
use Rattle.tone.proofs.Refusals.{long_first}
use Rattle.tone.proofs.Grounds.{Among, read_number}
use Rattle.inside.specs.Inside.{join, sum, cut, moved_by}
use Rattle.pack.specs.Pack.{pack_length, pack_of, first_row, count, rows_in, messages_in, continues, read_in_turn, read_pack, write_pack}
use Rattle.pack.proofs.Rules.{turn_first}

-- ---- messages in turn

-- the first bad message's refusal, whatever follows it: its place moved by the octets ahead of it, eight bits each
pub first_bad : (start : ℕ) (ms : List (List ℕ)) (m : List ℕ) (rest : List (List ℕ)) {ts : List Tone} {n p : ℕ} → read_in_turn start ms ≡ accepted ts → read_tone m ≡ refused n p
    → read_in_turn start (ms ++ (m ∷ rest)) ≡ refused n (8 * (start + length (join ms)) + p)
unfolding read_in_turn
first_bad start [] m rest {n = n} {p = p} a b = rw b (ap (λ (k : ℕ). refused n (8 * k + p)) (let e : start ≡ start + 0 = omega arith in e))
first_bad start (x ∷ ms) m rest {n = n} {p = p} a b =
    let f = turn_first start x ms a in
    let e : start + length x + length (join ms) ≡ start + length (x ++ join ms) = omega (arith, length-append x (join ms)) in
    rw (f.reads, first_bad (start + length x) ms m rest f.behind b) (ap (λ (k : ℕ). refused n (8 * k + p)) e)

-- no octets are refused with 2 at 0
no_octets : read_tone [] ≡ refused 2 0
unfolding field reading.element reading.command reading.front reading.whole_tone reading.read_tone
no_octets = refl

-- a message of no octets is 2 at its start
pub empty_message_lem : (start : ℕ) (ms : List (List ℕ)) → read_in_turn start ([] ∷ ms) ≡ refused 2 (8 * start)
unfolding read_in_turn
empty_message_lem start ms = rw no_octets (ap (refused 2) (let z : 8 * start + 0 ≡ 8 * start = omega arith in z))

-- a message above 4,096 octets is 1 at its start
pub long_message : (start : ℕ) (m : List ℕ) (ms : List (List ℕ)) → 4096 < length m → read_in_turn start (m ∷ ms) ≡ refused 1 (8 * start)
unfolding read_in_turn
long_message start m ms h = rw (long_first m h) (ap (refused 1) (let z : 8 * start + 0 ≡ 8 * start = omega arith in z))

-- they are refused on a message's own grounds, 1 to 10 and 21
pub turn_number : (start : ℕ) (ms : List (List ℕ)) {n p : ℕ} → read_in_turn start ms ≡ refused n p → Among 1 10 n
unfolding read_in_turn
turn_number start [] e = let z : ◌≡◌ {A = ℕ} 0 1 = cc in absurd (omega arith)
turn_number start (m ∷ ms) {n} {p} e = go (λ k f q. turn_number (start + length m) ms {n = k} {p = f} q) (read_tone m) refl (read_in_turn (start + length m) ms) refl e
  where
    go : ((k f : ℕ) → read_in_turn (start + length m) ms ≡ refused k f → Among 1 10 k) → (x : Outcome Tone) → read_tone m ≡ x → (y : Outcome (List Tone)) → read_in_turn (start + length m) ms ≡ y → and_then (moved_by start x) (λ t. and_then y (λ ts. accepted (t ∷ ts))) ≡ refused n p → Among 1 10 n
    go behind (accepted t) q (accepted ts) r h = let z : ◌≡◌ {A = ℕ} 0 1 = cc in absurd (omega arith)
    go behind (accepted t) q (refused k f) r h = let z : k ≡ n = cc in rw (← z) (behind k f r)
    go behind (refused k f) q y r h = let z : k ≡ n = cc in rw (← z) (read_number m k f q)

-- ---- reading

module _ (p : List ℕ) where
  -- 1 for the pack's size, whatever it holds
  pub long_pack : 65535 < length p → read_pack p ≡ refused 1 0
  unfolding read_pack
  long_pack h = rw (lt-leb (length p) 65535 h) refl

  -- 2 under four octets
  pub short_pack : length p < 4 → read_pack p ≡ refused 2 0
  unfolding read_pack
  short_pack h = let a : length p ≤ 65535 = omega arith in rw (le-leb (length p) 65535 a, lt-leb 4 (length p) h) refl

  module _ (a : length p ≤ 65535) (b : 4 ≤ length p) where
    -- 26 where the sums do not agree, whatever the rows say
    pub wrong_sum : (first_row p + 4 * count p + 4 ≡ length p → ⊥) → read_pack p ≡ refused 26 0
    unfolding read_pack
    wrong_sum h = rw (le-leb (length p) 65535 a, le-leb 4 (length p) b, ne_eqb (first_row p + 4 * count p + 4) (length p) h) refl

    module _ (c : first_row p + 4 * count p + 4 ≡ length p) where
      -- 27 for any row that does not continue, whatever the messages are
      pub apart_rows : continues 0 (rows_in p) (first_row p) ≡ false → read_pack p ≡ refused 27 0
      unfolding read_pack
      apart_rows h = rw (le-leb (length p) 65535 a, le-leb 4 (length p) b, eq-eqb (first_row p + 4 * count p + 4) (length p) c, h) refl

      -- then the messages in turn
      pub then_messages : continues 0 (rows_in p) (first_row p) ≡ true → read_pack p ≡ read_in_turn 0 (messages_in p)
      unfolding read_pack
      then_messages h = rw (le-leb (length p) 65535 a, le-leb 4 (length p) b, eq-eqb (first_row p + 4 * count p + 4) (length p) c, h) refl

-- the first bad message's refusal, its place moved by the octets ahead of it, whatever follows it
pub first_bad_pack : (p : List ℕ) (ms : List (List ℕ)) (m : List ℕ) (rest : List (List ℕ)) {ts : List Tone} {n f : ℕ} → 4 ≤ length p → length p ≤ 65535 → first_row p + 4 * count p + 4 ≡ length p
    → continues 0 (rows_in p) (first_row p) ≡ true → messages_in p ≡ ms ++ (m ∷ rest) → read_in_turn 0 ms ≡ accepted ts → read_tone m ≡ refused n f → read_pack p ≡ refused n (8 * length (join ms) + f)
first_bad_pack p ms m rest {n = n} {f = f} b a c h e x y =
    let z : 0 + length (join ms) ≡ length (join ms) = omega arith in
    then_messages p a b c h ∙ ap (read_in_turn 0) e ∙ first_bad 0 ms m rest x y ∙ ap (λ (k : ℕ). refused n (8 * k + f)) z

-- a pack is refused on a message's own grounds, 1 and 2 among them, or with 26 or 27
pub pack_number : (p : List ℕ) {n f : ℕ} → read_pack p ≡ refused n f → Among 1 10 n ⊎ ((n ≡ 26) ⊎ (n ≡ 27))
unfolding read_pack
pack_number p {n} {f} =
    pick_elim Named (leb (length p) 65535) (λ _.
    pick_elim Named (leb 4 (length p)) (λ _.
    pick_elim Named (eqb (first_row p + 4 * count p + 4) (length p)) (λ _.
    pick_elim Named (continues 0 (rows_in p) (first_row p)) (λ _ e. inl (turn_number 0 (messages_in p) e))
    (λ _ e. let z : 27 ≡ n = cc in inr (inr (sym z))))
    (λ _ e. let z : 26 ≡ n = cc in inr (inl (sym z))))
    (λ _ e. let z : 2 ≡ n = cc in inl (inl (omega (arith, z), omega (arith, z)))))
    (λ _ e. let z : 1 ≡ n = cc in inl (inl (omega (arith, z), omega (arith, z))))
  where
    Named : Outcome (List Tone) → Type 0
    Named x = x ≡ refused n f → Among 1 10 n ⊎ ((n ≡ 26) ⊎ (n ≡ 27))

-- ---- writing

module _ (octets ns : List ℕ) (room : ℕ) where
  -- 1 by the octets handed over and the rows they need
  pub long_write : 65535 < length octets + 4 * length ns + 4 → write_pack octets ns room ≡ refused 1 0
  unfolding write_pack
  long_write h = rw (lt-leb (pack_length octets ns) 65535 h) refl

  module _ (a : length octets + 4 * length ns + 4 ≤ 65535) where
    -- 27 where the lengths do not add up, whatever the messages are
    pub wrong_lengths : (sum ns ≡ length octets → ⊥) → write_pack octets ns room ≡ refused 27 0
    unfolding write_pack
    wrong_lengths h = rw (le-leb (pack_length octets ns) 65535 a, ne_eqb (sum ns) (length octets) h) refl

    module _ (b : sum ns ≡ length octets) where
      -- then the messages' own, at the places that they will have, whatever room there is
      pub bad_message : {n p : ℕ} → read_in_turn 0 (cut ns octets) ≡ refused n p → write_pack octets ns room ≡ refused n p
      unfolding write_pack
      bad_message e = rw (le-leb (pack_length octets ns) 65535 a, eq-eqb (sum ns) (length octets) b, e) refl

      module _ {ts : List Tone} (e : read_in_turn 0 (cut ns octets) ≡ accepted ts) where
        -- then 11
        pub small_room : room < length octets + 4 * length ns + 4 → write_pack octets ns room ≡ refused 11 0
        unfolding write_pack
        small_room h = rw (le-leb (pack_length octets ns) 65535 a, eq-eqb (sum ns) (length octets) b, e, lt-leb (pack_length octets ns) room h) refl

        -- else it is written
        pub room_enough : length octets + 4 * length ns + 4 ≤ room → write_pack octets ns room ≡ accepted (pack_of octets ns)
        unfolding write_pack
        room_enough h = rw (le-leb (pack_length octets ns) 65535 a, eq-eqb (sum ns) (length octets) b, e, le-leb (pack_length octets ns) room h) refl

  -- with 65,535 octets lent it is never 11
  pub never_eleven : 65535 ≤ room → {p : ℕ} → write_pack octets ns room ≡ refused 11 p → ⊥
  unfolding write_pack
  never_eleven k {p} =
      pick_elim (λ (x : Outcome (List ℕ)). x ≡ refused 11 p → ⊥) (leb (pack_length octets ns) 65535) (λ a.
      pick_elim (λ (x : Outcome (List ℕ)). x ≡ refused 11 p → ⊥) (eqb (sum ns) (length octets)) (λ _. go (read_in_turn 0 (cut ns octets)) refl (leb-true (pack_length octets ns) 65535 a))
      (λ _ e. let z : ◌≡◌ {A = ℕ} 27 11 = cc in omega arith))
      (λ _ e. let z : ◌≡◌ {A = ℕ} 1 11 = cc in omega arith)
    where
      go : (x : Outcome (List Tone)) → read_in_turn 0 (cut ns octets) ≡ x → pack_length octets ns ≤ 65535 → and_then x (λ _. demand (leb (pack_length octets ns) room) 11 (accepted (pack_of octets ns))) ≡ refused 11 p → ⊥
      go (accepted ts) q a =
          pick_elim (λ (x : Outcome (List ℕ)). x ≡ refused 11 p → ⊥) (leb (pack_length octets ns) room)
          (λ _ e. let z : ◌≡◌ {A = ℕ} 0 1 = cc in omega arith)
          (λ b e. omega (arith, leb-false (pack_length octets ns) room b))
      go (refused n f) q a = λ e. let z : n ≡ 11 = cc in ⊎_elim (λ w. omega (arith, w.1, z)) (λ w. omega (arith, w, z)) (turn_number 0 (cut ns octets) q)

-- What is built of the old bits and the new piece is the writing of the changed tone.
use Prim.Native.Nat.{ℕ, suc, ◌+◌, ◌-◌, ◌*◌, ◌^◌, ◌≤◌, ◌<◌}
use native.Mathlib.Omega.{arith}
use mathlib.Core.Path.{◌≡◌, refl, sym, ap, ap₂, ◌∙◌}
use mathlib.Core.Bool.{Bool}
use mathlib.Core.List.{List, [], ◌∷◌, ◌++◌, append_assoc}
use lib.ListN.{length, take, drop, length-append, take-append-drop}
use lib.Seq.{take_at, drop_at, drop-drop, set_split, split_at}
use Rattle.bits.specs.Bits.{bits_n, bits_of}
use Rattle.bits.proofs.Numbers.{bits_append}
use Rattle.tone.specs.Table.{kind, payload, width}
use Rattle.tone.specs.Tone.{Pattern, Tone, front_of, header, cells, pattern_at, none_known, Sound}
use Rattle.tone.specs.Writing.{entry_bits, table_bits, front_bits, song_bits}
use Rattle.tone.proofs.Rows.{table_bits_append, header_small, header_wide}
use Rattle.tone.proofs.Positions.{sound_at}
use Rattle.tone_read.proofs.Told.{Told}
use Rattle.edit_build.specs.Anew.{joined}
use Rattle.edit_change.specs.declared.Edit.{Edit}
use Rattle.edit_change.specs.Change.{carried, removed, body_after, with_body, changed, header_place}
use Rattle.edit_change.specs.Answers.{Puts}
use Rattle.edit_change.proofs.Bodies.{cells_append, front_same}

-- ---- cutting a row of bits

module _ (a h b₁ b₂ b₃ rest : List Bool) (l : List Bool) (e : l ≡ a ++ (h ++ (b₁ ++ (b₂ ++ (b₃ ++ rest))))) (n : length h ≡ 17) where
  behind_head : drop (length a + 17) l ≡ b₁ ++ (b₂ ++ (b₃ ++ rest))
  behind_head =
      sym (drop-drop 17 (length a) l) ∙ ap (drop 17) (ap (drop (length a)) e ∙ drop_at a (h ++ (b₁ ++ (b₂ ++ (b₃ ++ rest)))) (length a) refl)
      ∙ drop_at h (b₁ ++ (b₂ ++ (b₃ ++ rest))) 17 n

  behind_piece : drop (length a + 17 + length b₁ + length b₂) l ≡ b₃ ++ rest
  behind_piece =
      sym (drop-drop (length b₂) (length a + 17 + length b₁) l)
      ∙ ap (drop (length b₂)) (sym (drop-drop (length b₁) (length a + 17) l) ∙ ap (drop (length b₁)) behind_head ∙ drop_at b₁ (b₂ ++ (b₃ ++ rest)) (length b₁) refl)
      ∙ drop_at b₂ (b₃ ++ rest) (length b₂) refl

  pub cut_joined : (head at bh en cell w v : ℕ) → head ≡ length a → at ≡ head + 17 + length b₁ → bh ≡ at + length b₂ → en ≡ bh + length b₃
      → joined l head cell at w v bh en ≡ (((a ++ bits_n 17 cell) ++ b₁) ++ bits_n w v) ++ b₃
  cut_joined head at bh en cell w v eh ea eb ee =
      let t₀ : take head l ≡ a = ap₂ (λ (x : ℕ) (y : List Bool). take x y) eh e ∙ take_at a (h ++ (b₁ ++ (b₂ ++ (b₃ ++ rest)))) (length a) refl in
      let z₁ : at - (head + 17) ≡ length b₁ = omega arith in
      let z₂ : en - bh ≡ length b₃ = omega arith in
      let z₃ : bh ≡ length a + 17 + length b₁ + length b₂ = omega arith in
      let t₁ : take (at - (head + 17)) (drop (head + 17) l) ≡ b₁ =
      ap₂ (λ (x : ℕ) (y : List Bool). take x y) z₁ (ap (λ (x : ℕ). drop (x + 17) l) eh ∙ behind_head) ∙ take_at b₁ (b₂ ++ (b₃ ++ rest)) (length b₁) refl in
      let t₂ : take (en - bh) (drop bh l) ≡ b₃ =
      ap₂ (λ (x : ℕ) (y : List Bool). take x y) z₂ (ap (λ (x : ℕ). drop x l) z₃ ∙ behind_piece) ∙ take_at b₃ rest (length b₃) refl in
      ap₂ (λ (x y : List Bool). x ++ y) (ap (λ (x : List Bool). x ++ bits_n w v) (ap₂ (λ (x y : List Bool). x ++ y) (ap (λ (x : List Bool). x ++ bits_n 17 cell) t₀) t₁)) t₂

-- ---- headers

-- in one piece
pub header_piece : (h : ℕ) → h < 16384 → entry_bits h ≡ bits_n 17 h
unfolding entry_bits width
header_piece h k =
    let z : kind h ≡ 0 = omega arith in
    let p : payload h ≡ h = omega arith in
    let e : 0 * 2 ^ 14 + h ≡ h = omega arith in
    rw (z, p) (sym (bits_append 3 0 14 h (omega arith) k) ∙ ap (bits_n 17) e)

-- the header after the edit
pub header_after : (p : Pattern) (b : List ℕ) → header p + length b ≡ header (with_body p b) + length p.body
header_after p b = omega arith

-- ---- the changed tone

module _ (m : List ℕ) (t : Tone) (d : Told m t) (ed : Edit) (k i : ℕ) (there : k < length t.patterns) (inside : i + removed ed ≤ length (pattern_at t.patterns k).body) where
  abbrev ps : List Pattern
  ps = t.patterns

  abbrev p : Pattern
  p = pattern_at t.patterns k

  abbrev b : List ℕ
  b = (pattern_at t.patterns k).body

  abbrev x : List ℕ
  x = cells (drop (suc k) t.patterns)

  sound : Sound (pattern_at t.patterns k)
  sound = sound_at none_known t.patterns k d.formed.sequence there

  -- the body in three stretches
  body_split : (pattern_at t.patterns k).body ≡ take i b ++ (take (removed ed) (drop i b) ++ drop (i + removed ed) b)
  body_split = sym (take-append-drop i b) ∙ ap (λ (y : List ℕ). take i b ++ y) (sym (take-append-drop (removed ed) (drop i b)) ∙ ap (λ (y : List ℕ). take (removed ed) (drop i b) ++ y) (drop-drop (removed ed) i b))

  abbrev ahead : List Bool
  ahead = front_bits (front_of t) ++ table_bits (cells (take k t.patterns))

  -- what stands behind the edited instruction in the patterns
  abbrev behind : List Bool
  behind = table_bits (drop (i + removed ed) b) ++ table_bits x

  bits_of_cells : (q : Pattern) (s₁ s₂ s₃ : List ℕ) → q.body ≡ s₁ ++ (s₂ ++ s₃)
      → table_bits (cells (take k ps ++ q ∷ drop (suc k) ps)) ≡ table_bits (cells (take k ps)) ++ (entry_bits (header q) ++ (table_bits s₁ ++ (table_bits s₂ ++ (table_bits s₃ ++ table_bits x))))
  bits_of_cells q s₁ s₂ s₃ e =
      ap table_bits (cells_append (take k ps) (q ∷ drop (suc k) ps)) ∙ table_bits_append (cells (take k ps)) (header q ∷ (q.body ++ x))
      ∙ ap (λ (y : List Bool). table_bits (cells (take k ps)) ++ (entry_bits (header q) ++ y))
      (table_bits_append q.body x ∙ ap (λ (y : List Bool). y ++ table_bits x) (ap table_bits e ∙ table_bits_append s₁ (s₂ ++ s₃) ∙ ap (λ (y : List Bool). table_bits s₁ ++ y) (table_bits_append s₂ s₃))
      ∙ append_assoc (table_bits s₁) (table_bits s₂ ++ table_bits s₃) (table_bits x) ∙ ap (λ (y : List Bool). table_bits s₁ ++ y) (append_assoc (table_bits s₂) (table_bits s₃) (table_bits x)))

  message_bits : bits_of m ≡ ahead ++ (entry_bits (header p) ++ (table_bits (take i b) ++ (table_bits (take (removed ed) (drop i b)) ++ (behind ++ d.behind))))
  message_bits =
      d.bits ∙ ap (λ (y : List Bool). front_bits (front_of t) ++ (y ++ d.behind))
      (ap (λ (y : List Pattern). table_bits (cells y)) (split_at ps k (record { id = 0; loop = 0; body = [] }) there)
      ∙ bits_of_cells p (take i b) (take (removed ed) (drop i b)) (drop (i + removed ed) b) body_split)
      ∙ simp append_assoc

  changed_bits : song_bits (changed ed k i t) ≡ ahead ++ (entry_bits (header (with_body p (body_after ed i b))) ++ (table_bits (take i b) ++ (table_bits (carried ed) ++ behind)))
  unfolding song_bits
  changed_bits =
      ap₂ (λ (y z : List Bool). y ++ z) (ap front_bits (front_same ed k i t))
      (ap (λ (y : List Pattern). table_bits (cells y)) (set_split ps k (with_body p (body_after ed i b)) there)
      ∙ bits_of_cells (with_body p (body_after ed i b)) (take i b) (carried ed) (drop (i + removed ed) b) refl)
      ∙ simp append_assoc

  -- the places of the code are those of the tone
  module _ {hp at bh en : ℕ} (eh : hp ≡ header_place t k) (ea : at ≡ hp + 17 + length (table_bits (take i b))) (eb : bh ≡ at + length (table_bits (take (removed ed) (drop i b))))
      (ee : en ≡ bh + length (table_bits (drop (i + removed ed) b)) + length (table_bits x)) where
    place_head : hp ≡ length ahead
    place_head = eh ∙ sym (length-append (front_bits (front_of t)) (table_bits (cells (take k ps))))

    place_end : en ≡ bh + length behind
    place_end = omega (arith, ee, length-append (table_bits (drop (i + removed ed) b)) (table_bits x))

    -- what is built is the changed tone's song
    pub joined_is : {cell' w v : ℕ} → Puts (carried ed) w v → cell' ≡ header (with_body p (body_after ed i b)) → cell' < 16384
        → joined (bits_of m) hp cell' at w v bh en ≡ song_bits (changed ed k i t)
    joined_is {cell'} {w} {v} q e small =
        let wide = header_wide (header p) (header_small p sound).0 in
        let hb : bits_n 17 cell' ≡ entry_bits (header (with_body p (body_after ed i b))) = sym (header_piece cell' small) ∙ ap entry_bits e in
        cut_joined ahead (entry_bits (header p)) (table_bits (take i b)) (table_bits (take (removed ed) (drop i b))) behind d.behind (bits_of m) message_bits wide hp at bh en cell' w v place_head ea eb place_end
        ∙ (rw (hb, ← q.bits) (simp append_assoc)) ∙ sym changed_bits

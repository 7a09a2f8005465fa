-- Demand 3 of the rules: an edit is as good as starting over.
use Prim.Native.Nat.{ℕ, suc, ◌+◌, ◌*◌, ◌^◌, ◌≤◌, ◌<◌}
use native.Mathlib.Omega.{arith}
use mathlib.Core.Path.{◌≡◌, refl, sym, ap, ap₂, subst, ◌∙◌}
use mathlib.Core.Bool.{Bool, true, false, ◌&&◌}
use mathlib.Core.List.{List, [], ◌∷◌, ◌++◌, append_assoc}
use lib.ListN.{length, get_or, take, drop, set, length-append, length-set, take-append-drop}
use lib.Seq.{split_at, drop-cons, take_at, drop_at, take-set-le, get_or-set_same, drop-drop}
use lib.Dec.{leb, ltb}
use borrow.Author.Tests.{ltb-true, leb-true, eqb-false, le-leb, lt-ltb, ne_eqb}
use Rattle.bits.specs.Bits.{bits_n}
use Rattle.bits.specs.Outcome.{Outcome, accepted, refused}
use Rattle.bits.proofs.Choice.{pick_elim, both}
use Rattle.bits.proofs.Numbers.{length_bits, bits_append}
use Rattle.tone.specs.Table.{kind, payload, width, Instruction}
use Rattle.tone.specs.Tone.{Pattern, Tone, front_of, header, cells, pattern_at, none_known, Instructions, Sound, Formed}
use Rattle.tone.specs.Writing.{entry_bits, table_bits, front_bits, song_bits, end_bits, tone_bits, tone_length, tone_octets, most_octets}
use Rattle.tone.specs.Reading.{read_tone}
use Rattle.tone.proofs.Rows.{table_bits_append}
use Rattle.tone.proofs.Demand2.{written_is_accepted}
use Rattle.tone.proofs.Positions.{sound_at}
use Rattle.edit_change.specs.declared.Edit.{Edit}
use Rattle.edit_change.specs.declared.Edit.TheVariants.{Replace, Insert, Delete}
use Rattle.edit_change.specs.Change.{carried, removed, body_after, with_body, changed, is_new, carries_new, in_body, is_there, empties, overfills, header_place, instruction_place}
use Rattle.edit_change.proofs.Bodies.{cells_append, fits, carried_instructions, changed_formed, front_same}
use Rattle.edit.specs.Editing.{body_length, edit_tone}

-- ---- the bits ahead of the edited instruction

-- a header as bits: its id, pattern and loop, and then the part's length
pub header_bits : (p : Pattern) → Sound p → entry_bits (header p) ≡ (bits_n 3 0 ++ bits_n 6 (p.id * 16 + p.loop)) ++ bits_n 8 (length p.body)
unfolding entry_bits width
header_bits p s =
    let a = s.id in
    let b = s.loop in
    let c = s.long in
    let k : kind (header p) ≡ 0 = omega arith in
    let h : payload (header p) ≡ (p.id * 16 + p.loop) * 256 + length p.body = omega arith in
    rw (k, h, bits_append 6 (p.id * 16 + p.loop) 8 (length p.body) (omega arith) (omega arith))
    (sym (append_assoc (bits_n 3 0) (bits_n 6 (p.id * 16 + p.loop)) (bits_n 8 (length p.body))))

-- all that stands ahead of a part's length
abbrev pub ahead_of_length : Tone → ℕ → List Bool
ahead_of_length t k =
    let p = pattern_at t.patterns k in
    front_bits (front_of t) ++ (table_bits (cells (take k t.patterns)) ++ (bits_n 3 0 ++ bits_n 6 (p.id * 16 + p.loop)))

-- the table's bits, with the body at position k taken apart
table_split : (ps : List Pattern) (k : ℕ) (p : Pattern) (b₁ b₂ : List ℕ) → Sound p → p.body ≡ b₁ ++ b₂ → ps ≡ take k ps ++ p ∷ drop (suc k) ps
    → table_bits (cells ps) ≡ table_bits (cells (take k ps)) ++ ((bits_n 3 0 ++ bits_n 6 (p.id * 16 + p.loop)) ++ (bits_n 8 (length p.body) ++ (table_bits b₁ ++ (table_bits b₂ ++ table_bits (cells (drop (suc k) ps))))))
table_split ps k p b₁ b₂ s e q =
    let x = bits_n 3 0 ++ bits_n 6 (p.id * 16 + p.loop) in
    let r = cells (drop (suc k) ps) in
    ap (λ (y : List Pattern). table_bits (cells y)) q ∙ ap table_bits (cells_append (take k ps) (p ∷ drop (suc k) ps))
    ∙ table_bits_append (cells (take k ps)) (header p ∷ (p.body ++ r))
    ∙ ap (λ (y : List Bool). table_bits (cells (take k ps)) ++ y)
    (ap₂ (λ (y z : List Bool). y ++ z) (header_bits p s) (table_bits_append p.body r ∙ ap (λ (y : List Bool). y ++ table_bits r) (ap table_bits e ∙ table_bits_append b₁ b₂) ∙ append_assoc (table_bits b₁) (table_bits b₂) (table_bits r))
    ∙ append_assoc x (bits_n 8 (length p.body)) (table_bits b₁ ++ (table_bits b₂ ++ table_bits r)))

-- a tone's bits around a part's length
pub record Around (t : Tone) (k : ℕ) (b₁ b₂ : List ℕ) : Type 0 where
  pub behind : List Bool
  pub bits : tone_bits t ≡ ahead_of_length t k ++ (bits_n 8 (length (pattern_at t.patterns k).body) ++ (table_bits b₁ ++ (table_bits b₂ ++ behind)))

pub around : (t : Tone) (k : ℕ) (b₁ b₂ : List ℕ) → Sound (pattern_at t.patterns k) → k < length t.patterns → (pattern_at t.patterns k).body ≡ b₁ ++ b₂ → Around t k b₁ b₂
unfolding tone_bits song_bits
around t k b₁ b₂ s h e =
    let ps = t.patterns in
    let p = pattern_at ps k in
    let x = bits_n 3 0 ++ bits_n 6 (p.id * 16 + p.loop) in
    let f = front_bits (front_of t) in
    let c = table_bits (cells (take k ps)) in
    let n = bits_n 8 (length p.body) in
    let r = table_bits (cells (drop (suc k) ps)) in
    let z = end_bits (length (f ++ table_bits (cells ps))) in
    let q = table_split ps k p b₁ b₂ s e (split_at ps k (record { id = 0; loop = 0; body = [] }) h) in
    record {
      behind = r ++ z;
      bits = ap (λ (y : List Bool). (f ++ y) ++ z) q ∙ simp append_assoc;
    }

-- ---- what an edit leaves unchanged

module _ (ed : Edit) (k i : ℕ) (t : Tone) (there : k < length t.patterns) where
  pub pattern_after : pattern_at (changed ed k i t).patterns k ≡ with_body (pattern_at t.patterns k) (body_after ed i (pattern_at t.patterns k).body)
  pattern_after = get_or-set_same t.patterns k (with_body (pattern_at t.patterns k) (body_after ed i (pattern_at t.patterns k).body)) (record { id = 0; loop = 0; body = [] }) there

  -- the bits ahead of the part's length are the same
  pub ahead_same : ahead_of_length (changed ed k i t) k ≡ ahead_of_length t k
  ahead_same =
      let p = pattern_at t.patterns k in
      let q = with_body p (body_after ed i p.body) in
      let e : take k (set t.patterns k q) ≡ take k t.patterns = take-set-le k t.patterns k q (omega arith) in
      ap₂ (λ (x y : List Bool). x ++ y) (ap front_bits (front_same ed k i t))
      (ap₂ (λ (x : List Pattern) (y : Pattern). table_bits (cells x) ++ (bits_n 3 0 ++ bits_n 6 (y.id * 16 + y.loop))) e pattern_after)

pub length_ahead : (t : Tone) (k : ℕ) → length (ahead_of_length t k) ≡ header_place t k + 9
length_ahead t k =
    let p = pattern_at t.patterns k in
    let f = front_bits (front_of t) in
    let c = table_bits (cells (take k t.patterns)) in
    length-append f (c ++ (bits_n 3 0 ++ bits_n 6 (p.id * 16 + p.loop))) ∙ ap (λ (x : ℕ). length f + x) (length-append c (bits_n 3 0 ++ bits_n 6 (p.id * 16 + p.loop))
    ∙ ap (λ (x : ℕ). length c + x) (length-append (bits_n 3 0) (bits_n 6 (p.id * 16 + p.loop)) ∙ ap₂ (λ (x y : ℕ). x + y) (length_bits 3 0) (length_bits 6 (p.id * 16 + p.loop))))
    ∙ omega arith

-- a row of bits: x, then n of width 8, then y
cut_ahead : (x y r : List Bool) (n a : ℕ) {l : List Bool} → length x ≡ a → l ≡ x ++ (bits_n 8 n ++ (y ++ r)) → (take a l ≡ x) × (take (length y) (drop (a + 8) l) ≡ y) × (drop (a + 8 + length y) l ≡ r)
cut_ahead x y r n a {l} e q =
    let d₁ : drop a l ≡ bits_n 8 n ++ (y ++ r) = ap (drop a) q ∙ drop_at x (bits_n 8 n ++ (y ++ r)) a e in
    let d₂ : drop (a + 8) l ≡ y ++ r = sym (drop-drop 8 a l) ∙ ap (drop 8) d₁ ∙ drop_at (bits_n 8 n) (y ++ r) 8 (length_bits 8 n) in (
      ap (take a) q ∙ take_at x (bits_n 8 n ++ (y ++ r)) a e,
      ap (take (length y)) d₂ ∙ take_at y r (length y) refl,
      sym (drop-drop (length y) (a + 8) l) ∙ ap (drop (length y)) d₂ ∙ drop_at y r (length y) refl,
    )

-- every bit ahead of the edited instruction is unchanged but for that part's length
pub record Unchanged (ed : Edit) (k i : ℕ) (t : Tone) : Type 0 where
  pub ahead_of_length : take (header_place t k + 9) (tone_bits (changed ed k i t)) ≡ take (header_place t k + 9) (tone_bits t)
  pub of_the_length : length (table_bits (take i (pattern_at t.patterns k).body)) + (header_place t k + 9 + 8) ≡ instruction_place t k i
  pub ahead_of_instruction : take (length (table_bits (take i (pattern_at t.patterns k).body))) (drop (header_place t k + 9 + 8) (tone_bits (changed ed k i t)))
      ≡ take (length (table_bits (take i (pattern_at t.patterns k).body))) (drop (header_place t k + 9 + 8) (tone_bits t))
  pub stands_there : i < length (pattern_at t.patterns k).body → (rest : List Bool) × (drop (instruction_place t k i) (tone_bits t) ≡ entry_bits (get_or (pattern_at t.patterns k).body i 0) ++ rest)

pub unchanged : (ed : Edit) (k i : ℕ) (t : Tone) → Formed t → Formed (changed ed k i t) → k < length t.patterns → Unchanged ed k i t
unchanged ed k i t f f' h =
    let p = pattern_at t.patterns k in
    let b = p.body in
    let t' = changed ed k i t in
    let s = sound_at none_known t.patterns k f.sequence h in
    let h' : k < length t'.patterns = rw (length-set t.patterns k (with_body p (body_after ed i b))) h in
    let s' = sound_at none_known t'.patterns k f'.sequence h' in
    let a = around t k (take i b) (drop i b) s h (sym (take-append-drop i b)) in
    let a' = around t' k (take i b) (carried ed ++ drop (i + removed ed) b) s' h' (ap (λ (x : Pattern). x.body) (pattern_after ed k i t h)) in
    let n = length_ahead t k in
    let n' : length (ahead_of_length t' k) ≡ header_place t k + 9 = ap length (ahead_same ed k i t h) ∙ n in
    let c = cut_ahead (ahead_of_length t k) (table_bits (take i b)) (table_bits (drop i b) ++ a.behind) (length b) (header_place t k + 9) n a.bits in
    let c' = cut_ahead (ahead_of_length t' k) (table_bits (take i b)) (table_bits (carried ed ++ drop (i + removed ed) b) ++ a'.behind) (length (pattern_at t'.patterns k).body) (header_place t k + 9) n' a'.bits in
    record {
      ahead_of_length = c'.0 ∙ ahead_same ed k i t h ∙ sym c.0;
      of_the_length = omega arith;
      ahead_of_instruction = c'.1 ∙ sym c.1;
      stands_there = λ l.
          let e : header_place t k + 9 + 8 + length (table_bits (take i b)) ≡ instruction_place t k i = omega arith in (
            table_bits (drop (suc i) b) ++ a.behind,
            ap (λ (x : ℕ). drop x (tone_bits t)) (sym e) ∙ c.2 ∙ ap (λ (y : List ℕ). table_bits y ++ a.behind) (drop-cons b i 0 l) ∙ append_assoc (entry_bits (get_or b i 0)) (table_bits (drop (suc i) b)) a.behind,
          );
    }

-- ---- the grounds of an edit, as plain conditions

-- the position is that of an instruction; insert at the count appends
abbrev pub Names : Edit → ℕ → ℕ → Type 0
Names (Replace e) i n = i < n
Names (Insert e) i n = i ≤ n
Names Delete i n = i < n

-- a part keeps an instruction
abbrev pub KeepsOne : Edit → ℕ → Type 0
KeepsOne (Replace e) n = Unit {0}
KeepsOne (Insert e) n = Unit {0}
KeepsOne Delete n = n ≡ 1 → ⊥

-- a part has room for one more
abbrev pub NotFull : Edit → ℕ → Type 0
NotFull (Replace e) n = Unit {0}
NotFull (Insert e) n = n ≡ 255 → ⊥
NotFull Delete n = Unit {0}

-- one condition for each ground: 6, 12, 13, 14
pub record Grounds (ed : Edit) (k i : ℕ) (t : Tone) : Type 0 where
  pub new : Instructions (carried ed)
  pub pattern : k < length t.patterns
  pub no_recall : 1 ≤ body_length k t
  pub instruction : Names ed i (body_length k t)
  pub keeps_one : KeepsOne ed (body_length k t)
  pub not_full : NotFull ed (body_length k t)

is_new_lem : (e : ℕ) → Instruction e → is_new e ≡ true
is_new_lem e h = rw (le-leb 1 (kind e) h.some, le-leb (kind e) 5 h.in_table.known, lt-ltb (payload e) (2 ^ width (kind e)) h.in_table.fits, h.in_table.code)

carries : (ed : Edit) → Instructions (carried ed) → carries_new ed ≡ true
carries (Replace e) h = is_new_lem e h.0
carries (Insert e) h = is_new_lem e h.0
carries Delete h = refl

names : (ed : Edit) (i n : ℕ) → Names ed i n → in_body ed i n ≡ true
names (Replace e) i n h = lt-ltb i n h
names (Insert e) i n h = le-leb i n h
names Delete i n h = lt-ltb i n h

named : (ed : Edit) (i n : ℕ) → in_body ed i n ≡ true → Names ed i n
named (Replace e) i n h = ltb-true i n h
named (Insert e) i n h = leb-true i n h
named Delete i n h = ltb-true i n h

keeps_one_lem : (ed : Edit) (n : ℕ) → KeepsOne ed n → empties ed n ≡ false
keeps_one_lem (Replace e) n h = refl
keeps_one_lem (Insert e) n h = refl
keeps_one_lem Delete n h = ne_eqb n 1 h

kept_one : (ed : Edit) (n : ℕ) → empties ed n ≡ false → KeepsOne ed n
kept_one (Replace e) n h = tt
kept_one (Insert e) n h = tt
kept_one Delete n h = eqb-false n 1 h

not_full_lem : (ed : Edit) (n : ℕ) → NotFull ed n → overfills ed n ≡ false
not_full_lem (Replace e) n h = refl
not_full_lem (Insert e) n h = ne_eqb n 255 h
not_full_lem Delete n h = refl

was_not_full : (ed : Edit) (n : ℕ) → overfills ed n ≡ false → NotFull ed n
was_not_full (Replace e) n h = tt
was_not_full (Insert e) n h = eqb-false n 255 h
was_not_full Delete n h = tt

-- an edit whose grounds are met is accepted, as the changed tone
pub edit_accepts : (ed : Edit) (k i : ℕ) (t : Tone) → Grounds ed k i t → edit_tone ed k i t ≡ accepted (changed ed k i t)
edit_accepts ed k i t g =
    rw (
      carries ed g.new,
      lt-ltb k (length t.patterns) g.pattern,
      le-leb 1 (body_length k t) g.no_recall,
      names ed i (body_length k t) g.instruction,
      keeps_one_lem ed (body_length k t) g.keeps_one,
      not_full_lem ed (body_length k t) g.not_full,
    )

abbrev Met : Edit → ℕ → ℕ → Tone → Outcome Tone → Type 0
Met ed k i t (accepted t') = Grounds ed k i t × (t' ≡ changed ed k i t)
Met ed k i t (refused n p) = Unit {0}

met : (ed : Edit) (k i : ℕ) (t : Tone) → Met ed k i t (edit_tone ed k i t)
met ed k i t =
    pick_elim (Met ed k i t) (carries_new ed) (λ h₁.
    pick_elim (Met ed k i t) (is_there ed k i t.patterns) (λ h₂.
    pick_elim (Met ed k i t) (empties ed (body_length k t)) (λ _. tt) (λ h₃.
    pick_elim (Met ed k i t) (overfills ed (body_length k t)) (λ _. tt) (λ h₄.
    let a = both (ltb k (length t.patterns)) (leb 1 (body_length k t) && in_body ed i (body_length k t)) h₂ in
    let b = both (leb 1 (body_length k t)) (in_body ed i (body_length k t)) a.1 in (
      record {
        new = carried_instructions ed h₁;
        pattern = ltb-true k (length t.patterns) a.0;
        no_recall = leb-true 1 (body_length k t) b.0;
        instruction = named ed i (body_length k t) b.1;
        keeps_one = kept_one ed (body_length k t) h₃;
        not_full = was_not_full ed (body_length k t) h₄;
      },
      refl,
    ))))
    (λ _. tt)) (λ _. tt)

-- an accepted edit has its grounds met
pub edit_grounds : (ed : Edit) (k i : ℕ) (t t' : Tone) → edit_tone ed k i t ≡ accepted t' → Grounds ed k i t × (t' ≡ changed ed k i t)
edit_grounds ed k i t t' q = subst (Met ed k i t) q (met ed k i t)

-- and leaves a tone that document 01 allows, its bound on octets aside
pub edit_formed : (ed : Edit) (k i : ℕ) (t : Tone) → Formed t → Grounds ed k i t → Formed (changed ed k i t)
edit_formed ed k i t f g =
    let s = sound_at none_known t.patterns k f.sequence g.pattern in
    changed_formed ed k i t f (carries ed g.new) g.pattern g.no_recall
    (fits ed i (body_length k t) g.no_recall s.long (names ed i (body_length k t) g.instruction) (keeps_one_lem ed (body_length k t) g.keeps_one) (not_full_lem ed (body_length k t) g.not_full))

-- a changed tone within the bound reads again, as that tone
pub edit_reads_again : (ed : Edit) (k i : ℕ) (t : Tone) → Formed t → Grounds ed k i t → tone_length (changed ed k i t) ≤ most_octets → read_tone (tone_octets (changed ed k i t)) ≡ accepted (changed ed k i t)
edit_reads_again ed k i t f g n = written_is_accepted (changed ed k i t) (record { formed = edit_formed ed k i t f g; size = n })

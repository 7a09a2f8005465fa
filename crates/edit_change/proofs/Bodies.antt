-- A tone stays well formed when one body is edited.
use Prim.Native.Nat.{ℕ, zero, suc, ◌+◌, ◌-◌, ◌^◌, ◌≤◌, ◌<◌}
use native.Mathlib.Omega.{arith}
use mathlib.Core.Path.{◌≡◌, refl, sym, ap, ap₂, subst, ◌∙◌}
use mathlib.Core.Bool.{Bool, true, false, ◌&&◌}
use mathlib.Core.List.{List, [], ◌∷◌, ◌++◌, append_assoc}
use lib.ListN.{length, take, drop, set, length-append, length-drop, length-set}
use lib.Seq.{length-take-le}
use lib.Dec.{ltb}
use borrow.Author.Tests.{ltb-true, leb-true, eqb-false, ne_eqb}
use Rattle.tone.specs.Table.{kind, payload, width, allowed, is_instruction, Instruction}
use Rattle.tone.specs.Tone.{Pattern, Tone, front_of, specifier, part_of, header, cells, pattern_at, recallable, learn, none_known, Instructions, Sound, Sequence, Formed}
use Rattle.tone.proofs.Positions.{sound_at}
use Rattle.tone.proofs.Rows.{is_instruction_lem}
use Rattle.bits.proofs.Choice.{both}
use Rattle.edit_change.specs.declared.Edit.{Edit}
use Rattle.edit_change.specs.declared.Edit.TheVariants.{Replace, Insert, Delete}
use Rattle.edit_change.specs.Change.{carried, removed, body_after, with_body, changed, is_new, carries_new, in_body, empties, overfills}

-- ---- instructions

pub new_instruction : (e : ℕ) → is_new e ≡ true → Instruction e
new_instruction e h =
    let a = both (is_instruction (kind e)) (ltb (payload e) (2 ^ width (kind e)) && allowed (kind e) (payload e)) h in
    let b = both (ltb (payload e) (2 ^ width (kind e))) (allowed (kind e) (payload e)) a.1 in
    let k = is_instruction_lem (kind e) a.0 in
    record { in_table = record { known = k.1; fits = ltb-true (payload e) (2 ^ width (kind e)) b.0; code = b.1 }; some = k.0 }

instructions_append : (a b : List ℕ) → Instructions a → Instructions b → Instructions (a ++ b)
instructions_append [] b h k = k
instructions_append (e ∷ a) b h k = (h.0, instructions_append a b h.1 k)

pub instructions_take : (i : ℕ) (b : List ℕ) → Instructions b → Instructions (take i b)
instructions_take zero b h = tt
instructions_take (suc i) [] h = tt
instructions_take (suc i) (e ∷ b) h = (h.0, instructions_take i b h.1)

pub instructions_drop : (i : ℕ) (b : List ℕ) → Instructions b → Instructions (drop i b)
instructions_drop zero b h = h
instructions_drop (suc i) [] h = tt
instructions_drop (suc i) (e ∷ b) h = instructions_drop i b h.1

pub carried_instructions : (ed : Edit) → carries_new ed ≡ true → Instructions (carried ed)
carried_instructions (Replace e) h = (new_instruction e h, tt)
carried_instructions (Insert e) h = (new_instruction e h, tt)
carried_instructions Delete h = tt

pub body_instructions : (ed : Edit) (i : ℕ) (b : List ℕ) → carries_new ed ≡ true → Instructions b → Instructions (body_after ed i b)
body_instructions ed i b h k =
    instructions_append (take i b) (carried ed ++ drop (i + removed ed) b) (instructions_take i b k)
    (instructions_append (carried ed) (drop (i + removed ed) b) (carried_instructions ed h) (instructions_drop (i + removed ed) b k))

-- ---- lengths

-- the instruction named is there, and what is left has 1 to 255 instructions
pub record Fits (ed : Edit) (i n : ℕ) : Type 0 where
  pub inside : i + removed ed ≤ n
  pub least : 1 ≤ n - removed ed + length (carried ed)
  pub most : n - removed ed + length (carried ed) ≤ 255

pub fits : (ed : Edit) (i n : ℕ) → 1 ≤ n → n ≤ 255 → in_body ed i n ≡ true → empties ed n ≡ false → overfills ed n ≡ false → Fits ed i n
fits (Replace e) i n h l a b c = let k = ltb-true i n a in record { inside = omega arith; least = omega arith; most = omega arith }
fits (Insert e) i n h l a b c = let k = leb-true i n a in let z = eqb-false n 255 c in record { inside = omega arith; least = omega arith; most = omega arith }
fits Delete i n h l a b c = let k = ltb-true i n a in let z = eqb-false n 1 b in record { inside = omega arith; least = omega arith; most = omega arith }

pub length_after : (ed : Edit) (i : ℕ) (b : List ℕ) → i + removed ed ≤ length b → length (body_after ed i b) ≡ length b - removed ed + length (carried ed)
length_after ed i b h =
    length-append (take i b) (carried ed ++ drop (i + removed ed) b)
    ∙ ap₂ (λ (x y : ℕ). x + y) (length-take-le i b (omega arith)) (length-append (carried ed) (drop (i + removed ed) b) ∙ ap (λ (x : ℕ). length (carried ed) + x) (length-drop (i + removed ed) b))
    ∙ omega arith

-- ---- the row of patterns

pub cells_append : (ps qs : List Pattern) → cells (ps ++ qs) ≡ cells ps ++ cells qs
cells_append [] qs = refl
cells_append (p ∷ ps) qs = ap (λ (x : List ℕ). header p ∷ x) (ap (λ (x : List ℕ). p.body ++ x) (cells_append ps qs) ∙ sym (append_assoc p.body (cells ps) (cells qs)))

pub part_is : (p : Pattern) → Sound p → (part_of (header p) ≡ p.id) × (specifier (header p) ≡ length p.body)
part_is p s = let a = s.id in let b = s.loop in let c = s.long in (omega arith, omega arith)

defines : (known : List Bool) (p : Pattern) → Sound p → 1 ≤ length p.body → (recallable known (header p) ≡ true) × (learn known (header p) ≡ set known p.id true)
defines known p s h =
    let e = part_is p s in
    let z : specifier (header p) ≡ 0 → ⊥ = λ q. omega (arith, e.1) in
    (rw (ne_eqb (specifier (header p)) 0 z) refl, rw (ne_eqb (specifier (header p)) 0 z) (ap (λ (x : ℕ). set known x true) e.0))

pub sequence_set : (known : List Bool) (ps : List Pattern) (k : ℕ) (b : List ℕ) → Sequence known ps → k < length ps → 1 ≤ length (pattern_at ps k).body → 1 ≤ length b → length b ≤ 255 → Instructions b
    → Sequence known (set ps k (with_body (pattern_at ps k) b))
sequence_set known [] k b h l some least most each = let z : ⊥ = omega arith in absurd z
sequence_set known (p ∷ ps) zero b h l some least most each =
    let s = h.0 in
    let s' : Sound (with_body p b) = record { id = s.id; loop = s.loop; long = most; each = each } in
    let d = defines known p s some in
    let d' = defines known (with_body p b) s' least in
    (s', d'.0, subst (λ (x : List Bool). Sequence x ps) (d.1 ∙ sym d'.1) h.2)
sequence_set known (p ∷ ps) (suc k) b h l some least most each = (h.0, h.1, sequence_set (learn known (header p)) ps k b h.2 (omega arith) some least most each)

-- ---- the tone

pub front_same : (ed : Edit) (k i : ℕ) (t : Tone) → front_of (changed ed k i t) ≡ front_of t
front_same ed k i t = ap (λ (n : ℕ). record { song = t.song; unicode = t.unicode; title = t.title; count = n }) (length-set t.patterns k (with_body (pattern_at t.patterns k) (body_after ed i (pattern_at t.patterns k).body)))

-- an edit with these grounds met leaves a tone that document 01 allows, its bound on octets aside
pub changed_formed : (ed : Edit) (k i : ℕ) (t : Tone) → Formed t → carries_new ed ≡ true → k < length t.patterns → 1 ≤ length (pattern_at t.patterns k).body
    → Fits ed i (length (pattern_at t.patterns k).body) → Formed (changed ed k i t)
changed_formed ed k i t f new there some fit =
    let b = (pattern_at t.patterns k).body in
    let s = sound_at none_known t.patterns k f.sequence there in
    let n = length_after ed i b fit.inside in
    record {
      front = rw (front_same ed k i t) f.front;
      sequence = sequence_set none_known t.patterns k (body_after ed i b) f.sequence there some (rw n fit.least) (rw n fit.most) (body_instructions ed i b new s.each);
    }

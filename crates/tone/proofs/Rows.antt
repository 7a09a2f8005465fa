-- Patterns, the end and the whole tone are read exactly.
use Prim.Native.Nat.{ℕ, zero, suc, ◌+◌, ◌^◌, ◌≤◌, ◌<◌}
use native.Mathlib.Omega.{arith}
use native.Mathlib.Nat.{lt_of_lt_of_le, add_assoc}
use mathlib.Core.Path.{◌≡◌, refl, sym, ap, ap₂, subst, ◌∙◌}
use mathlib.Core.Bool.{Bool, true, false, ◌&&◌}
use mathlib.Core.List.{List, [], ◌∷◌, ◌++◌, append_assoc, append-nil}
use lib.ListN.{length, get_or, drop, length-append, replicate-append-replicate}
use lib.Dec.{leb, eqb, lit<}
use lib.Pow.{pow_pos, pow_mono}
use borrow.Author.Tests.{eqb-true, leb-true, le-leb}
use Rattle.bits.specs.Bits.{bits_n, filler_to}
use Rattle.bits.proofs.Choice.{pick_elim, both}
use Rattle.bits.proofs.Numbers.{length_bits, zero_bits}
use Rattle.tone.specs.Table.{entry, kind, payload, width, allowed, is_instruction, Instruction}
use Rattle.tone.specs.Tone.{Pattern, Tone, Front, front_of, specifier, loop_of, part_of, header, pattern, cells, none_known, recallable, learn, Instructions, Sound, Sequence, Formed}
use Rattle.tone.specs.Writing.{entry_bits, table_bits, front_bits, song_bits, end_bits}
use Rattle.tone.specs.Reading.{Reader, ◌>>◌, return, element, header_due, instruction_due, body_due, patterns_due, filler_run, end_octet, ending, rest, whole_tone}
use Rattle.tone.proofs.Exact.{Exact, exact_as, return_exact, element_exact, then_exact, then_assoc, fixed_exact}
use Rattle.tone.proofs.Fronts.{front_exact}

-- nothing holds beside what does not
pub and_false : (a : Bool) → (a && false) ≡ false
and_false true = refl
and_false false = refl

pub and_is : {a b : Bool} → a ≡ true → b ≡ true → (a && b) ≡ true
and_is p q = rw (p, q)

-- ---- an instruction

pub width_most : (k : ℕ) → width k ≤ 14
unfolding width
width_most zero = omega arith
width_most (suc zero) = omega arith
width_most (suc (suc zero)) = omega arith
width_most (suc (suc (suc zero))) = omega arith
width_most (suc (suc (suc (suc zero)))) = omega arith
width_most (suc (suc (suc (suc (suc zero))))) = omega arith
width_most (suc (suc (suc (suc (suc (suc k)))))) = omega arith

-- a payload is below 65,536
pub payload_lt : (k p : ℕ) → p < 2 ^ width k → p < 65536
payload_lt k p h = lt_of_lt_of_le h (pow_mono {j = 16} (omega (arith, width_most k)))

pub length_entry_bits : (e : ℕ) → length (entry_bits e) ≡ 3 + width (kind e)
unfolding entry_bits
length_entry_bits e = rw (length-append (bits_n 3 (kind e)) (bits_n (width (kind e)) (payload e)), length_bits 3 (kind e), length_bits (width (kind e)) (payload e))

-- an entry's parts
pub parts : (k p : ℕ) → p < 65536 → (kind (entry k p) ≡ k) × (payload (entry k p) ≡ p)
parts k p h = (omega arith, omega arith)

zero_allowed : (k : ℕ) → allowed k 0 ≡ true
unfolding allowed
zero_allowed k = pick_elim (λ (b : Bool). b ≡ true) (eqb k 1) (λ _. refl) (λ _. pick_elim (λ (b : Bool). b ≡ true) (eqb k 3) (λ _. refl) (λ _. refl))

pub is_instruction_lem : (k : ℕ) → is_instruction k ≡ true → (1 ≤ k) × (k ≤ 5)
is_instruction_lem k h = let a = both (leb 1 k) (leb k 5) h in (leb-true 1 k a.0, leb-true k 5 a.1)

pub instruction_exact : Exact instruction_due Instruction (λ _ e. entry_bits e)
unfolding instruction_due entry_bits
instruction_exact =
    exact_as
    (then_exact kind {GC = Instruction} {bC = λ _ e. bits_n (width (kind e)) (payload e)} (element_exact 3 is_instruction 6 1 (lit< tt, refl))
    (λ k h. exact_as (then_exact payload {GC = λ e. Instruction e × (kind e ≡ k)} (element_exact (width k) (allowed k) 6 0 (pow_pos (width k), zero_allowed k))
    (λ p g. exact_as (return_exact (entry k p))
    (λ e q.
    let s = parts k p (payload_lt k p g.0) in
    let i = is_instruction_lem k h.1 in
    rw q ((record { in_table = record { known = rw s.0 i.1; fits = rw (s.0, s.1) g.0; code = rw (s.0, s.1) g.1 }; some = rw s.0 i.0 }, s.0), s.1))
    (λ e f. omega (arith, f.0.1, f.1))
    (λ at e q. refl))
    (λ e f. rw (← f.1) (f.0.in_table.fits, f.0.in_table.code)))
    (λ e f. f) (λ e f. f)
    (λ at e f. append-nil (bits_n (width k) (payload e)) ∙ ap (λ (x : ℕ). bits_n (width x) (payload e)) (sym f.1)))
    (λ e f. (omega (arith, f.in_table.known), and_is (le-leb 1 (kind e) f.some) (le-leb (kind e) 5 f.in_table.known))))
    (λ e f. f) (λ e f. f) (λ at e f. refl)

-- ---- a body

pub record Body (n : ℕ) (b : List ℕ) : Type 0 where
  pub each : Instructions b
  pub size : length b ≡ n

abbrev head : List ℕ → ℕ
head b = get_or b 0 0

cons_head : (b : List ℕ) {n e : ℕ} {t : List ℕ} → length b ≡ suc n → head b ≡ e → drop 1 b ≡ t → b ≡ e ∷ t
cons_head [] h p q = let z : ⊥ = omega arith in absurd z
cons_head (x ∷ b) h p q = ap₂ (λ (u : ℕ) (v : List ℕ). u ∷ v) p q

body_head : (b : List ℕ) {n : ℕ} → Body (suc n) b → Instruction (head b) × Body n (drop 1 b) × (table_bits b ≡ entry_bits (head b) ++ table_bits (drop 1 b))
body_head [] h = let z : ⊥ = omega (arith, h.size) in absurd z
body_head (e ∷ b) h = (h.each.0, record { each = h.each.1; size = omega (arith, h.size) }, refl)

-- what has the length 0 is empty
pub length_none : (b : List ℕ) → length b ≡ 0 → b ≡ []
length_none [] h = refl
length_none (e ∷ b) h = let z : ⊥ = omega arith in absurd z

pub body_exact : (n : ℕ) → Exact (body_due n) (Body n) (λ _ b. table_bits b)
unfolding body_due
body_exact zero = exact_as (return_exact []) (λ b e. rw e (record { each = tt; size = refl })) (λ b k. length_none b k.size) (λ at b e. rw e refl)
body_exact (suc n) =
    exact_as
    (then_exact head {GC = Body (suc n)} instruction_exact
    (λ e h. then_exact (drop 1) {GC = λ b. Body (suc n) b × (head b ≡ e)} (body_exact n)
    (λ b g. exact_as (return_exact (e ∷ b))
    (λ c q. rw q ((record { each = (h, g.each); size = ap suc g.size }, refl), refl))
    (λ c f. cons_head c f.0.0.size f.0.1 f.1)
    (λ at c q. refl))
    (λ b f. (body_head b f.0).1))
    (λ b f. (body_head b f).0))
    (λ b f. f) (λ b f. f)
    (λ at b f. ap (λ (y : List Bool). entry_bits (head b) ++ y) (append-nil (table_bits (drop 1 b))) ∙ sym (body_head b f).2)

-- ---- a header

-- a header's payload
pub record Header (known : List Bool) (h : ℕ) : Type 0 where
  pub small : h < 16384
  pub recall : recallable known h ≡ true

pub header_exact : (known : List Bool) → Exact (header_due known) (Header known) (λ _ h. entry_bits h)
unfolding header_due entry_bits width
header_exact known =
    exact_as (fixed_exact 3 0 6 (lit< tt) (element_exact 14 (recallable known) 7 1 (lit< tt, refl)))
    (λ h k. record { small = k.0; recall = k.1 }) (λ h k. (k.small, k.recall))
    (λ at h k.
    let b : h < 16384 = k.0 in
    let e₀ : kind h ≡ 0 = omega arith in
    let e₁ : payload h ≡ h = omega arith in
    rw (e₀, e₁) refl)

-- a header that was read is that of its pattern
pub header_pattern : (h : ℕ) (b : List ℕ) → h < 16384 → length b ≡ specifier h → header (pattern h b) ≡ h
header_pattern h b k e = rw e (omega arith)

-- a pattern is that of its header
pub pattern_header : (p : Pattern) → Sound p → pattern (header p) p.body ≡ p
pattern_header p s =
    let i = s.id in
    let l = s.loop in
    let n = s.long in
    let e₁ : part_of (header p) ≡ p.id = omega arith in
    let e₂ : loop_of (header p) ≡ p.loop = omega arith in
    ap₂ (λ (x y : ℕ). record { id = x; loop = y; body = p.body }) e₁ e₂

pub header_small : (p : Pattern) → Sound p → (header p < 16384) × (specifier (header p) ≡ length p.body)
header_small p s = let i = s.id in let l = s.loop in let n = s.long in (omega arith, omega arith)

-- a header is 17 bits
pub header_wide : (h : ℕ) → h < 16384 → length (entry_bits h) ≡ 17
unfolding width
header_wide h k = let z : kind h ≡ 0 = omega arith in length_entry_bits h ∙ (rw z refl)

-- ---- patterns

pub record Row (n : ℕ) (known : List Bool) (ps : List Pattern) : Type 0 where
  pub sequence : Sequence known ps
  pub size : length ps ≡ n

abbrev silent : Pattern
silent = record { id = 0; loop = 0; body = [] }

abbrev front : List Pattern → Pattern
front ps = get_or ps 0 silent

no_patterns : (ps : List Pattern) → length ps ≡ 0 → ps ≡ []
no_patterns [] h = refl
no_patterns (p ∷ ps) h = let z : ⊥ = omega arith in absurd z

pub record Split (n : ℕ) (known : List Bool) (ps : List Pattern) : Type 0 where
  pub sound : Sound (front ps)
  pub first : Header known (header (front ps))
  pub body : Body (specifier (header (front ps))) (front ps).body
  pub rest : Row n (learn known (header (front ps))) (drop 1 ps)
  pub whole : ps ≡ front ps ∷ drop 1 ps

row_split : (n : ℕ) (known : List Bool) (ps : List Pattern) → Row (suc n) known ps → Split n known ps
row_split n known [] h = let z : ⊥ = omega (arith, h.size) in absurd z
row_split n known (p ∷ ps) h =
    let s = h.sequence in
    let k = header_small p s.0 in
    record {
      sound = s.0;
      first = record { small = k.0; recall = s.1 };
      body = record { each = s.0.each; size = sym k.1 };
      rest = record { sequence = s.2; size = omega (arith, h.size) };
      whole = refl;
    }

pub table_bits_append : (s t : List ℕ) → table_bits (s ++ t) ≡ table_bits s ++ table_bits t
table_bits_append [] t = refl
table_bits_append (e ∷ s) t = ap (λ (x : List Bool). entry_bits e ++ x) (table_bits_append s t) ∙ sym (append_assoc (entry_bits e) (table_bits s) (table_bits t))

pattern_sound : {known : List Bool} (h : ℕ) (b : List ℕ) → Header known h → Body (specifier h) b → Sound (pattern h b)
pattern_sound h b k g = record { id = omega arith; loop = omega arith; long = omega (arith, g.size); each = g.each }

pub patterns_exact : (n : ℕ) (known : List Bool) → Exact (patterns_due n known) (Row n known) (λ _ ps. table_bits (cells ps))
unfolding patterns_due
patterns_exact zero known = exact_as (return_exact []) (λ ps e. rw e (record { sequence = tt; size = refl })) (λ ps k. no_patterns ps k.size) (λ at ps e. rw e refl)
patterns_exact (suc n) known =
    exact_as
    (then_exact (λ (ps : List Pattern). header (front ps)) {GC = Row (suc n) known} (header_exact known)
    (λ h k. then_exact (λ (ps : List Pattern). (front ps).body) {GC = λ ps. Row (suc n) known ps × (header (front ps) ≡ h)} (body_exact (specifier h))
    (λ b g. then_exact (drop 1) {GC = λ ps. (Row (suc n) known ps × (header (front ps) ≡ h)) × ((front ps).body ≡ b)} (patterns_exact n (learn known h))
    (λ ps r. exact_as (return_exact (pattern h b ∷ ps))
    (λ qs q. let e = header_pattern h b k.small g.size in
    rw q (((record { sequence = (pattern_sound h b k g, rw e k.recall, rw e r.sequence); size = ap suc r.size }, e), refl), refl))
    (λ qs f.
    let s = row_split n known qs f.0.0.0 in
    s.whole ∙ ap₂ (λ (u : Pattern) (v : List Pattern). u ∷ v) (sym (pattern_header (front qs) s.sound) ∙ ap₂ pattern f.0.0.1 f.0.1) f.1)
    (λ at qs q. refl))
    (λ ps f. rw (← f.0.1) (row_split n known ps f.0.0).rest))
    (λ ps f. rw (← f.1) (row_split n known ps f.0).body))
    (λ ps f. (row_split n known ps f).first))
    (λ ps f. f) (λ ps f. f)
    (λ at ps f.
    let s = row_split n known ps f in
    ap (λ (y : List Bool). entry_bits (header (front ps)) ++ (table_bits (front ps).body ++ y)) (append-nil (table_bits (cells (drop 1 ps))))
    ∙ ap (λ (y : List Bool). entry_bits (header (front ps)) ++ y) (sym (table_bits_append (front ps).body (cells (drop 1 ps))))
    ∙ ap (λ (x : List Pattern). table_bits (cells x)) (sym s.whole))

-- ---- the end

filler_exact : Exact filler_run (λ v. v ≡ 0) (λ at v. bits_n (filler_to at) v)
filler_exact = record {
  some = (0, refl);
  sound = λ l at h q. let s = (at_place at).sound l at h q in record { good = s.good; end = s.end; inside = s.inside; here = s.here };
  complete = λ l at a rest h g d. (at_place at).complete l at a rest h g d;
  refusal = λ l at h q. let s = (at_place at).refusal l at h q in
      record {
        ahead = s.ahead;
        inside = s.inside;
        element = s.element;
        whole = s.whole;
        alike = s.alike;
        begun = record { value = s.begun.value; good = s.begun.good; rest = s.begun.rest; begins = s.begun.begins };
      };
}
  where
    at_place : (at : ℕ) → Exact (element (filler_to at) (eqb 0) 8) (λ v. v ≡ 0) (λ _ v. bits_n (filler_to at) v)
    at_place at =
        exact_as (element_exact (filler_to at) (eqb 0) 8 0 (pow_pos (filler_to at), refl))
        (λ v k. sym (eqb-true 0 v k.1)) (λ v k. rw k (pow_pos (filler_to at), refl)) (λ _ v k. refl)

pub ending_exact : {A : Type 0} (a : A) → Exact (ending >> return a) (λ c. c ≡ a) (λ at c. end_bits at)
unfolding ending
ending_exact {A} a =
    subst (λ (r : Reader A). Exact r (λ c. c ≡ a) (λ at c. end_bits at)) (then_assoc filler_run (λ _. end_octet) (λ _. return a))
    (exact_as
    (then_exact (λ (c : A). 0) {GC = λ c. c ≡ a} filler_exact
    (λ v h. exact_as (fixed_exact 8 0 9 (lit< tt) (return_exact a)) (λ c k. (k, sym h)) (λ c k. k.0) (λ at c k. refl))
    (λ c k. refl))
    (λ c k. k) (λ c k. k)
    (λ at c k. rw (append-nil (bits_n 8 0), zero_bits (filler_to at), zero_bits 8) (replicate-append-replicate (filler_to at) 8 false)))

-- ---- the whole

-- a tone's bits from a place on
abbrev pub bits_from : ℕ → Tone → List Bool
bits_from at t = song_bits t ++ end_bits (at + length (song_bits t))

-- one stretch more ahead of the end
ahead : (x y : List Bool) (at : ℕ) → x ++ (y ++ end_bits (at + length x + length y)) ≡ (x ++ y) ++ end_bits (at + length (x ++ y))
ahead x y at =
    ap (λ (n : ℕ). x ++ (y ++ end_bits n)) (add_assoc at (length x) (length y) ∙ ap (λ (n : ℕ). at + n) (sym (length-append x y)))
    ∙ sym (append_assoc x y (end_bits (at + length (x ++ y))))

pub rest_exact : (n : ℕ) → Exact (rest n) (Row n none_known) (λ at ps. let b = table_bits (cells ps) in b ++ end_bits (at + length b))
unfolding rest
rest_exact n =
    then_exact (λ (ps : List Pattern). ps) {GC = Row n none_known} (patterns_exact n none_known)
    (λ ps h. exact_as (ending_exact ps) (λ qs e. rw e (h, refl)) (λ qs k. k.1) (λ at qs e. refl))
    (λ ps h. h)

pub whole_exact : Exact whole_tone Formed bits_from
unfolding whole_tone song_bits
whole_exact =
    exact_as
    (then_exact front_of {GC = Formed} {bC = λ at t. let b = table_bits (cells t.patterns) in b ++ end_bits (at + length b)} front_exact
    (λ f h. exact_as (then_exact (λ (t : Tone). t.patterns) {GC = λ t. Formed t × (front_of t ≡ f)} (rest_exact f.count)
    (λ ps g. exact_as (return_exact (record { song = f.song; unicode = f.unicode; title = f.title; patterns = ps }))
    (λ t e. rw e ((record { front = rw g.size h; sequence = g.sequence }, front_same f g.size), refl))
    (λ t k. λ i. record { song = (k.0.1 i).song; unicode = (k.0.1 i).unicode; title = (k.0.1 i).title; patterns = k.1 i })
    (λ at t e. refl))
    (λ t k. record { sequence = k.0.sequence; size = ap (λ (x : Front). x.count) k.1 }))
    (λ t k. k) (λ t k. k) (λ at t k. append-nil _))
    (λ t k. k.front))
    (λ t k. k) (λ t k. k)
    (λ at t k. ahead (front_bits (front_of t)) (table_bits (cells t.patterns)) at)
  where
    front_same : (f : Front) {n : ℕ} → n ≡ f.count → record { song = f.song; unicode = f.unicode; title = f.title; count = n } ≡ f
    front_same f e = λ i. record { song = f.song; unicode = f.unicode; title = f.title; count = e i }

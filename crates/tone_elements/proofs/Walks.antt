-- The loops over instructions.
use Prim.Native.Nat.{ℕ, zero, suc, ◌+◌, ◌-◌, ◌*◌, ◌%◌, ◌^◌, ◌≤◌, ◌<◌}
use native.Mathlib.Omega.{arith}
use native.Mathlib.Nat.{zero-add, add_assoc}
use mathlib.Core.Path.{◌≡◌, refl, sym, ap, subst, ◌∙◌}
use mathlib.Core.Bool.{Bool}
use mathlib.Core.List.{List, [], ◌∷◌, ◌++◌}
use lib.ListN.{length, drop}
use lib.Seq.{drop-drop}
use lib.Dec.{eqb}
use Rattle.bits.specs.Bits.{bits_of}
use Rattle.bits.specs.Window.{Sight}
use Rattle.bits.proofs.Choice.{pick_elim}
use Rattle.bits.proofs.Octets.{length_bits_of}
use Rattle.bits.proofs.Looking.{sight_on, length_left_lem}
use Rattle.tone.specs.Table.{kind}
use Rattle.tone.specs.Reading.{Got, got, bad, onward, instruction_due, body_due}
use Rattle.std.specs.Prelude.{Ok, Err}
use Rattle.bits.specs.declared.refusal.Refusal.{Refusal}
use Rattle.tone_elements.specs.declared.Seen.{Seen}
use Rattle.tone_elements.specs.Answers.{seen_as, seen_of, note_in, notes}
use Rattle.tone.proofs.Exact.{Exact}
use Rattle.tone.proofs.Rows.{instruction_exact, length_entry_bits}
use Rattle.tone_elements.proofs.Seeing.{instruction_width}
use Rattle.tone_elements.proofs.Steps.{Step, BadThere, read, seen_there, seen_bad, told_as, step_cong, step_map}

-- a reader stays within the message
pub stays : {A : Type 0} {r : List Bool → ℕ → Got A} {G : A → Type 0} {b : ℕ → A → List Bool} → Exact r G b
    → (m : List ℕ) (at : ℕ) {a : A} {p : ℕ} → at ≤ 8 * length m → r (bits_of m) at ≡ got a p → p ≤ 8 * length m
stays x m at h q = rw (← length_bits_of m) (x.sound (bits_of m) at (rw (length_bits_of m) h) q).inside

-- a number that is not 0 is one more than the one before it
pub one_less : (n : ℕ) → 0 < n → n ≡ suc (n - 1)
one_less n h = omega arith

-- ---- the instructions of a body

-- one instruction
body_step : (k c : ℕ) (l : List Bool) (p : ℕ) {e q : ℕ} → instruction_due l p ≡ got e q → seen_as (λ b. c + notes b) (body_due (suc k) l p) ≡ seen_as (λ b. c + note_in e + notes b) (body_due k l q)
unfolding body_due
body_step k c l p {e} {q} h =
    rw h (step_map (λ b. c + notes b) (λ b. e ∷ b) (body_due k l q) ∙ step_cong (body_due k l q) (λ b. sym (add_assoc c (note_in e) (notes b))))

-- what is due of n instructions, and where c notes were counted before them
abbrev pub counted : List ℕ → ℕ → ℕ → Step
counted m n at = seen_as notes (body_due n (bits_of m) at)

abbrev pub counted_on : List ℕ → ℕ → ℕ → ℕ → Step
counted_on m n at c = seen_as (λ b. c + notes b) (body_due n (bits_of m) at)

-- with `left` instructions to come at p, and c notes so far; `due` is what is due of all of them
pub record BodyWalk (m : List ℕ) (due : Step) (p left c : ℕ) : Type 0 where
  pub inside : p ≤ 8 * length m
  pub fewer : c + left ≤ 255
  pub goes : due ≡ counted_on m left p c

pub body_begins : (m : List ℕ) (n at : ℕ) → at ≤ 8 * length m → n ≤ 255 → BodyWalk m (counted m n at) at n 0
body_begins m n at h l = record { inside = h; fewer = omega arith; goes = step_cong (body_due n (bits_of m) at) (λ b. sym (zero-add (notes b))) }

pub body_resumes : (m : List ℕ) (n at c : ℕ) → at ≤ 8 * length m → c + n ≤ 255 → BodyWalk m (counted_on m n at c) at n c
body_resumes m n at c h l = record { inside = h; fewer = l; goes = refl }

pub body_done : {m : List ℕ} {due : Step} {left c q : ℕ} → BodyWalk m due q left c → left ≤ 0 → read c q ≡ due
unfolding body_due
body_done {left = left} {c = c} w h =
    let e : left ≡ 0 = omega arith in
    let z : c + 0 ≡ c = omega arith in
    sym (w.goes ∙ (rw (e, z)))

module _ {m : List ℕ} {due : Step} {p left c : ℕ} (w : BodyWalk m due p left c) where
  -- the rest is counted by another
  pub body_rest : {s : Step} → s ≡ counted_on m left p c → s ≡ due
  body_rest q = q ∙ sym w.goes

  -- one instruction more, as the tone has it
  module _ (h : 0 < left) where
    refuses : {r : Refusal} → BadThere (instruction_due (bits_of m) p) r → Err r ≡ due
    unfolding body_due
    refuses b = sym (w.goes ∙ (rw (one_less left h, b.there) (sym (told_as b.number b.at b.told))))

    pub goes_on : {e q t : ℕ} → instruction_due (bits_of m) p ≡ got e q → t ≡ note_in e → t ≤ 1 → BodyWalk m due q (left - 1) (c + t)
    goes_on {e} {q} {t} there v l =
        record {
          inside = stays instruction_exact m p w.inside there;
          fewer = omega (arith, w.fewer);
          goes = w.goes ∙ ap (λ (x : ℕ). counted_on m x p c) (one_less left h)
              ∙ body_step (left - 1) c (bits_of m) p there ∙ step_cong (body_due (left - 1) (bits_of m) q) (λ l. rw v refl);
        }

    -- and as the code answers it
    module _ {s : Step} (q : s ≡ seen_of (instruction_due (bits_of m) p)) where
      pub body_bad : {r : Refusal} → s ≡ Err r → Err r ≡ due
      body_bad g = refuses (seen_bad (λ v. v) (instruction_due (bits_of m) p) (sym g ∙ q))

      pub body_on : {v : Seen ℕ} {t : ℕ} → s ≡ Ok v → (t ≡ note_in v.value) × (t ≤ 1) → BodyWalk m due v.next.0 (left - 1) (c + t)
      body_on g e = goes_on (seen_there (instruction_due (bits_of m) p) (sym g ∙ q)) e.0 e.1

-- the same, where those that are done are counted
module _ {m : List ℕ} {due : Step} {p n i c : ℕ} (w : BodyWalk m due p (n - i) c) where
  pub counted_done : {q : ℕ} → p ≡ q → n ≤ i → read c q ≡ due
  counted_done e h = rw (← e) (body_done w (omega arith))

  pub counted_fits : {t : ℕ} → i < n → t ≤ 1 → c + t ≤ 255
  counted_fits h k = omega (arith, w.fewer)

  module _ (h : i < n) {s : Step} (q : s ≡ seen_of (instruction_due (bits_of m) p)) where
    pub counted_bad : {r : Refusal} → s ≡ Err r → Err r ≡ due
    counted_bad g = body_bad w (omega arith) q g

    pub counted_more : {v : Seen ℕ} {t : ℕ} → s ≡ Ok v → (t ≡ note_in v.value) × (t ≤ 1) → BodyWalk m due v.next.0 (n - (i + 1)) (c + t)
    counted_more {v} {t} g e = let z : n - i - 1 ≡ n - (i + 1) = omega arith in subst (λ (k : ℕ). BodyWalk m due v.next.0 k (c + t)) z (body_on w (omega arith) q g e)

pub counted_begins : (m : List ℕ) (n at c : ℕ) → at ≤ 8 * length m → c + n ≤ 255 → BodyWalk m (counted_on m n at c) at (n - 0) c
counted_begins m n at c h l = let z : n ≡ n - 0 = omega arith in subst (λ (k : ℕ). BodyWalk m (counted_on m n at c) at k c) z (body_resumes m n at c h l)

pub ruleset bodies = (counted_begins, counted_done, counted_fits, counted_bad, counted_more)

-- ---- a place in a sight

-- none is wider than 12 bits
instruction_most : (l : List Bool) (p : ℕ) {e q : ℕ} → p ≤ length l → instruction_due l p ≡ got e q → (p ≤ q) × (q ≤ p + 12)
instruction_most l p {e} h g =
    let a = instruction_exact.sound l p h g in
    let n = a.end ∙ ap (λ (x : ℕ). p + x) (length_entry_bits e) in
    let k = instruction_width (kind e) a.good.some in
    (omega (arith, n), omega (arith, n, k))

-- with `left` instructions to come at p, behind the place of a sight: four have at most 48 of its 57 bits
pub record InSight (at p left : ℕ) : Type 0 where
  pub behind : at ≤ p
  pub near : p + 12 * left ≤ at + 48

pub sight_begins : (at n : ℕ) → n ≤ 4 → InSight at at n
sight_begins at n h = record { behind = omega arith; near = omega arith }

module _ {at p left : ℕ} (s : InSight at p left) (h : 0 < left) where
  -- what is left of the sight takes one more
  pub sight_near : p - at ≤ 36
  sight_near = omega (arith, s.near)

  module _ (m : List ℕ) (inside : p ≤ 8 * length m) where
    -- the sight at the place that was reached
    pub sight_here : {x : ℕ} → Sight 57 (drop at (bits_of m)) x → Sight (57 - (p - at)) (drop p (bits_of m)) (x * 2 ^ (p - at) % 2 ^ 64)
    sight_here sees =
        let e : at + (p - at) ≡ p = omega (arith, s.behind) in
        let d : drop (p - at) (drop at (bits_of m)) ≡ drop p (bits_of m) = drop-drop (p - at) at (bits_of m) ∙ ap (λ (y : ℕ). drop y (bits_of m)) e in
        let n = sight_near in
        rw (← d) (sight_on {k = p - at} sees (omega arith) (omega arith) (rw (length_left_lem m at) (omega arith)))

    -- one instruction more
    pub sight_next : {e q : ℕ} → instruction_due (bits_of m) p ≡ got e q → InSight at q (left - 1)
    sight_next g =
        let most = instruction_most (bits_of m) p (rw (length_bits_of m) inside) g in
        record { behind = omega (arith, s.behind, most.0); near = omega (arith, s.near, most.1) }

-- ---- instructions in a row

-- an instruction counts for one note at most
pub note_one : (e : ℕ) → note_in e ≤ 1
note_one e = pick_elim (λ (x : ℕ). x ≤ 1) (eqb (kind e) 1) (λ _. omega arith) (λ _. omega arith)

-- a body of j + k instructions is one of j and one of k
pub body_more : (j k : ℕ) (l : List Bool) (p : ℕ) → body_due (j + k) l p ≡ onward (body_due j l p) (λ b q. onward (body_due k l q) (λ r t. got (b ++ r) t) bad) bad
unfolding body_due
body_more zero k l p = rw (zero-add k) (same (body_due k l p))
  where
    same : (x : Got (List ℕ)) → x ≡ onward x (λ r t. got r t) bad
    same (got r t) = refl
    same (bad n t e) = refl
body_more (suc j) k l p = let e : suc j + k ≡ suc (j + k) = omega arith in rw e (first (λ q. body_more j k l q) (instruction_due l p))
  where
    third : (e : ℕ) (b : List ℕ) (x : Got (List ℕ)) → onward (onward x (λ r t. got (b ++ r) t) bad) (λ r t. got (e ∷ r) t) bad ≡ onward x (λ r t. got (e ∷ b ++ r) t) bad
    third e b (got r t) = refl
    third e b (bad n t f) = refl

    second : (e : ℕ) (x : Got (List ℕ)) → onward (onward x (λ b q. onward (body_due k l q) (λ r t. got (b ++ r) t) bad) bad) (λ r t. got (e ∷ r) t) bad
        ≡ onward (onward x (λ b q. got (e ∷ b) q) bad) (λ b q. onward (body_due k l q) (λ r t. got (b ++ r) t) bad) bad
    second e (got b q) = third e b (body_due k l q)
    second e (bad n q f) = refl

    first : ((q : ℕ) → body_due (j + k) l q ≡ onward (body_due j l q) (λ b t. onward (body_due k l t) (λ r u. got (b ++ r) u) bad) bad)
        → (x : Got ℕ) → onward x (λ e q. onward (body_due (j + k) l q) (λ r t. got (e ∷ r) t) bad) bad
        ≡ onward (onward x (λ e q. onward (body_due j l q) (λ b t. got (e ∷ b) t) bad) bad) (λ b q. onward (body_due k l q) (λ r t. got (b ++ r) t) bad) bad
    first h (got e q) = rw (h q) (second e (body_due j l q))
    first h (bad n q f) = refl

-- the notes of two bodies in a row
pub notes_more : (a b : List ℕ) → notes (a ++ b) ≡ notes a + notes b
notes_more [] b = sym (zero-add (notes b))
notes_more (e ∷ a) b = rw (notes_more a b) (sym (add_assoc (note_in e) (notes a) (notes b)))

-- a body has no more notes than instructions
pub notes_most : (b : List ℕ) → notes b ≤ length b
notes_most [] = omega arith
notes_most (e ∷ b) = omega (arith, note_one e, notes_most b)

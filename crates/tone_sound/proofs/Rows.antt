-- Patterns are gone over one by one, and a tone from its front to its end.
use Prim.Native.Nat.{ℕ, suc, ◌+◌, ◌-◌, ◌*◌, ◌/◌, ◌%◌, ◌^◌, ◌≤◌, ◌<◌}
use native.Mathlib.Omega.{arith}
use mathlib.Core.Path.{◌≡◌, refl, sym, ap, subst, ◌∙◌}
use mathlib.Core.Bool.{Bool, true, false, not}
use mathlib.Core.List.{List, [], ◌∷◌}
use lib.ListN.{length, get_or, set}
use borrow.Author.Tests.{eq-eqb, ne_eqb}
use Rattle.bits.specs.Choice.{pick}
use Rattle.bits.specs.Bits.{bits_of}
use Rattle.std.specs.Prelude.{Option, Some, None, Result, Ok, Err}
use Rattle.std.specs.Result.{result_ok}
use Rattle.bits.specs.declared.BitPlace.{BitPlace}
use Rattle.bits.proofs.Octets.{length_bits_of}
use Rattle.tone.specs.Tone.{Pattern, specifier, pattern, none_known, recallable, learn}
use Rattle.tone.proofs.Recalls.{learn_set}
use Rattle.tone.proofs.Rows.{header_exact, body_exact, patterns_exact}
use Rattle.tone.specs.Reading.{got, bad, onward, header_due, body_due, patterns_due}
use Rattle.tone_elements.specs.declared.Seen.{Seen}
use Rattle.tone_elements.specs.Answers.{Within, all_known, seen_of}
use Rattle.tone_elements.proofs.Steps.{Step, seen_there, seen_bad, onward_got, onward_made}
use Rattle.tone_elements.proofs.Headers.{header_apart}
use Rattle.tone_elements.proofs.Walks.{stays}
use Rattle.tone_sound.specs.Answers.{Finds, Past, Stand, PatternsPast, PatternsStand}
use Rattle.tone_sound.proofs.Bodies.{some_none, nowhere, not_there, nothing_sure, was_sure}

-- ---- what is known

module _ (known : List Bool) (h : ℕ) where
  pub recall_known : h % 256 ≡ 0 → get_or known (h / 4096 % 4) false ≡ recallable known h
  recall_known e = rw (eq-eqb (h % 256) 0 e) refl

  pub definition_stands : (h % 256 ≡ 0 → ⊥) → true ≡ recallable known h
  definition_stands n = rw (ne_eqb (h % 256) 0 n) refl

-- ---- a good answer, or none

was_ok : {A E : Type 0} (s : Result A E) {v : A} → result_ok s ≡ Some v → s ≡ Ok v
was_ok (Ok a) {v} e = let z : a ≡ v = cc in ap (λ x. Ok x) z
was_ok (Err r) e = some_none e

not_ok : {A E : Type 0} (s : Result A E) → result_ok s ≡ None → (r : E) × (s ≡ Err r)
not_ok (Ok a) e = some_none (sym e)
not_ok (Err r) e = (r, refl)

-- ---- patterns

-- with `left` of n patterns still to come: with them, all are read, and where all are read, so are they
pub record Row (m : List ℕ) (at n : ℕ) (known : List Bool) (p left : ℕ) : Type 0 where
  pub inside : p ≤ 8 * length m
  pub resumes : (ps : List Pattern) (q : ℕ) → patterns_due left known (bits_of m) p ≡ got ps q → (all : List Pattern) × (patterns_due n none_known (bits_of m) at ≡ got all q)
  pub rests : (all : List Pattern) (q : ℕ) → patterns_due n none_known (bits_of m) at ≡ got all q → (ps : List Pattern) × (patterns_due left known (bits_of m) p ≡ got ps q)

-- the first of `left` patterns that were read from a place, and those behind it
pub record First (m : List ℕ) (known : List Bool) (p left end : ℕ) : Type 0 where
  pub value : ℕ
  pub behind : ℕ
  pub header : header_due all_known (bits_of m) p ≡ got value behind
  pub recalls : recallable known value ≡ true
  pub own : List ℕ
  pub next : ℕ
  pub body : body_due (value % 256) (bits_of m) behind ≡ got own next
  pub more : List Pattern
  pub rest : patterns_due (left - 1) (learn known value) (bits_of m) next ≡ got more end

-- a header that was read stands, whatever is known, and recalls what is
header_read : (known l : List Bool) (p : ℕ) {v q : ℕ} → header_due known l p ≡ got v q → (header_due all_known l p ≡ got v q) × (recallable known v ≡ true)
header_read known l p {v} {q} e =
    let a = onward_got (header_due all_known l p) (λ h t. pick (recallable known h) (got h t) (bad 7 (p + 3) (p + 17))) (sym (header_apart known l p) ∙ e) in
    let b = picked a.0 a.1 (recallable known a.0) a.3 in
    (a.2 ∙ b.1, ap (recallable known) (sym (got_value b.1)) ∙ b.0)
  where
    picked : (h t : ℕ) (c : Bool) → pick c (got h t) (bad 7 (p + 3) (p + 17)) ≡ got v q → (c ≡ true) × (got h t ≡ got v q)
    picked h t true f = (refl, f)
    picked h t false f = let z : ◌≡◌ {A = ℕ} 0 1 = cc in absurd (omega (arith, z))

    got_value : {h t : ℕ} → got h t ≡ got v q → h ≡ v
    got_value f = cc

-- where patterns were read, there is a first
pub first_of : (m : List ℕ) (known : List Bool) (p left : ℕ) {ps : List Pattern} {end : ℕ} → 0 < left → patterns_due left known (bits_of m) p ≡ got ps end → First m known p left end
unfolding patterns_due
first_of m known p left {ps} {end} h d =
    let l = bits_of m in
    let z : left ≡ suc (left - 1) = omega arith in
    let d' : patterns_due (suc (left - 1)) known l p ≡ got ps end = subst (λ (k : ℕ). patterns_due k known l p ≡ got ps end) z d in
    let a = onward_got (header_due known l p) (λ v t. onward (body_due (specifier v) l t) (λ b u. onward (patterns_due (left - 1) (learn known v) l u) (λ qs w. got (pattern v b ∷ qs) w) bad) bad) d' in
    let v = a.0 in
    let b = onward_got (body_due (specifier v) l a.1) (λ b u. onward (patterns_due (left - 1) (learn known v) l u) (λ qs w. got (pattern v b ∷ qs) w) bad) a.3 in
    let c = onward_made (patterns_due (left - 1) (learn known v) l b.1) (λ qs. pattern v b.0 ∷ qs) b.3 in
    let r = header_read known l p a.2 in
    record { value = v; behind = a.1; header = r.0; recalls = r.1; own = b.0; next = b.1; body = b.2; more = c.0; rest = c.1 }

module _ (m : List ℕ) (at n : ℕ) where
  row_begins : at ≤ 8 * length m → Row m at n none_known at n
  row_begins h = record { inside = h; resumes = λ ps q e. (ps, e); rests = λ ps q e. (ps, e) }

  -- what is found of them
  abbrev pub RowsFound : Option BitPlace → Type 0
  RowsFound r = Finds r (λ q. PatternsPast m at n q.0) (PatternsStand m at n)

  module _ {known : List Bool} {p left : ℕ} (r : Row m at n known p left) where
    -- a header that stands, its body, and the patterns behind them
    row_one : {v q : ℕ} {b : List ℕ} {t : ℕ} {k : ℕ} → left ≡ suc k → header_due all_known (bits_of m) p ≡ got v q → recallable known v ≡ true → body_due (v % 256) (bits_of m) q ≡ got b t
        → (ps : List Pattern) (z : ℕ) → patterns_due k (learn known v) (bits_of m) t ≡ got ps z → patterns_due left known (bits_of m) p ≡ got (pattern v b ∷ ps) z
    unfolding patterns_due
    row_one e h f g ps z l = rw (e, header_apart known (bits_of m) p, h, f, g, l) refl

    -- and back
    row_back : {v q : ℕ} {b : List ℕ} {t : ℕ} {k : ℕ} → left ≡ suc k → header_due all_known (bits_of m) p ≡ got v q → recallable known v ≡ true → body_due (v % 256) (bits_of m) q ≡ got b t
        → (ps : List Pattern) (z : ℕ) → patterns_due left known (bits_of m) p ≡ got ps z → (qs : List Pattern) × (patterns_due k (learn known v) (bits_of m) t ≡ got qs z)
    unfolding patterns_due
    row_back {v} {q} {b} {t} {k} e h f g ps z l =
        let u : patterns_due left known (bits_of m) p ≡ onward (patterns_due k (learn known v) (bits_of m) t) (λ qs w. got (pattern v b ∷ qs) w) bad = rw (e, header_apart known (bits_of m) p, h, f, g) refl in
        let c = onward_made (patterns_due k (learn known v) (bits_of m) t) (λ qs. pattern v b ∷ qs) (sym u ∙ l) in
        (c.0, c.1)

    -- the next one: its header was read, and a place was found behind its body
    module _ (h : 0 < left) {s : Step} {o : Option (Seen ℕ)} (e : s ≡ seen_of (header_due all_known (bits_of m) p)) (eo : o ≡ result_ok s) where
      -- the next of those that stand
      next_of : (u : PatternsStand m at n) → First m known p left u.end
      next_of u = let f = r.rests u.past.patterns u.end u.past.reads in first_of m known p left h f.1

      -- none begins there
      row_cut : o ≡ None → RowsFound None
      row_cut g = nowhere (λ u.
          let b = not_ok s (sym eo ∙ g) in
          let b = seen_bad (λ v. v) (header_due all_known (bits_of m) p) (sym b.1 ∙ e) in
          let c = sym b.there ∙ (next_of u).header in
          let z : ◌≡◌ {A = ℕ} 0 1 = cc in
          omega (arith, z))

      module _ {v : Seen ℕ} (g : o ≡ Some v) where
        -- it was read there
        stood : header_due all_known (bits_of m) p ≡ got v.value v.next.0
        stood = seen_there (header_due all_known (bits_of m) p) (sym (was_ok s (sym eo ∙ g)) ∙ e)

        -- its header and its body
        there : (u : PatternsStand m at n) → (recallable known v.value ≡ true) × Stand m v.next.0 (v.value % 256)
        there u =
            let f = next_of u in
            let d : got v.value v.next.0 ≡ got f.value f.behind = sym stood ∙ f.header in
            let ev : f.value ≡ v.value = cc in
            let eq : f.behind ≡ v.next.0 = cc in
            let i : f.behind ≤ 8 * length m = stays (header_exact all_known) m p r.inside f.header in
            let j : f.next ≤ 8 * length m = stays (body_exact (f.value % 256)) m f.behind i f.body in
            let l = ((patterns_exact (left - 1) (learn known f.value)).sound (bits_of m) f.next (rw (length_bits_of m) j) f.rest).end in
            let b : Stand m f.behind (f.value % 256) = record { end = f.next; past = record { body = f.own; reads = f.body; inside = j }; room = omega (arith, l, u.room) } in
            (subst (λ (x : ℕ). recallable known x ≡ true) ev f.recalls, subst (λ (x : ℕ). Stand m v.next.0 (x % 256)) ev (subst (λ (x : ℕ). Stand m x (f.value % 256)) eq b))

        -- it recalls what is not known
        row_barred : {stands : Bool} → stands ≡ recallable known v.value → not stands ≡ true → RowsFound None
        row_barred {stands} f x = nowhere (λ u. nothing_sure stands x (f ∙ (there u).0))

        module _ {w : Option BitPlace} (b : Finds w (λ q. Past m v.next.0 (v.value % 256) q.0) (Stand m v.next.0 (v.value % 256))) where
          -- its body does not stand
          row_lost : w ≡ None → RowsFound None
          row_lost x = nowhere (λ u. not_there b x (there u).1)

          -- it does
          row_on : {stands : Bool} {t : BitPlace} → stands ≡ recallable known v.value → not stands ≡ false → w ≡ Some t → Row m at n (set known (v.value / 4096 % 4) true) t.0 (left - 1)
          row_on {stands} {t} f y x =
              let c = b.so t x in
              let d = stood in
              let z : left ≡ suc (left - 1) = omega arith in
              let a = sym f ∙ was_sure stands y in
              record {
                inside = c.inside;
                resumes = λ ps i l. r.resumes (pattern v.value c.body ∷ ps) i
                    (row_one z d a c.reads ps i (subst (λ (k : List Bool). patterns_due (left - 1) k (bits_of m) t.0 ≡ got ps i) (sym (learn_set known v.value a)) l));
                rests = λ all i l.
                    let o = r.rests all i l in
                    let c = row_back z d a c.reads o.0 i o.1 in
                    (c.0, subst (λ (k : List Bool). patterns_due (left - 1) k (bits_of m) t.0 ≡ got c.0 i) (learn_set known v.value a) c.1);
              }

    row_done : left ≤ 0 → PatternsPast m at n p
    unfolding patterns_due
    row_done h =
        let z : left ≡ 0 = omega arith in
        let a = r.resumes [] p (subst (λ (k : ℕ). patterns_due k known (bits_of m) p ≡ got [] p) (sym z) refl) in
        record { patterns = a.0; reads = a.1; inside = r.inside }

-- the same, where those that were gone over are counted
module _ (m : List ℕ) (at n : ℕ) where
  pub counted_begins : at ≤ 8 * length m → Row m at n none_known at (n - 0)
  counted_begins h = let z : n ≡ n - 0 = omega arith in subst (Row m at n none_known at) z (row_begins m at n h)

  module _ {known : List Bool} {p i : ℕ} (r : Row m at n known p (n - i)) where
    pub counted_done : n ≤ i → PatternsPast m at n p
    counted_done h = row_done m at n r (omega arith)

    module _ (h : i < n) {s : Step} {o : Option (Seen ℕ)} (e : s ≡ seen_of (header_due all_known (bits_of m) p)) (eo : o ≡ result_ok s) where
      pub counted_cut : o ≡ None → RowsFound m at n None
      counted_cut g = row_cut m at n r (omega arith) e eo g

      module _ {v : Seen ℕ} (g : o ≡ Some v) where
        pub counted_barred : {stands : Bool} → stands ≡ recallable known v.value → not stands ≡ true → RowsFound m at n None
        counted_barred f x = row_barred m at n r (omega arith) e eo g f x

        module _ {w : Option BitPlace} (b : Finds w (λ q. Past m v.next.0 (v.value % 256) q.0) (Stand m v.next.0 (v.value % 256))) where
          pub counted_lost : w ≡ None → RowsFound m at n None
          counted_lost x = row_lost m at n r (omega arith) e eo g b x

          pub counted_on : {stands : Bool} {t : BitPlace} → stands ≡ recallable known v.value → not stands ≡ false → w ≡ Some t → Row m at n (set known (v.value / 4096 % 4) true) t.0 (n - (i + 1))
          counted_on {t = t} f y x = let z : n - i - 1 ≡ n - (i + 1) = omega arith in subst (Row m at n (set known (v.value / 4096 % 4) true) t.0) z (row_on m at n r (omega arith) e eo g b f y x)

-- the place behind a header is within the message
pub header_within : {m : List ℕ} {p : ℕ} {s : Step} {o : Option (Seen ℕ)} {v : Seen ℕ} → length m < 2 ^ 60 → p ≤ 8 * length m → s ≡ seen_of (header_due all_known (bits_of m) p) → o ≡ result_ok s → o ≡ Some v → Within m v.next.0
header_within {m} {p} {s} c i e eo g = record { inside = stays (header_exact all_known) m p i (seen_there (header_due all_known (bits_of m) p) (sym (was_ok s (sym eo ∙ g)) ∙ e)); counted = c }

-- Readers that read exactly what was written: what they accept, what they refuse, and what they look at.
use Prim.Native.Nat.{ℕ, ◌+◌, ◌-◌, ◌^◌, ◌≤◌, ◌<◌}
use native.Mathlib.Omega.{arith}
use native.Mathlib.Nat.{add_assoc, add-zero}
use mathlib.Core.Path.{◌≡◌, refl, sym, ap, ap₂, subst, fun_ext, ◌∙◌}
use mathlib.Core.Bool.{Bool, true, false}
use mathlib.Core.List.{List, [], ◌++◌, append_assoc}
use lib.ListN.{length, drop, take, length-append, length-drop, take-append-drop}
use lib.Seq.{take_at, drop_at, drop-drop, length-take-le, take-append-le, take-append-add, drop-append-le}
use lib.Dec.{ltb, eqb}
use borrow.Author.Tests.{ltb-false, le-ltb, lt-ltb, eq-eqb, eqb-true}
use Rattle.bits.specs.Choice.{pick}
use Rattle.bits.specs.Bits.{num, bits_n, field}
use Rattle.bits.proofs.Choice.{pick_elim}
use Rattle.bits.proofs.Numbers.{length_bits, num_bits, field_lt, field_bits, field_take}
use Rattle.tone.specs.Reading.{Got, got, bad, Reader, onward, ◌>>=◌, ◌>>◌, return, element, any_of}

-- a value was read: it is good, and its bits stand between the two places
pub record Accepted {A : Type 0} (Good : A → Type 0) (bits : ℕ → A → List Bool) (l : List Bool) (at : ℕ) (a : A) (p : ℕ) : Type 0 where
  pub good : Good a
  pub end : p ≡ at + length (bits at a)
  pub inside : p ≤ length l
  pub here : drop at l ≡ bits at a ++ drop p l

-- a refusal at p: the bits ahead of p begin the writing of a good value
pub record Begun {A : Type 0} (Good : A → Type 0) (bits : ℕ → A → List Bool) (l : List Bool) (at p : ℕ) : Type 0 where
  pub value : A
  pub good : Good value
  pub rest : List Bool
  pub begins : bits at value ≡ take (p - at) (drop at l) ++ rest

-- a refusal n at p, of an element that ends at e
pub record Refusal {A : Type 0} (r : Reader A) (Good : A → Type 0) (bits : ℕ → A → List Bool) (l : List Bool) (at n p e : ℕ) : Type 0 where
  pub ahead : at ≤ p
  pub inside : p ≤ length l
  pub element : p ≤ e
  pub begun : Begun Good bits l at p
  pub whole : (n ≡ 2 → ⊥) → e ≤ length l
  pub alike : (n ≡ 2 → ⊥) → (l' : List Bool) → e ≤ length l' → take e l' ≡ take e l → r l' at ≡ bad n p e

-- r reads the good values from their bits, and nothing else
pub record Exact {A : Type 0} (r : Reader A) (Good : A → Type 0) (bits : ℕ → A → List Bool) : Type 0 where
  pub some : (a : A) × Good a
  pub sound : (l : List Bool) (at : ℕ) {a : A} {p : ℕ} → at ≤ length l → r l at ≡ got a p → Accepted Good bits l at a p
  pub complete : (l : List Bool) (at : ℕ) (a : A) (rest : List Bool) → at ≤ length l → Good a → drop at l ≡ bits at a ++ rest → r l at ≡ got a (at + length (bits at a))
  pub refusal : (l : List Bool) (at : ℕ) {n p e : ℕ} → at ≤ length l → r l at ≡ bad n p e → Refusal r Good bits l at n p e

-- ---- nothing read

pub return_exact : {A : Type 0} (a : A) → Exact (return a) (λ c. c ≡ a) (λ _ _. [])
return_exact {A} a = record { some = (a, refl); sound = sound; complete = λ l at c rest h g e. ap₂ (λ (x : A) (y : ℕ). got x y) (sym g) (sym (add-zero at)); refusal = refusal }
  where
    sound : (l : List Bool) (at : ℕ) {c : A} {p : ℕ} → at ≤ length l → got a at ≡ got c p → Accepted (λ c. c ≡ a) (λ _ _. []) l at c p
    sound l at {c} {p} h q =
        let e₁ : c ≡ a = cc in
        let e₂ : at ≡ p = cc in
        record { good = e₁; end = sym e₂ ∙ sym (add-zero at); inside = rw (← e₂) h; here = ap (λ (x : ℕ). drop x l) e₂ }

    refusal : (l : List Bool) (at : ℕ) {n p e : ℕ} → at ≤ length l → got a at ≡ bad n p e → Refusal (return a) (λ c. c ≡ a) (λ _ _. []) l at n p e
    refusal l at h q = let z : ◌≡◌ {A = ℕ} 0 1 = cc in absurd (omega arith)

-- ---- one element

-- the values of an element
abbrev pub Fine : ℕ → (ℕ → Bool) → ℕ → Type 0
Fine w fine v = (v < 2 ^ w) × (fine v ≡ true)

module _ (w : ℕ) (fine : ℕ → Bool) (number : ℕ) where
  abbrev Said : List Bool → ℕ → Got ℕ → Type 0
  Said l at (got a p) = (at + w ≤ length l) × (a ≡ field l at w) × (p ≡ at + w) × (fine (field l at w) ≡ true)
  Said l at (bad n p e) = (p ≡ at) × (e ≡ at + w) × ((n ≡ 2 → ⊥) → (at + w ≤ length l) × (n ≡ number) × (fine (field l at w) ≡ false))

  said : (l : List Bool) (at : ℕ) → Said l at (element w fine number l at)
  unfolding element
  said l at =
      pick_elim (Said l at) (ltb (length l) (at + w)) (λ _. (refl, refl, λ n. absurd (n refl))) (λ h.
      let k : at + w ≤ length l = ltb-false (length l) (at + w) h in
      pick_elim (Said l at) (fine (field l at w)) (λ f. (k, refl, refl, f)) (λ f. (refl, refl, λ _. (k, refl, f))))

  -- the element, once its bits are there
  pub element_good : (l : List Bool) (at : ℕ) → at + w ≤ length l → fine (field l at w) ≡ true → element w fine number l at ≡ got (field l at w) (at + w)
  unfolding element
  element_good l at h f = rw (le-ltb (length l) (at + w) h, f)

  pub element_cut : (l : List Bool) (at : ℕ) → length l < at + w → element w fine number l at ≡ bad 2 at (at + w)
  unfolding element
  element_cut l at h = rw (lt-ltb (length l) (at + w) h)

  pub element_bad : (l : List Bool) (at : ℕ) → at + w ≤ length l → fine (field l at w) ≡ false → element w fine number l at ≡ bad number at (at + w)
  unfolding element
  element_bad l at h f = rw (le-ltb (length l) (at + w) h, f)

  -- what is read stays within the bits
  pub element_inside : (l : List Bool) (at : ℕ) {a p : ℕ} → element w fine number l at ≡ got a p → p ≤ length l
  element_inside l at {a} {p} q = let s : Said l at (got a p) = subst (Said l at) q (said l at) in rw s.2 s.0

  pub element_small : (l : List Bool) (at : ℕ) {a p : ℕ} → element w fine number l at ≡ got a p → a < 2 ^ w
  element_small l at {a} {p} q = let s : Said l at (got a p) = subst (Said l at) q (said l at) in rw s.1 (field_lt l at w s.0)

  pub element_exact : (v₀ : ℕ) → Fine w fine v₀ → Exact (element w fine number) (Fine w fine) (λ _ v. bits_n w v)
  unfolding field
  element_exact v₀ h₀ = record { some = (v₀, h₀); sound = sound; complete = complete; refusal = refusal }
    where
      sound : (l : List Bool) (at : ℕ) {a : ℕ} {p : ℕ} → at ≤ length l → element w fine number l at ≡ got a p → Accepted (Fine w fine) (λ _ v. bits_n w v) l at a p
      sound l at {a} {p} h q =
          let s : Said l at (got a p) = subst (Said l at) q (said l at) in
          record {
            good = rw s.1 (field_lt l at w s.0, s.3);
            end = s.2 ∙ ap (λ (x : ℕ). at + x) (sym (length_bits w a));
            inside = rw s.2 s.0;
            here = sym (take-append-drop w (drop at l)) ∙ ap₂ (λ (x y : List Bool). x ++ y) (field_bits l at w s.0 ∙ ap (bits_n w) (sym s.1)) (drop-drop w at l ∙ ap (λ (x : ℕ). drop x l) (sym s.2));
          }

      complete : (l : List Bool) (at : ℕ) (a : ℕ) (rest : List Bool) → at ≤ length l → Fine w fine a → drop at l ≡ bits_n w a ++ rest → element w fine number l at ≡ got a (at + length (bits_n w a))
      complete l at a rest h g d =
          let n : length l - at ≡ w + length rest = sym (length-drop at l) ∙ ap length d ∙ length-append (bits_n w a) rest ∙ ap (λ (x : ℕ). x + length rest) (length_bits w a) in
          let f : field l at w ≡ a = rw d (ap num (take_at (bits_n w a) rest w (length_bits w a)) ∙ num_bits w a g.0) in
          element_good l at (omega arith) (rw f g.1) ∙ ap₂ (λ (x y : ℕ). got x y) f (ap (λ (x : ℕ). at + x) (sym (length_bits w a)))

      refusal : (l : List Bool) (at : ℕ) {n p e : ℕ} → at ≤ length l → element w fine number l at ≡ bad n p e → Refusal (element w fine number) (Fine w fine) (λ _ v. bits_n w v) l at n p e
      refusal l at {n} {p} {e} h q =
          let s : Said l at (bad n p e) = subst (Said l at) q (said l at) in
          let z : p - at ≡ 0 = omega arith in
          record {
            ahead = omega arith;
            inside = omega arith;
            element = omega arith;
            begun = record { value = v₀; good = h₀; rest = bits_n w v₀; begins = rw z refl };
            whole = λ k. rw s.1 (s.2 k).0;
            alike = λ k l' h' e'.
                let m = s.2 k in
                let f : field l' at w ≡ field l at w = same l l' at (rw s.1 at h') m.0 (rw s.1 at e') in
                element_bad l' at (rw s.1 at h') (rw f m.2) ∙ (rw (m.1, s.0, s.1));
          }
        where
          same : (l l' : List Bool) (at : ℕ) → at + w ≤ length l' → at + w ≤ length l → take (at + w) l' ≡ take (at + w) l → field l' at w ≡ field l at w
          same l l' at h h' e =
              field_take l' at w (at + w) (omega arith) h ∙ ap (λ (x : List Bool). field x at w) e ∙ sym (field_take l at w (at + w) (omega arith) h')

-- an element that was read whole, and then judged
module _ (w : ℕ) (fine : ℕ → Bool) (number : ℕ) (l : List Bool) (at : ℕ) where
  pub judged_cut : {n p e : ℕ} → any_of w l at ≡ bad n p e → element w fine number l at ≡ bad n p e
  unfolding element
  judged_cut {n} {p} {e} q = go (ltb (length l) (at + w)) (field l at w) (at + w) (pick (fine (field l at w)) (got (field l at w) (at + w)) (bad number at (at + w))) q
    where
      go : (t : Bool) (x y : ℕ) (z : Got ℕ) → pick t (bad 2 at (at + w)) (got x y) ≡ bad n p e → pick t (bad 2 at (at + w)) z ≡ bad n p e
      go true x y z h = h
      go false x y z h = let z : ◌≡◌ {A = ℕ} 0 1 = cc in absurd (omega arith)

  module _ {v p : ℕ} (q : any_of w l at ≡ got v p) where
    all : Said w (λ _. true) 0 l at (got v p)
    all = subst (Said w (λ _. true) 0 l at) q (said w (λ _. true) 0 l at)

    pub judged_good : fine v ≡ true → element w fine number l at ≡ got v p
    judged_good h = element_good w fine number l at all.0 (rw (← all.1) h) ∙ ap₂ (λ (x y : ℕ). got x y) (sym all.1) (sym all.2)

    pub judged_bad : fine v ≡ false → element w fine number l at ≡ bad number at (at + w)
    judged_bad h = element_bad w fine number l at all.0 (rw (← all.1) h)

-- ---- the same reader, its values and bits said another way

pub exact_as : {A : Type 0} {r : Reader A} {G G' : A → Type 0} {b b' : ℕ → A → List Bool} → Exact r G b → ((a : A) → G a → G' a) → ((a : A) → G' a → G a)
    → ((at : ℕ) (a : A) → G a → b at a ≡ b' at a) → Exact r G' b'
exact_as {A} {r} {G} {G'} {b} {b'} x to from same = record {
  some = (x.some.0, to x.some.0 x.some.1);
  sound = λ l at h q. accepted l at (x.sound l at h q);
  complete = λ l at a rest h g d. let e = same at a (from a g) in x.complete l at a rest h (from a g) (rw e d) ∙ ap (λ (y : List Bool). got a (at + length y)) e;
  refusal = λ l at h q. refused l at (x.refusal l at h q);
}
  where
    accepted : (l : List Bool) (at : ℕ) {a : A} {p : ℕ} → Accepted G b l at a p → Accepted G' b' l at a p
    accepted l at {a} {p} s =
        let e = same at a s.good in
        record { good = to a s.good; end = s.end ∙ ap (λ (y : List Bool). at + length y) e; inside = s.inside; here = s.here ∙ ap (λ (y : List Bool). y ++ drop p l) e }

    refused : (l : List Bool) (at : ℕ) {n p e : ℕ} → Refusal r G b l at n p e → Refusal r G' b' l at n p e
    refused l at s =
        let v = s.begun in
        record {
          ahead = s.ahead;
          inside = s.inside;
          element = s.element;
          whole = s.whole;
          alike = s.alike;
          begun = record { value = v.value; good = to v.value v.good; rest = v.rest; begins = sym (same at v.value v.good) ∙ v.begins };
        }

-- ---- one reader after another

-- bits that were read stand in every message that shares them
shared : (l l' b : List Bool) (at q e : ℕ) → q ≡ at + length b → q ≤ e → e ≤ length l → e ≤ length l' → take e l' ≡ take e l → drop at l ≡ b ++ drop q l → drop at l' ≡ b ++ drop q l'
shared l l' b at q e hq he hl hl' s d =
    let x : List Bool = drop at (take e l) in
    let n : at ≤ length (take e l) = rw (length-take-le e l hl) (omega arith) in
    let n' : at ≤ length (take e l') = rw (length-take-le e l' hl') (omega arith) in
    let k : length b ≤ length x = rw (length-drop at (take e l), length-take-le e l hl) (omega arith) in
    let a : drop at l ≡ x ++ drop e l = ap (drop at) (sym (take-append-drop e l)) ∙ drop-append-le at (take e l) (drop e l) n in
    let a' : drop at l' ≡ x ++ drop e l' = ap (drop at) (sym (take-append-drop e l')) ∙ drop-append-le at (take e l') (drop e l') n' ∙ ap (λ (y : List Bool). drop at y ++ drop e l') s in
    let t : take (length b) x ≡ b = sym (take-append-le (length b) x (drop e l) k) ∙ ap (take (length b)) (sym a ∙ d) ∙ take_at b (drop q l) (length b) refl in
    let t' : take (length b) (drop at l') ≡ b = ap (take (length b)) a' ∙ take-append-le (length b) x (drop e l') k ∙ t in
    sym (take-append-drop (length b) (drop at l')) ∙ ap₂ (λ (u v : List Bool). u ++ v) t' (drop-drop (length b) at l' ∙ ap (λ (y : ℕ). drop y l') (sym hq))

module _ {A C : Type 0} {r : Reader A} {f : A → Reader C} (g : C → A) {GA : A → Type 0} {bA : ℕ → A → List Bool} {GC : C → Type 0} {bC : ℕ → C → List Bool}
    (first : Exact r GA bA) (second : (a : A) → GA a → Exact (f a) (λ c. GC c × (g c ≡ a)) bC) (good : (c : C) → GC c → GA (g c)) where
  abbrev bits : ℕ → C → List Bool
  bits at c = bA at (g c) ++ bC (at + length (bA at (g c))) c

  accepted : (l : List Bool) (at : ℕ) {a : A} {q : ℕ} {c : C} {p : ℕ} → Accepted GA bA l at a q → Accepted (λ c. GC c × (g c ≡ a)) bC l q c p → Accepted GC bits l at c p
  accepted l at {a} {q} {c} {p} s t =
      let e = t.good.1 in
      record {
        good = t.good.0;
        end = rw (e, ← s.end, length-append (bA at a) (bC q c)) (t.end ∙ ap (λ (x : ℕ). x + length (bC q c)) s.end ∙ add_assoc at (length (bA at a)) (length (bC q c)));
        inside = t.inside;
        here = rw (e, ← s.end) (s.here ∙ ap (λ (y : List Bool). bA at a ++ y) t.here ∙ sym (append_assoc (bA at a) (bC q c) (drop p l)));
      }

  -- the first reader refuses
  stopped : (l : List Bool) (at : ℕ) {n p e : ℕ} → Refusal r GA bA l at n p e → Refusal (r >>= f) GC bits l at n p e
  stopped l at {n} {p} {e} s =
      let v = s.begun in
      let w = (second v.value v.good).some in
      let c = w.0 in
      let h : g c ≡ v.value = w.1.1 in
      record {
        ahead = s.ahead;
        inside = s.inside;
        element = s.element;
        whole = s.whole;
        alike = λ k l' m t. rw (s.alike k l' m t);
        begun = record {
          value = c;
          good = w.1.0;
          rest = v.rest ++ bC (at + length (bA at v.value)) c;
          begins = rw (h, v.begins) (append_assoc (take (p - at) (drop at l)) v.rest (bC (at + length (take (p - at) (drop at l) ++ v.rest)) c));
        };
      }

  -- the second one does
  stopped_later : (l : List Bool) (at : ℕ) {a : A} {q n p e : ℕ} → at ≤ length l → Accepted GA bA l at a q → Refusal (f a) (λ c. GC c × (g c ≡ a)) bC l q n p e → Refusal (r >>= f) GC bits l at n p e
  stopped_later l at {a} {q} {n} {p} {e} h s t =
      let v = t.begun in
      let c = v.value in
      let k : g c ≡ a = v.good.1 in
      let m : p - at ≡ length (bA at a) + (p - q) = omega (arith, s.end, t.ahead) in
      record {
        ahead = omega (arith, s.end, t.ahead);
        inside = t.inside;
        element = t.element;
        whole = t.whole;
        alike = λ z l' m' u.
            let d = shared l l' (bA at a) at q e s.end (omega (arith, t.ahead, t.element)) (t.whole z) m' u s.here in
            let o : r l' at ≡ got a q = first.complete l' at a (drop q l') (omega (arith, s.end, t.ahead, t.element)) s.good d ∙ ap (λ (x : ℕ). got a x) (sym s.end) in
            rw o (t.alike z l' m' u);
        begun = record {
          value = c;
          good = v.good.0;
          rest = v.rest;
          begins = rw (k, ← s.end, m, s.here, take-append-add (bA at a) (drop q l) (p - q))
              (ap (λ (y : List Bool). bA at a ++ y) v.begins ∙ sym (append_assoc (bA at a) (take (p - q) (drop q l)) v.rest));
        };
      }

  pub then_exact : Exact (r >>= f) GC bits
  then_exact = record { some = some first.some; sound = λ l at h q. sound l at h (r l at) refl q; complete = complete; refusal = λ l at h q. refusal l at h (r l at) refl q }
    where
      some : (a : A) × GA a → (c : C) × GC c
      some w = let v = (second w.0 w.1).some in (v.0, v.1.0)

      sound : (l : List Bool) (at : ℕ) {c : C} {p : ℕ} → at ≤ length l → (x : Got A) → r l at ≡ x → onward x (λ a p. f a l p) bad ≡ got c p → Accepted GC bits l at c p
      sound l at h (got a q) e d = let s = first.sound l at h e in accepted l at s ((second a s.good).sound l q s.inside d)
      sound l at h (bad n p' e') e d = let z : ◌≡◌ {A = ℕ} 0 1 = cc in absurd (omega arith)

      complete : (l : List Bool) (at : ℕ) (c : C) (rest : List Bool) → at ≤ length l → GC c → drop at l ≡ bits at c ++ rest → (r >>= f) l at ≡ got c (at + length (bits at c))
      complete l at c rest h G d =
          let a = g c in
          let q = at + length (bA at a) in
          let d₁ : drop at l ≡ bA at a ++ (bC q c ++ rest) = d ∙ append_assoc (bA at a) (bC q c) rest in
          let d₂ : drop q l ≡ bC q c ++ rest = sym (drop-drop (length (bA at a)) at l) ∙ ap (drop (length (bA at a))) d₁ ∙ drop_at (bA at a) (bC q c ++ rest) (length (bA at a)) refl in
          let k : q ≤ length l = omega (arith, sym (length-drop at l) ∙ ap length d₁ ∙ length-append (bA at a) (bC q c ++ rest)) in
          rw (first.complete l at a (bC q c ++ rest) h (good c G) d₁)
          ((second a (good c G)).complete l q c rest k (G, refl) d₂ ∙ ap (λ (x : ℕ). got c x) (add_assoc at (length (bA at a)) (length (bC q c)) ∙ ap (λ (x : ℕ). at + x) (sym (length-append (bA at a) (bC q c)))))

      refusal : (l : List Bool) (at : ℕ) {n p e : ℕ} → at ≤ length l → (x : Got A) → r l at ≡ x → onward x (λ a p. f a l p) bad ≡ bad n p e → Refusal (r >>= f) GC bits l at n p e
      refusal l at h (got a q) e d = let s = first.sound l at h e in stopped_later l at h s ((second a s.good).refusal l q s.inside d)
      refusal l at h (bad n p' e') e d = stopped l at (subst (λ (x : Got C). Same x) d (first.refusal l at h e))
        where
          Same : Got C → Type 0
          Same (got c p) = Unit {0}
          Same (bad n p e) = Refusal r GA bA l at n p e

-- ---- an element of which one code is due

pub fixed_exact : {C : Type 0} {s : Reader C} {G : C → Type 0} {b : ℕ → C → List Bool} (w code number : ℕ) → code < 2 ^ w → Exact s G b
    → Exact (element w (eqb code) number >> s) G (λ at c. bits_n w code ++ b (at + w) c)
fixed_exact {C} {s} {G} {b} w code number h x =
    exact_as
    (then_exact (λ (c : C). code) {GC = G} {bC = b} (element_exact w (eqb code) number code (h, eq-eqb code code refl))
    (λ a g. exact_as x (λ c k. (k, eqb-true code a g.1)) (λ c k. k.0) (λ at c k. refl))
    (λ c k. (h, eq-eqb code code refl)))
    (λ c k. k) (λ c k. k)
    (λ at c k. rw (length_bits w code) refl)

-- ---- readers in a row, bracketed the other way

pub then_assoc : {A B C : Type 0} (r : Reader A) (f : A → Reader B) (g : B → Reader C) → (r >>= (λ a. f a >>= g)) ≡ ((r >>= f) >>= g)
then_assoc {A} {B} {C} r f g = fun_ext (λ l. fun_ext (λ at. go l (r l at)))
  where
    go : (l : List Bool) (x : Got A) → onward x (λ a p. (f a >>= g) l p) bad ≡ onward (onward x (λ a p. f a l p) bad) (λ b p. g b l p) bad
    go l (got a p) = refl
    go l (bad n p e) = refl

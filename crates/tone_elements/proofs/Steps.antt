-- What an answer of the code says of the reading behind it.
use Prim.Native.Nat.{ℕ}
use native.Mathlib.Omega.{arith}
use mathlib.Core.Path.{◌≡◌, refl, sym, ap, ◌∙◌}
use mathlib.Core.Bool.{Bool}
use mathlib.Core.List.{List}
use lib.ListN.{length}
use Rattle.std.specs.Prelude.{Result, Ok, Err}
use Rattle.bits.specs.Places.{place, octet_count}
use Rattle.bits.specs.Refusals.{number_of, refusal}
use Rattle.bits.specs.declared.OctetCount.{OctetCount}
use Rattle.bits.specs.declared.refusal.Refusal.{Refusal}
use Rattle.tone_elements.specs.declared.Seen.{Seen}
use Rattle.tone_elements.specs.declared.Opening.{Opening}
use Rattle.tone.specs.Tone.{Front}
use Rattle.tone.specs.Reading.{Got, got, bad, onward}
use Rattle.tone.proofs.Numbered.{GivenByGot}
use Rattle.tone_elements.specs.Answers.{seen_as, seen_of, characters_of, opening, opening_of}

-- what the code answers of an element
abbrev pub Step : Type 0
Step = Result (Seen ℕ) Refusal

-- a value, and the place behind it
abbrev pub read : {A : Type 0} → A → ℕ → Result (Seen A) Refusal
read v p = Ok (record { value = v; next = place p })

-- a value was read there, and f made another of it
pub seen_made : {A B : Type 0} (f : A → B) (x : Got A) {v : Seen B} → Ok v ≡ seen_as f x → (a : A) × (x ≡ got a v.next.0) × (v.value ≡ f a)
seen_made f (got a p) {v} e =
    let z : v ≡ record { value = f a; next = place p } = cc in
    (a, rw z refl, rw z refl)
seen_made f (bad n p e') e = let z : ◌≡◌ {A = ℕ} 0 1 = cc in absurd (omega arith)

-- a value was read there
pub seen_there : {A : Type 0} (x : Got A) {v : Seen A} → Ok v ≡ seen_of x → x ≡ got v.value v.next.0
seen_there x {v} e = let b = seen_made (λ v. v) x e in b.1 ∙ ap (λ y. got y v.next.0) (sym b.2)

-- a refusal is there
pub record BadThere {A : Type 0} (x : Got A) (r : Refusal) : Type 0 where
  pub number : ℕ
  pub at : ℕ
  pub end : ℕ
  pub there : x ≡ bad number at end
  pub told : r ≡ refusal number at

pub seen_bad : {A B : Type 0} (f : A → B) (x : Got A) {r : Refusal} → Err r ≡ seen_as f x → BadThere x r
seen_bad f (got a p) e = let z : ◌≡◌ {A = ℕ} 0 1 = cc in absurd (omega arith)
seen_bad f (bad n p e') {r} e = record { number = n; at = p; end = e'; there = refl; told = cc }

-- and by its number, where the reading has one of document 01's
pub refused_there : {A B : Type 0} (f : A → B) (x : Got A) → GivenByGot x → {r : Refusal} → Err r ≡ seen_as f x → (e : ℕ) × (x ≡ bad (number_of r.why) r.place.0 e)
refused_there f (got a p) g e = let z : ◌≡◌ {A = ℕ} 0 1 = cc in absurd (omega arith)
refused_there f (bad n p e') g {r} e = let z : r ≡ refusal n p = cc in (e', rw (z, g) refl)

-- and what the code answers then
pub told_as : {B : Type 0} {r : Refusal} (n p : ℕ) → r ≡ refusal n p → ◌≡◌ {A = Result (Seen B) Refusal} (Err r) (Err (refusal n p))
told_as n p e = rw e refl

-- it is the answer to all that goes on from there
pub passed_on : {A B C D : Type 0} (f : A → B) (g : C → D) (x : Got A) (h : A → ℕ → Got C) {r : Refusal} → Err r ≡ seen_as f x → Err r ≡ seen_as g (onward x h bad)
passed_on f g (got a p) h e = let z : ◌≡◌ {A = ℕ} 0 1 = cc in absurd (omega arith)
passed_on f g (bad n p e') h {r} e = let z : r ≡ refusal n p = cc in rw z refl

-- two ways to count agree
pub step_cong : {A B : Type 0} {f g : A → B} (x : Got A) → ((a : A) → f a ≡ g a) → seen_as f x ≡ seen_as g x
step_cong (got a p) h = rw (h a) refl
step_cong (bad n p e) h = refl

-- what is made of a value can be counted at once
pub step_map : {A B C : Type 0} (f : B → C) (h : A → B) (x : Got A) → seen_as f (onward x (λ a p. got (h a) p) bad) ≡ seen_as (λ a. f (h a)) x
step_map f h (got a p) = refl
step_map f h (bad n p e) = refl

-- one reading after another gave a value: what the first gave, and where
pub onward_got : {A B : Type 0} (x : Got A) (f : A → ℕ → Got B) {c : B} {q : ℕ} → onward x f bad ≡ got c q → (a : A) × (p : ℕ) × (x ≡ got a p) × (f a p ≡ got c q)
onward_got (got a p) f e = (a, p, refl, e)
onward_got (bad n p e') f e = let z : ◌≡◌ {A = ℕ} 0 1 = cc in absurd (omega arith)

-- where the second reads nothing and makes a value of the first's
pub onward_made : {A B : Type 0} (x : Got A) (f : A → B) {c : B} {q : ℕ} → onward x (λ a p. got (f a) p) bad ≡ got c q → (a : A) × (x ≡ got a q) × (c ≡ f a)
onward_made (got a p) f {c} {q} e =
    let e₁ : p ≡ q = cc in
    let e₂ : c ≡ f a = cc in
    (a, ap (λ (y : ℕ). got a y) e₁, e₂)
onward_made (bad n p e') f e = let z : ◌≡◌ {A = ℕ} 0 1 = cc in absurd (omega arith)

-- a number that was counted, as octets of a title
abbrev as_octets : Step → Result (Seen OctetCount) Refusal
as_octets (Ok v) = Ok (record { value = octet_count v.value; next = v.next })
as_octets (Err r) = Err r

-- a title's octets are its length, counted
pub characters_as : (x : Got (List ℕ)) (s : Step) → seen_as length x ≡ s → as_octets s ≡ characters_of x
characters_as x s e = sym (ap as_octets e) ∙ same x
  where
    same : (x : Got (List ℕ)) → as_octets (seen_as length x) ≡ characters_of x
    same (got t p) = refl
    same (bad n p e) = refl

-- ---- the front of a message

-- a front that was opened
pub record FrontThere (x : Got Front) (s : ℕ) (u : Bool) (o c at : ℕ) : Type 0 where
  pub front : Front
  pub there : x ≡ got front at
  pub song : s ≡ front.song
  pub unicode : u ≡ front.unicode
  pub octets : o ≡ length front.title
  pub count : c ≡ front.count

pub open_good : (x : Got Front) {v : Seen Opening} → Ok v ≡ opening_of x → FrontThere x v.value.song v.value.unicode v.value.octets.0 v.value.count v.next.0
open_good x {v} e =
    let b = seen_made opening x e in
    let z : v.value ≡ opening b.0 = b.2 in
    record {
      front = b.0;
      there = b.1;
      song = ap (λ (o : Opening). o.song) z;
      unicode = ap (λ (o : Opening). o.unicode) z;
      octets = ap (λ (o : Opening). o.octets.0) z;
      count = ap (λ (o : Opening). o.count) z;
    }

pub open_bad : (x : Got Front) → GivenByGot x → {r : Refusal} → Err r ≡ opening_of x → (e : ℕ) × (x ≡ bad (number_of r.why) r.place.0 e)
open_bad x g e = refused_there opening x g e

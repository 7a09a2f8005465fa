-- What each return of `supplied` and of `label` shows.
use Prim.Native.Nat.{ℕ, zero, suc, ◌*◌, ◌/◌, ◌≤◌}
use native.Mathlib.Nat.{mul-div-le, mul-le-mul_left, le_trans}
use native.Mathlib.Omega.{arith}
use mathlib.Core.Path.{◌≡◌, refl, sym, ap, ◌∙◌}
use mathlib.Core.Bool.{Bool, true, false}
use mathlib.Core.List.{List}
use lib.ListN.{length, take}
use lib.Dec.{eqb}
use lib.Seq.{length-take-le}
use borrow.Author.Tests.{eq-eqb, ne_eqb}
use denote.Ref.{Bor}
use Rattle.bits.specs.declared.OctetCount.{OctetCount}
use Rattle.bits.specs.Choice.{pick}
use Rattle.bits.proofs.Choice.{pick_elim}
use Rattle.tone.specs.Tone.{per_character}
use Rattle.label.specs.declared.Supplier.{Supplier}
use Rattle.label.specs.declared.Supplier.TheVariants.{Title, StandIn}
use Rattle.label.specs.Label.{character, trimmed, left_octets, odd, stands_in, label_of}
use Rattle.bits.specs.Places.{octet_count}
use Rattle.label.specs.Promises.{numbers, SuppliedPromise, LabelPromise}

-- no more characters are left than there are
pub trimmed_most : (w : ℕ) (title : List ℕ) (n : ℕ) → trimmed w title n ≤ n
unfolding trimmed
trimmed_most w title zero = omega arith
trimmed_most w title (suc n) = let h = trimmed_most w title n in pick_elim (λ (x : ℕ). x ≤ suc n) (eqb (character w title (w * n)) 32) (λ _. omega arith) (λ _. omega arith)

-- no more octets are left than there are
pub left_inside : (w : ℕ) (title : List ℕ) → left_octets w title ≤ length title
unfolding left_octets
left_inside w title = le_trans (mul-le-mul_left w (trimmed_most w title (length title / w))) (mul-div-le (length title) w)

module _ (title : List ℕ) (unicode : Bool) (standIn : List ℕ) where
  by_stand_in : stands_in unicode title ≡ true → SuppliedPromise title unicode standIn (StandIn (octet_count (length standIn)))
  unfolding label_of
  by_stand_in h = record { answer = rw h refl; said = rw h refl }

  by_title : (n : OctetCount) → n.0 ≡ left_octets (per_character unicode) title → stands_in unicode title ≡ false → SuppliedPromise title unicode standIn (Title n)
  unfolding label_of
  by_title n e h =
      let l : left_octets (per_character unicode) title ≡ length (take (left_octets (per_character unicode) title) title) = sym (length-take-le (left_octets (per_character unicode) title) title (left_inside (per_character unicode) title)) in
      record { answer = rw h (ap (λ (x : ℕ). Title (octet_count x)) e); said = rw h (ap (λ (x : ℕ). numbers (Title (octet_count x))) (e ∙ l)) }

  module _ {o : Bool} (q : o ≡ odd unicode title) where
    pub supplied_odd : o ≡ true → SuppliedPromise title unicode standIn (StandIn (octet_count (length standIn)))
    unfolding stands_in
    supplied_odd h = by_stand_in (rw (← q, h) refl)

    pub supplied_whole : o ≡ false → odd unicode title ≡ false
    supplied_whole h = sym q ∙ h

    module _ {n : OctetCount} (h : o ≡ false) (e : n.0 ≡ left_octets (per_character unicode) title) where
      pub supplied_nothing : n.0 ≡ 0 → SuppliedPromise title unicode standIn (StandIn (octet_count (length standIn)))
      unfolding stands_in
      supplied_nothing z = by_stand_in (rw (← q, h, ← e, eq-eqb n.0 0 z) refl)

      pub supplied_title : (n.0 ≡ 0 → ⊥) → SuppliedPromise title unicode standIn (Title n)
      unfolding stands_in
      supplied_title z = by_title n e (rw (← q, h, ← e, ne_eqb n.0 0 z) refl)

pub ruleset supplies = (supplied_odd, supplied_whole, supplied_nothing, supplied_title)

-- the case of an answer says which buffer supplies the label
stood : {title : List ℕ} {unicode : Bool} {standIn : List ℕ} {s : Supplier} → SuppliedPromise title unicode standIn s → {n : OctetCount} → s ≡ StandIn n → stands_in unicode title ≡ true
stood {title} {unicode} {standIn} {s} p {n} e = go (stands_in unicode title) p.answer
  where
    go : (b : Bool) → s ≡ pick b (StandIn (octet_count (length standIn))) (Title (octet_count (left_octets (per_character unicode) title))) → b ≡ true
    go true g = refl
    go false g = let z : ◌≡◌ {A = ℕ} 0 1 = cc in absurd (omega arith)

supplies_title : {title : List ℕ} {unicode : Bool} {standIn : List ℕ} {s : Supplier} → SuppliedPromise title unicode standIn s → {n : OctetCount} → s ≡ Title n
    → (stands_in unicode title ≡ false) × (n ≡ octet_count (left_octets (per_character unicode) title))
supplies_title {title} {unicode} {standIn} {s} p {n} e = go (stands_in unicode title) p.answer
  where
    go : (b : Bool) → s ≡ pick b (StandIn (octet_count (length standIn))) (Title (octet_count (left_octets (per_character unicode) title))) → (b ≡ false) × (n ≡ octet_count (left_octets (per_character unicode) title))
    go true g = let z : ◌≡◌ {A = ℕ} 0 1 = cc in absurd (omega arith)
    go false g = (refl, cc)

module _ (title standIn : Bor (List ℕ)) {unicode : Bool} {s : Supplier} (p : SuppliedPromise title.now unicode standIn.now s) {n : OctetCount} where
  pub label_stand_in : {r : Bor (List ℕ)} → s ≡ StandIn n → r ≡ standIn → LabelPromise title unicode standIn r
  unfolding label_of
  label_stand_in e f = record { octets = rw (stood p e) (ap (λ x. x.now) f); place = rw (stood p e) (ap (λ x. x.ref_ptr) f) }

  pub label_room : s ≡ Title n → n.0 ≡ length (take n.0 title.now)
  label_room e =
      let h : n.0 ≤ length title.now = rw (supplies_title p e).1 (left_inside (per_character unicode) title.now) in
      sym (length-take-le n.0 title.now h)

  pub label_title : s ≡ Title n → LabelPromise title unicode standIn (record { ref_ptr = title.ref_ptr; now = take n.0 title.now })
  unfolding label_of
  label_title e =
      let h = supplies_title p e in
      record { octets = rw h.0 (ap (λ (x : OctetCount). take x.0 title.now) h.1); place = rw h.0 refl }

pub ruleset labels = (label_stand_in, label_room, label_title)

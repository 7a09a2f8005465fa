-- What the promises of the calls come to.
use Prim.Native.Nat.{ℕ}
use native.Mathlib.Omega.{arith}
use mathlib.Core.Path.{◌≡◌, refl, sym, ap, ◌∙◌}
use mathlib.Core.Bool.{Bool, true, false}
use mathlib.Core.Logic.{◌↔◌}
use mathlib.Core.List.{List, ◌++◌}
use lib.ListN.{length}
use lib.Dec.{eqb}
use denote.Ref.{Bor}
use Rattle.bits.specs.Choice.{pick}
use Rattle.label.specs.declared.Supplier.{Supplier}
use Rattle.label.specs.Label.{trimmed_title, space, spaces, odd, stands_in, label_of, NoTitle, odd_octets}
use Rattle.label.specs.Promises.{numbers, Numbers, SuppliedPromise, LabelPromise}
use Rattle.label.proofs.Rules.{stands_in_lem, title_made, left_ends}

-- `supplied` names the stand-in exactly if the octets are odd under UNICODE or nothing is left
pub supplied_stand_in : (title : List ℕ) (unicode : Bool) (standIn : List ℕ) (r : Supplier) → SuppliedPromise title unicode standIn r → ((numbers r).buffer ≡ 1) ↔ NoTitle unicode title
supplied_stand_in title unicode standIn r p =
    let e = ap (λ (x : Numbers). x.buffer) p.said in
    (λ h. (stands_in_lem unicode title).0 (one (stands_in unicode title) (sym e ∙ h)), λ h. e ∙ ap (λ (b : Bool). pick {A = ℕ} b 1 0) ((stands_in_lem unicode title).1 h))
  where
    one : (b : Bool) → pick {A = ℕ} b 1 0 ≡ 1 → b ≡ true
    one true h = refl
    one false h = absurd (omega arith)

module _ (title : Bor (List ℕ)) (unicode : Bool) (standIn r : Bor (List ℕ)) (p : LabelPromise title unicode standIn r) where
  -- `supplied` says which buffer the label is a stretch of, and how long it is
  pub label_supplied : (s : Supplier) → SuppliedPromise title.now unicode standIn.now s
      → (length r.now ≡ (numbers s).octets) × (r.ref_ptr ≡ pick (eqb (numbers s).buffer 1) standIn.ref_ptr title.ref_ptr)
  label_supplied s q =
      (ap length p.octets ∙ sym (ap (λ (x : Numbers). x.octets) q.said), p.place ∙ (rw (ap (λ (x : Numbers). x.buffer) q.said) (sides (stands_in unicode title.now))))
    where
      sides : (b : Bool) → pick b standIn.ref_ptr title.ref_ptr ≡ pick (eqb (pick b 1 0) 1) standIn.ref_ptr title.ref_ptr
      sides true = refl
      sides false = refl

  -- the whole stand-in
  pub label_whole : NoTitle unicode title.now → (r.now ≡ standIn.now) × (r.ref_ptr ≡ standIn.ref_ptr)
  unfolding label_of
  label_whole h = let s = (stands_in_lem unicode title.now).1 h in (p.octets ∙ (rw s refl), p.place ∙ (rw s refl))

  -- or the title without its trailing spaces: it starts the title, only spaces follow it, and it ends in none
  pub label_title : (NoTitle unicode title.now → ⊥) → (r.ref_ptr ≡ title.ref_ptr) × ((n : ℕ) × (title.now ≡ r.now ++ spaces unicode n)) × ((a : List ℕ) → r.now ≡ a ++ space unicode → ⊥)
  unfolding label_of
  label_title h = go (stands_in unicode title.now) refl (odd unicode title.now) refl
    where
      go : (b : Bool) → stands_in unicode title.now ≡ b → (o : Bool) → odd unicode title.now ≡ o
          → (r.ref_ptr ≡ title.ref_ptr) × ((n : ℕ) × (title.now ≡ r.now ++ spaces unicode n)) × ((a : List ℕ) → r.now ≡ a ++ space unicode → ⊥)
      go true q o f = absurd (h ((stands_in_lem unicode title.now).0 q))
      go false q true f = absurd (h (odd_octets f))
      go false q false f =
          let e : r.now ≡ trimmed_title unicode title.now = p.octets ∙ (rw q refl) in
          let m = title_made unicode title.now f in
          (p.place ∙ (rw q refl), (m.0, m.1 ∙ ap (λ (x : List ℕ). x ++ spaces unicode m.0) (sym e)), λ a g. left_ends unicode title.now f a (sym e ∙ g))

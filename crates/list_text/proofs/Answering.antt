-- From the promise of the list to the text of the answer.
use Rattle.std.specs.Prelude.{Result, Ok, Err}
use Prim.Native.Nat.{ℕ, ◌*◌, ◌≤◌}
use mathlib.Core.Path.{◌≡◌, refl, sym, ap, subst, ◌∙◌}
use mathlib.Core.Bool.{Bool}
use mathlib.Core.List.{List, ◌++◌}
use lib.ListN.{length}
use lib.Dec.{lit≤}
use borrow.Author.Tests.{leb-true}
use Rattle.bits.specs.Outcome.{Outcome, accepted, refused}
use Rattle.bits.proofs.Choice.{pick_elim, then_elim}
use Rattle.bits.specs.Refusals.{number_of, refusal as refusal_by}
use Rattle.bits.specs.declared.refusal.Refusal.{Refusal}
use Rattle.bits.proofs.Answered.{not_refused}
use Rattle.tone.specs.Reading.{read_tone}
use Rattle.tone.proofs.Refusals.{place_most}
use Rattle.list.specs.declared.Listed.{Listed}
use Rattle.list_rules.specs.Sounding.{entry_cells}
use Rattle.list_rules.specs.Playing.{Listing, playing_list}
use Rattle.list_rules.specs.Listing.{fits_numbers, list_tone}
use Rattle.list.specs.Promise.{Numbers, ListPromise, numbers_of, list_numbers, list_answer, made, cells_after}
use Rattle.list.proofs.Agreeing.{list_fitting}
use Rattle.list_text.specs.Text.{Added, lines, opening, refusal, text_of, answer_of}
use Rattle.list_text.proofs.Texts.{added_two}

-- ---- what the answer says

-- a list that was made fits
pub made_fits : (m list : List ℕ) {list' : List ℕ} {r : Result Listed Refusal} {l : Listed} → ListPromise m (fits_numbers (length list)) list list' r → r ≡ Ok l
    → entry_cells * l.entries ≤ length list
made_fits m list {l = l} q e = go (list_tone m fits) refl (sym e ∙ q.answer)
  where
    fits : Listing → Bool
    fits = fits_numbers (length list)

    go : (x : Outcome Listing) → list_tone m fits ≡ x → Ok l ≡ list_answer x → entry_cells * l.entries ≤ length list
    go (accepted g) s h = let c : l ≡ made g = cc in rw c (leb-true (entry_cells * length g.entries) (length list) (list_fitting m fits g s).0)
    go (refused i p) s h = not_refused h

-- the place of a refusal is small
pub refused_small : (m list : List ℕ) {list' : List ℕ} {r : Result Listed Refusal} {f : Refusal} → ListPromise m (fits_numbers (length list)) list list' r → r ≡ Err f
    → f.place.0 ≤ 32768
unfolding list_tone
refused_small m list {f = f} q e =
    then_elim Small (read_tone m) (λ t _.
    pick_elim Small (fits_numbers (length list) (playing_list t)) (λ _ h. not_refused (sym h)) (λ _ h. let z : f ≡ refusal_by 11 0 = cc in rw z (lit≤ tt)))
    (λ i j s h. let z : f ≡ refusal_by i j = cc in rw z (place_most m i j s)) (sym e ∙ q.answer)
  where
    Small : Outcome Listing → Type 0
    Small x = Err f ≡ list_answer x → f.place.0 ≤ 32768

-- ---- the text

-- the text of a list that was made
made_is : (o : Outcome Listing) (list : List ℕ) {list' : List ℕ} {l : Listed} → Ok l ≡ list_answer o → list' ≡ cells_after o list
    → opening l.entries l.mark ++ lines l.entries list' ≡ text_of o (cells_after o list)
made_is (accepted g) list {l = l} e f = let c : l ≡ made g = cc in rw (c, f) refl
made_is (refused n p) list e f = not_refused e

-- the text of a refusal
refused_is : (o : Outcome Listing) (list : List ℕ) {f : Refusal} → numbers_of (Err f) ≡ list_numbers o → Err f ≡ list_answer o
    → refusal (number_of f.why) f.place.0 ≡ text_of o (cells_after o list)
refused_is (accepted g) list s e = not_refused (sym e)
refused_is (refused n p) list {f} s e =
    let a : number_of f.why ≡ n = ap (λ (x : Numbers). x.refusal) s in
    let b : f.place.0 ≡ p = ap (λ (x : Numbers). x.place) s in
    rw (a, b) refl

pub made_text : (m list text : List ℕ) {list' : List ℕ} {r : Result Listed Refusal} {l : Listed} {b c : List ℕ} {p z : ℕ}
    → ListPromise m (fits_numbers (length list)) list list' r → r ≡ Ok l → Added text 0 (opening l.entries l.mark) b p
    → Added b p (lines l.entries list') c z → Added text 0 (answer_of m list) c z
made_text m list text {c = c} {z = z} q e t u =
    subst (λ (l : List ℕ). Added text 0 l c z) (made_is (list_tone m (fits_numbers (length list))) list (sym e ∙ q.answer) q.leaves) (added_two t u)

pub refused_text : (m list text : List ℕ) {list' : List ℕ} {r : Result Listed Refusal} {f : Refusal} {c : List ℕ} {z : ℕ}
    → ListPromise m (fits_numbers (length list)) list list' r → r ≡ Err f → Added text 0 (refusal (number_of f.why) f.place.0) c z → Added text 0 (answer_of m list) c z
refused_text m list text {c = c} {z = z} q e t =
    subst (λ (l : List ℕ). Added text 0 l c z)
    (refused_is (list_tone m (fits_numbers (length list))) list (ap numbers_of (sym e) ∙ q.said) (sym e ∙ q.answer)) t

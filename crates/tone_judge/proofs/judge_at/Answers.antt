-- `tone_judge::judge_at` meets its contract. What is told of the reader behind a part is told of the message and the place reached.
use Rattle.std.proofs.Common.{◌≡◌, ℕ, List, sym, Bor}
use mathlib.Core.Path.{subst₂}
use Rattle.bits.specs.Bits.{bits_of}
use Rattle.bits.specs.declared.BitPlace.{BitPlace}
use Rattle.tone.specs.Tone.{none_known}
use Rattle.tone.specs.Reading.{patterns_due, ending as endingDue}
use Rattle.tone_elements.specs.Answers.{Within, seen_as, seen_of}
use Rattle.std.specs.Prelude.{Result}
use Rattle.bits.specs.declared.refusal.Refusal.{Refusal}
use Rattle.tone_elements.specs.declared.Seen.{Seen}
use Rattle.tone_judge.specs.declared.Total.{Total}
use Rattle.tone_judge.specs.declared.Wish.{Wish}
use Rattle.tone_judge.specs.Answers.{total_of}
use Rattle.tone_judge.proofs.Judgements.{whole_closed, whole_within, whole_count, whole_stopped, whole_last, whole_bad, whole_good}
use borrow.Author.Rules.{rules}
use Rattle.tone_judge.proofs.judge_at.Goals as goal

-- what holds of the message and a place holds of a reader there
there : (φ : List ℕ → ℕ → Type 0) {x y : Bor (List ℕ)} {p q : BitPlace} → (x ≡ y) × (p ≡ q) → φ y.now q.0 → φ x.now p.0
there φ e h = subst₂ (λ (x : Bor (List ℕ)) (p : BitPlace). φ x.now p.0) (sym e.0) (sym e.1) h

-- and the other way round
here : (φ : List ℕ → ℕ → Type 0) {x y : Bor (List ℕ)} {p q : BitPlace} → (x ≡ y) × (p ≡ q) → φ x.now p.0 → φ y.now q.0
here φ e h = subst₂ (λ (x : Bor (List ℕ)) (p : BitPlace). φ x.now p.0) e.0 e.1 h

abbrev Tallied : Wish → ℕ → Result (Seen Total) Refusal → List ℕ → ℕ → Type 0
Tallied w n t x p = t ≡ seen_as (total_of w p) (patterns_due n none_known (bits_of x) p)

abbrev Ended : Result (Seen ℕ) Refusal → List ℕ → ℕ → Type 0
Ended s x p = s ≡ seen_of (endingDue (bits_of x) p)

pub returns-in_err-opening : goal.returns-in_err-opening
returns-in_err-opening c = let r = c.args.r in search (whole_closed c.args.wish r.msg.now r.at.0 c.requires c.front.ensures c.in_err-opening.was, rules)

pub patterns_at-requires : goal.patterns_at-requires
patterns_at-requires c =
    let r = c.args.r in (
      there Within c.behind.ensures (whole_within c.args.wish r.msg.now r.at.0 c.requires c.front.ensures c.in_ok-opening.was),
      whole_count c.args.wish r.msg.now r.at.0 c.requires c.front.ensures c.in_ok-opening.was,
    )

pub returns-in_err-tally : goal.returns-in_err-tally
returns-in_err-tally c =
    let r = c.args.r in
    let t = here (Tallied c.args.wish c.in_ok-opening.opening.value.count _) c.behind.ensures c.patterns_at.ensures in
    search (whole_stopped c.args.wish r.msg.now r.at.0 c.requires c.front.ensures c.in_ok-opening.was t c.in_err-tally.was, rules)

pub ending-requires : goal.ending-requires
ending-requires c =
    let r = c.args.r in
    let t = here (Tallied c.args.wish c.in_ok-opening.opening.value.count _) c.behind.ensures c.patterns_at.ensures in
    there Within c.behind-2.ensures (whole_last c.args.wish r.msg.now r.at.0 c.requires c.front.ensures c.in_ok-opening.was t c.in_ok-tally.was)

pub returns-in_err-end : goal.returns-in_err-end
returns-in_err-end c =
    let r = c.args.r in
    let t = here (Tallied c.args.wish c.in_ok-opening.opening.value.count _) c.behind.ensures c.patterns_at.ensures in
    let e = here (Ended _) c.behind-2.ensures c.ending.ensures in
    search (whole_bad c.args.wish r.msg.now r.at.0 c.requires c.front.ensures c.in_ok-opening.was t c.in_ok-tally.was e c.in_err-end.was, rules)

pub returns : goal.returns
returns c =
    let r = c.args.r in
    let t = here (Tallied c.args.wish c.in_ok-opening.opening.value.count _) c.behind.ensures c.patterns_at.ensures in
    let e = here (Ended _) c.behind-2.ensures c.ending.ensures in
    whole_good c.args.wish r.msg.now r.at.0 c.requires c.front.ensures c.in_ok-opening.was t c.in_ok-tally.was e c.in_ok-end.was

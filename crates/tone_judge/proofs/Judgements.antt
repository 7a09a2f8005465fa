-- What each return of `judge_at`, `judge_for` and `judge` shows.
use Prim.Native.Nat.{ℕ, ◌+◌, ◌≤◌, ◌<◌}
use native.Mathlib.Omega.{arith}
use native.Mathlib.Nat.{zero-add}
use mathlib.Core.Path.{◌≡◌, refl, sym, ap, ap₂, ◌∙◌}
use mathlib.Core.Bool.{Bool}
use mathlib.Core.List.{List}
use lib.ListN.{length, take}
use lib.Seq.{set_out}
use borrow.Author.Tests.{lt-ltb, le-ltb, eq-eqb, ne_eqb}
use Rattle.bits.specs.Bits.{bits_of, place_after}
use Rattle.bits.specs.Choice.{pick}
use Rattle.bits.specs.Outcome.{Outcome, accepted, refused}
use Rattle.bits.proofs.Octets.{length_bits_of}
use Rattle.bits.specs.Places.{place, octet_count}
use Rattle.tone.specs.Tone.{Pattern, Tone, Front, front_of, header, cells, pattern_at, none_known}
use Rattle.tone.specs.Writing.{front_bits, table_bits, most_octets}
use Rattle.tone.specs.Reading.{Got, got, bad, front, patterns_due, ending, rest, whole_tone, nothing_more, read_tone}
use Rattle.tone.proofs.Fronts.{front_exact}
use Rattle.tone.proofs.Rows.{patterns_exact}
use Rattle.tone.proofs.Demand2.{read_formed}
use Rattle.edit_change.specs.Change.{with_body}
use Rattle.std.specs.Prelude.{Result, Ok, Err}
use Rattle.bits.specs.Refusals.{on, refusal}
use Rattle.bits.specs.declared.refusal.Refusal.{Refusal}
use Rattle.bits.specs.declared.refusal.Ground.TheVariants.{TooLong, AfterEnd}
use Rattle.tone_elements.specs.declared.Seen.{Seen}
use Rattle.tone_elements.specs.declared.Opening.{Opening}
use Rattle.tone_judge.specs.declared.Judged.{Judged}
use Rattle.tone_elements.specs.Answers.{Within, seen_as, seen_of, opening, opening_of}
use Rattle.tone_judge.specs.declared.Wish.{Wish}
use Rattle.tone_judge.specs.declared.Total.{Total}
use Rattle.tone_judge.specs.Wishes.{granted, no_wish, no_cut, cut_of}
use Rattle.tone_judge.specs.Answers.{total_as, plainly, total_of, first, judged, whole_of, judged_for, judged_of}
use Rattle.tone_elements.proofs.Steps.{Step, read, seen_there, seen_made, seen_bad, told_as}
use Rattle.tone_elements.proofs.Walks.{stays}

-- ---- a tone where it stands

module _ (w : Wish) (m : List ℕ) (at : ℕ) (i : Within m at) where
  -- the place, among the bits
  among : at ≤ length (bits_of m)
  among = rw (length_bits_of m) i.inside

  -- what the code answers of a tone there
  abbrev Whole : Type 0
  Whole = Result (Seen Judged) Refusal

  module _ {s : Result (Seen Opening) Refusal} (q : s ≡ opening_of (front (bits_of m) at)) where
    pub whole_closed : {r : Refusal} → s ≡ Err r → Err r ≡ whole_of w at (whole_tone (bits_of m) at)
    unfolding whole_tone
    whole_closed g = let b = seen_bad opening (front (bits_of m) at) (sym g ∙ q) in rw b.there (told_as b.number b.at b.told)

    module _ {o : Seen Opening} (g : s ≡ Ok o) where
      opened : (f : Front) × (front (bits_of m) at ≡ got f o.next.0) × (o.value ≡ opening f)
      opened = seen_made opening (front (bits_of m) at) (sym g ∙ q)

      -- as many patterns as the front says
      abbrev count : ℕ
      count = o.value.count

      counts : count ≡ opened.0.count
      counts = ap (λ (x : Opening). x.count) opened.2

      pub whole_within : Within m o.next.0
      whole_within = record { inside = stays front_exact m at i.inside opened.1; counted = i.counted }

      pub whole_count : count ≤ 255
      whole_count = rw counts (front_exact.sound (bits_of m) at among opened.1).good.most

      module _ {t : Result (Seen Total) Refusal} (q' : t ≡ seen_as (total_of w o.next.0) (patterns_due count none_known (bits_of m) o.next.0)) where
        pub whole_stopped : {r : Refusal} → t ≡ Err r → Err r ≡ whole_of w at (whole_tone (bits_of m) at)
        unfolding whole_tone rest
        whole_stopped g' =
            let b = seen_bad (total_of w o.next.0) (patterns_due count none_known (bits_of m) o.next.0) (sym g' ∙ q') in
            rw (opened.1, ← counts, b.there) (told_as b.number b.at b.told)

        module _ {v : Seen Total} (g' : t ≡ Ok v) where
          counted : (ps : List Pattern) × (patterns_due count none_known (bits_of m) o.next.0 ≡ got ps v.next.0) × (v.value ≡ total_of w o.next.0 ps)
          counted = seen_made (total_of w o.next.0) (patterns_due count none_known (bits_of m) o.next.0) (sym g' ∙ q')

          pub whole_last : Within m v.next.0
          whole_last = record { inside = stays (patterns_exact count none_known) m o.next.0 whole_within.inside counted.1; counted = i.counted }

          module _ {e : Step} (q'' : e ≡ seen_of (ending (bits_of m) v.next.0)) where
            pub whole_bad : {r : Refusal} → e ≡ Err r → Err r ≡ whole_of w at (whole_tone (bits_of m) at)
            unfolding whole_tone rest
            whole_bad g'' =
                let b = seen_bad (λ v. v) (ending (bits_of m) v.next.0) (sym g'' ∙ q'') in
                rw (opened.1, ← counts, counted.1, b.there) (told_as b.number b.at b.told)

            pub whole_good : {n : Seen ℕ} → e ≡ Ok n
                → read (record { song = o.value.song; at = o.next; octets = o.value.octets; patterns = count; total = v.value; unicode = o.value.unicode }) n.next.0 ≡ whole_of w at (whole_tone (bits_of m) at)
            unfolding whole_tone rest
            whole_good {n} g'' =
                let b = seen_there (ending (bits_of m) v.next.0) (sym g'' ∙ q'') in
                let fr = opened.0 in
                let ps = counted.0 in
                let size : length ps ≡ count = ((patterns_exact count none_known).sound (bits_of m) o.next.0 (rw (length_bits_of m) whole_within.inside) counted.1).good.size in
                let same : front_of (record { song = fr.song; unicode = fr.unicode; title = fr.title; patterns = ps }) ≡ fr =
                (λ i. record { song = fr.song; unicode = fr.unicode; title = fr.title; count = (size ∙ counts) i }) in
                let t : Tone = record { song = fr.song; unicode = fr.unicode; title = fr.title; patterns = ps } in
                let e₀ : at + length (front_bits (front_of t)) ≡ o.next.0 =
                ap (λ (x : Front). at + length (front_bits x)) same ∙ sym (front_exact.sound (bits_of m) at among opened.1).end in
                let e₁ : o.value.song ≡ fr.song = ap (λ (x : Opening). x.song) opened.2 in
                let e₂ : o.value.unicode ≡ fr.unicode = ap (λ (x : Opening). x.unicode) opened.2 in
                let e₃ : o.value.octets ≡ octet_count (length fr.title) = ap (λ (x : Opening). x.octets) opened.2 in
                let e₄ = counted.2 in
                rw (opened.1, ← counts, counted.1, b, e₀) (cc)

-- ---- the whole message

pub judge_long : (w : Wish) (m : List ℕ) {r : Refusal} → r ≡ on TooLong 0 → most_octets < length m → Err r ≡ judged_for w (read_tone m)
unfolding read_tone
judge_long w m e h = rw (e, lt-ltb most_octets (length m) h)

pub judge_begins : (m : List ℕ) → length m ≤ most_octets → Within m 0
judge_begins m short = record { inside = omega arith; counted = omega arith }

module _ (w : Wish) (m : List ℕ) (short : length m ≤ most_octets) {j : Result (Seen Judged) Refusal} (q : j ≡ whole_of w 0 (whole_tone (bits_of m) 0)) where
  pub judge_broken : {r : Refusal} → j ≡ Err r → Err r ≡ judged_for w (read_tone m)
  unfolding read_tone
  judge_broken {r} g = rw (le-ltb most_octets (length m) short) (go (whole_tone (bits_of m) 0) (sym g ∙ q))
    where
      go : (x : Got Tone) → Err r ≡ whole_of w 0 x → Err r ≡ judged_for w (nothing_more (place_after (length m)) x)
      go (got t p) e = let z : ◌≡◌ {A = ℕ} 0 1 = cc in absurd (omega arith)
      go (bad n' p e') e = let z : r ≡ refusal n' p = cc in rw z refl

  module _ {v : Seen Judged} {end : ℕ} (g : j ≡ Ok v) (z : end ≡ place_after (length m)) where
    -- the tone that was read, and where it ends
    ended : (t : Tone) × (whole_tone (bits_of m) 0 ≡ got t v.next.0) × (v.value ≡ judged (total_of w) (first 0 t) t)
    ended = seen_made (λ t. judged (total_of w) (first 0 t) t) (whole_tone (bits_of m) 0) (sym g ∙ q)

    pub judge_more : {r : Refusal} → r ≡ on AfterEnd v.next.0 → (v.next.0 ≡ end → ⊥) → Err r ≡ judged_for w (read_tone m)
    unfolding read_tone
    judge_more e h = rw (e, le-ltb most_octets (length m) short, ended.1, ← z, ne_eqb v.next.0 end h) refl

    pub judge_sound : v.next.0 ≡ end → Ok v.value ≡ judged_for w (read_tone m)
    unfolding read_tone
    judge_sound h =
        let t = ended.0 in
        let f = length (front_bits (front_of t)) in
        rw (le-ltb most_octets (length m) short, ended.1, ← z, eq-eqb v.next.0 end h) (ap (λ (x : Judged). Ok x) (ended.2 ∙ ap (λ (x : ℕ). judged (total_of w) x t) (zero-add f)))

pub ruleset judgements = (judge_long, judge_begins, judge_broken, judge_more, judge_sound)

-- ---- with no edit in mind

-- no message has a pattern at position 255
pub judge_plain : (m : List ℕ) {r : Result Judged Refusal} → r ≡ judged_for no_wish (read_tone m) → r ≡ judged_of (read_tone m)
judge_plain m e = e ∙ go (read_tone m) refl
  where
    go : (o : Outcome Tone) → read_tone m ≡ o → judged_for no_wish o ≡ judged_of o
    go (accepted t) q =
        let at = length (front_bits (front_of t)) in
        let few : length t.patterns ≤ 255 = (read_formed m t q).0.front.most in
        let p = pattern_at t.patterns 255 in
        let same : total_of no_wish at t.patterns ≡ plainly at t.patterns =
        ap₂ (λ (qs : List Pattern) (b : Bool). total_as at t.patterns qs (pick b (cut_of no_wish (at + length (table_bits (cells (take 255 t.patterns)))) (header p) p.body) no_cut)) (set_out t.patterns 255 (with_body p (granted no_wish p.body)) few) (le-ltb 255 (length t.patterns) few) in
        ap (λ (v : Total). Ok (record { song = t.song; at = place at; octets = octet_count (length t.title); patterns = length t.patterns; total = v; unicode = t.unicode })) same
    go (refused n p) q = refl

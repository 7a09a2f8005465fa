-- A tone that was gone over from its front to its end stands there, and where one stands, it was.
use Prim.Native.Nat.{ℕ, ◌+◌, ◌-◌, ◌*◌, ◌/◌, ◌%◌, ◌^◌, ◌≤◌, ◌<◌}
use native.Mathlib.Omega.{arith}
use native.Mathlib.Nat.{zero-div}
use mathlib.Core.Path.{◌≡◌, refl, sym, ap, subst, ◌∙◌}
use mathlib.Core.List.{List}
use lib.ListN.{length, drop}
use lib.Dec.{eqb, lit<}
use lib.Pow.{shr-shr, shr_mod}
use borrow.Author.Tests.{eqb-true}
use Rattle.std.specs.Prelude.{Option, Some, None}
use Rattle.bits.specs.Bits.{bits_of, place_after, octets_before, octets_to, filler_to}
use Rattle.bits.specs.Places.{octet_count}
use Rattle.bits.specs.declared.BitPlace.{BitPlace}
use Rattle.bits.specs.declared.OctetCount.{OctetCount}
use Rattle.bits.specs.Window.{Sight}
use Rattle.bits.proofs.Octets.{length_bits_of}
use Rattle.tone.specs.Tone.{Front, Pattern, Tone, none_known}
use Rattle.tone.specs.Reading.{Got, got, bad, onward, element, front as frontDue, patterns_due, ending, rest, whole_tone, octets_read, tone_at}
use Rattle.tone.proofs.Fronts.{front_exact}
use Rattle.tone.proofs.Rows.{header_exact, header_wide, body_exact, patterns_exact}
use Rattle.tone_elements.specs.Answers.{Within, all_known}
use Rattle.tone_elements.proofs.Steps.{seen_there, onward_got, onward_made}
use Rattle.tone_elements.proofs.Openings.{ending_told}
use Rattle.tone_sound.specs.declared.Start.{Start}
use Rattle.tone_sound.specs.Answers.{Finds, PatternsPast, PatternsStand, FrontAt, Starts, SongPast, ToneFrom, octets_behind, octets_or_none}
use Rattle.tone_sound.proofs.Dues.{element_read, element_seen}
use Rattle.tone_sound.proofs.Bodies.{some_none, nowhere, not_there}
use Rattle.tone_sound.proofs.Counts.{some_octets}
use Rattle.tone_sound.proofs.Rows.{first_of}

-- ---- the end

-- an end that was read: filler, and the octet behind it
module _ (m : List ℕ) (at : ℕ) where
  record Ended (p : ℕ) : Type 0 where
    filler : ℕ
    fills : element (filler_to at) (eqb 0) 8 (bits_of m) at ≡ got filler (at + filler_to at)
    last : ℕ
    ends : element 8 (eqb 0) 9 (bits_of m) (at + filler_to at) ≡ got last p

  -- it can be taken apart so
  end_read : {v p : ℕ} → ending (bits_of m) at ≡ got v p → Ended p
  unfolding ending
  end_read {v} {p} d =
      let l = bits_of m in
      let a = onward_got (element (filler_to at) (eqb 0) 8 l at) (λ _ q. element 8 (eqb 0) 9 l q) d in
      let b = element_read (filler_to at) (eqb 0) 8 l at a.2 in
      record {
        filler = a.0;
        fills = subst (λ (q : ℕ). element (filler_to at) (eqb 0) 8 l at ≡ got a.0 q) b.2 a.2;
        last = v;
        ends = subst (λ (q : ℕ). element 8 (eqb 0) 9 l q ≡ got v p) b.2 a.3;
      }

  -- no end was read
  no_end : ((v p : ℕ) → ending (bits_of m) at ≡ got v p → ⊥) → None ≡ octets_behind (ending (bits_of m) at)
  no_end n = go (ending (bits_of m) at) refl
    where
      go : (x : Got ℕ) → ending (bits_of m) at ≡ x → None ≡ octets_behind x
      go (got v p) e = absurd (n v p e)
      go (bad k p q) e = refl

  module _ {y : ℕ} (ey : y ≡ octets_to at) where
    -- the end octet is not there
    pub end_cut : length m ≤ y → None ≡ octets_behind (ending (bits_of m) at)
    end_cut h = no_end (λ v p d.
        let g = element_read 8 (eqb 0) 9 (bits_of m) (at + filler_to at) (end_read d).ends in
        omega (arith, ey, h, g.0, length_bits_of m))

    -- a sight through it
    module _ {x z : ℕ} (s : Sight (filler_to at + 8) (drop at (bits_of m)) x) (ez : z ≡ place_after y) where
      -- the filler, as the code has it
      filler_is : z - at ≡ filler_to at
      filler_is = ap (λ (k : ℕ). k - at) (ez ∙ ap (λ (k : ℕ). 8 * k) ey)

      -- what is not 0 there is no end
      pub end_other : (x / 2 ^ (56 - (z - at)) ≡ 0 → ⊥) → None ≡ octets_behind (ending (bits_of m) at)
      end_other n = no_end (λ v p d.
          let a = end_read d in
          let k = filler_to at in
          let b = element_seen m at s at 0 k (eqb 0) 8 (omega arith) (omega arith) a.fills in
          let c = element_seen m at s (at + k) k 8 (eqb 0) 9 refl (omega arith) a.ends in
          let j = 56 - k in
          let u : 64 - (k + 8) ≡ j = omega arith in
          let w : 64 - (0 + k) ≡ j + 8 = omega arith in
          let q : k + (j + 8) ≡ 64 = omega arith in
          let low : x / 2 ^ j % 256 ≡ 0 = ap (λ (i : ℕ). x / 2 ^ i % 256) (sym u) ∙ sym c.1 ∙ sym (eqb-true 0 a.last c.3) in
          let top : x / 2 ^ (j + 8) ≡ 0 =
          sym (shr_mod k (j + 8) (rw q s.small)) ∙ ap (λ (i : ℕ). x / 2 ^ i % 2 ^ k) (sym w) ∙ sym b.1 ∙ sym (eqb-true 0 a.filler b.3) in
          let high : x / 2 ^ j / 256 ≡ 0 = shr-shr x j 8 ∙ top in
          let none : x / 2 ^ j ≡ 0 = omega (arith, low, high) in
          n (ap (λ (i : ℕ). x / 2 ^ (56 - i)) filler_is ∙ none))

      -- what is 0 there is one
      pub end_there : y < length m → x / 2 ^ (56 - (z - at)) ≡ 0 → Some (octet_count (y + 1)) ≡ octets_behind (ending (bits_of m) at)
      end_there h e =
          let d = seen_there (ending (bits_of m) at) (ending_told m at ey h zeros refl {p = place_after (y + 1)} refl) in
          let z : octets_before (place_after (y + 1)) ≡ y + 1 = omega arith in
          rw (d, z) refl
        where
          -- nothing but zeros
          none : (o w : ℕ) → o + w ≤ filler_to at + 8 → x / 2 ^ (64 - (o + w)) ≡ 0
          none o w l =
              let j = 56 - filler_to at in
              let i = 64 - (o + w) - j in
              let u : j + i ≡ 64 - (o + w) = omega arith in
              let v : x / 2 ^ j ≡ 0 = ap (λ (k : ℕ). x / 2 ^ (56 - k)) (sym filler_is) ∙ e in
              ap (λ (k : ℕ). x / 2 ^ k) (sym u) ∙ sym (shr-shr x j i) ∙ ap (λ (k : ℕ). k / 2 ^ i) v ∙ zero-div (2 ^ i)

          -- so 0 is a sight of the same
          zeros : Sight (filler_to at + 8) (drop at (bits_of m)) 0
          zeros = record {
            at = λ o w l k. s.at o w l k ∙ ap (λ (i : ℕ). i % 2 ^ w) (none o w l ∙ sym (zero-div (2 ^ (64 - (o + w)))));
            small = lit< tt;
          }

-- ---- the whole

-- a tone that was read: its front, its patterns and its end
record Whole (m : List ℕ) (start end : ℕ) : Type 0 where
  front : Front
  behind : ℕ
  opens : frontDue (bits_of m) (place_after start) ≡ got front behind
  patterns : List Pattern
  last : ℕ
  reads : patterns_due front.count none_known (bits_of m) behind ≡ got patterns last
  value : ℕ
  closes : ending (bits_of m) last ≡ got value end

module _ (m : List ℕ) (start : ℕ) where
  -- a tone of a front and patterns
  abbrev tone_of : Front → List Pattern → Tone
  tone_of f ps = record { song = f.song; unicode = f.unicode; title = f.title; patterns = ps }

  -- it can be taken apart so
  whole_read : (t : ToneFrom m start) → Whole m start t.end
  unfolding whole_tone rest
  whole_read t =
      let l = bits_of m in
      let a = onward_got (frontDue l (place_after start)) (λ f q. onward (rest f.count l q) (λ ps r. got (tone_of f ps) r) bad) t.reads in
      let f = a.0 in
      let b = onward_made (rest f.count l a.1) (λ ps. tone_of f ps) a.3 in
      let c = onward_got (patterns_due f.count none_known l a.1) (λ ps r. onward (ending l r) (λ _ z. got ps z) bad) b.1 in
      let d = onward_made (ending l c.1) (λ _. c.0) c.3 in
      record { front = f; behind = a.1; opens = a.2; patterns = c.0; last = c.1; reads = c.2; value = d.0; closes = d.1 }

  -- the end octet's bits are left behind its patterns, and those of a header behind its front
  rooms : {end : ℕ} → start ≤ length m → (w : Whole m start end) → (w.last + 8 ≤ 8 * length m) × (w.behind + 25 ≤ 8 * length m)
  rooms h w =
      let l = bits_of m in
      let f = front_exact.sound l (place_after start) (rw (length_bits_of m) (omega arith)) w.opens in
      let e = end_read m w.last w.closes in
      let g = (element_read 8 (eqb 0) 9 l (w.last + filler_to w.last) e.ends).0 in
      let o = first_of m none_known w.behind w.front.count f.good.some w.reads in
      let b = (header_exact all_known).sound l w.behind f.inside o.header in
      let c = (body_exact (o.value % 256)).sound l o.behind b.inside o.body in
      let d = (patterns_exact (w.front.count - 1) _).sound l o.next c.inside o.rest in
      let k = header_wide o.value b.good.small in
      (omega (arith, g, length_bits_of m), omega (arith, g, length_bits_of m, b.end, k, c.end, d.end))

  -- what is found of front and patterns
  abbrev pub SongFound : Option BitPlace → Type 0
  SongFound r = Finds r (λ q. SongPast m start q.0) (ToneFrom m start)

  module _ {at : ℕ} {r : Option Start} (ea : at ≡ place_after start) (f : Starts frontDue m at r) where
    -- no front
    pub song_none : start ≤ length m → r ≡ None → SongFound None
    song_none h e = nowhere (λ t.
        let w = whole_read t in
        let o : frontDue (bits_of m) at ≡ got w.front w.behind = subst (λ (k : ℕ). frontDue (bits_of m) k ≡ got w.front w.behind) (sym ea) w.opens in
        not_there f e (record { front = w.front; end = w.behind; reads = o; room = (rooms h w).1 }))

    module _ {s : Start} (e : r ≡ Some s) where
      -- where patterns start, a front was read
      opened : FrontAt frontDue m at s.at.0 s.count
      opened = f.so s e

      -- they begin within the octets
      pub opened_within : length m < 2 ^ 60 → Within m s.at.0
      opened_within l = record { inside = opened.inside; counted = l }

      -- the front, and the patterns behind it
      pub song_told : {q : Option BitPlace} → start ≤ length m → Finds q (λ v. PatternsPast m s.at.0 s.count v.0) (PatternsStand m s.at.0 s.count) → SongFound q
      song_told h a = record {
        so = λ v y.
            let b = a.so v y in
            record {
              front = opened.front;
              behind = s.at.0;
              opens = here;
              patterns = b.patterns;
              reads = subst (λ (k : ℕ). patterns_due k none_known (bits_of m) s.at.0 ≡ got b.patterns v.0) (sym opened.count) b.reads;
              inside = b.inside;
            };
        back = λ t.
            let w = whole_read t in
            let o = sym w.opens ∙ here in
            let c : w.front.count ≡ s.count = ap (λ (x : Front). x.count) (front_same o) ∙ opened.count in
            let u = subst (λ (k : ℕ). patterns_due k none_known (bits_of m) s.at.0 ≡ got w.patterns w.last) c (subst (λ (k : ℕ). patterns_due w.front.count none_known (bits_of m) k ≡ got w.patterns w.last) (place_same o) w.reads) in
            let v = (rooms h w).0 in
            a.back (record { end = w.last; past = record { patterns = w.patterns; reads = u; inside = omega (arith, v) }; room = v });
      }
        where
          here : frontDue (bits_of m) (place_after start) ≡ got opened.front s.at.0
          here = subst (λ (k : ℕ). frontDue (bits_of m) k ≡ got opened.front s.at.0) ea opened.reads

          front_same : {a b : Front} {i j : ℕ} → got a i ≡ got b j → a ≡ b
          front_same e = cc

          place_same : {a b : Front} {i j : ℕ} → got a i ≡ got b j → i ≡ j
          place_same e = cc

  module _ {r : Option BitPlace} (s : SongFound r) where
    -- where front and patterns are not found, no tone starts there
    pub tone_none : r ≡ None → None ≡ octets_or_none (tone_at m start)
    unfolding tone_at
    tone_none h = go (whole_tone (bits_of m) (place_after start)) refl
      where
        go : (x : Got Tone) → whole_tone (bits_of m) (place_after start) ≡ x → None ≡ octets_or_none (octets_read start x)
        go (got t z) e = absurd (not_there s h (record { tone = t; end = z; reads = e }))
        go (bad k p z) e = refl

    module _ {q : BitPlace} (sure : r ≡ Some q) where
      -- where they are found, they were read
      past : SongPast m start q.0
      past = s.so q sure

      -- they end within the octets
      pub song_within : length m < 2 ^ 60 → Within m q.0
      song_within l = record { inside = past.inside; counted = l }

      -- what is read of a tone is what is read of its end
      all_read : whole_tone (bits_of m) (place_after start) ≡ onward (onward (ending (bits_of m) q.0) (λ _ z. got past.patterns z) bad) (λ ps z. got (tone_of past.front ps) z) bad
      unfolding whole_tone rest
      all_read = rw (past.opens, past.reads) refl

      module _ {e : Option OctetCount} (h : e ≡ octets_behind (ending (bits_of m) q.0)) where
        -- none where it does not end
        pub tone_cut : e ≡ None → None ≡ octets_or_none (tone_at m start)
        unfolding tone_at
        tone_cut l = go (ending (bits_of m) q.0) (sym h ∙ l) ∙ sym (ap (λ (x : Got Tone). octets_or_none (octets_read start x)) all_read)
          where
            go : (x : Got ℕ) → octets_behind x ≡ None → None ≡ octets_or_none (octets_read start (onward (onward x (λ _ z. got past.patterns z) bad) (λ ps z. got (tone_of past.front ps) z) bad))
            go (got v z) n = some_none (sym n)
            go (bad k p z) n = refl

        module _ {o : OctetCount} (l : e ≡ Some o) where
          -- it has as many octets as lie ahead of its end and behind its start
          octets_there : o.0 - start ≡ tone_at m start
          unfolding tone_at
          octets_there = go (ending (bits_of m) q.0) (sym h ∙ l) ∙ sym (ap (octets_read start) all_read)
            where
              go : (x : Got ℕ) → octets_behind x ≡ Some o → o.0 - start ≡ octets_read start (onward (onward x (λ _ z. got past.patterns z) bad) (λ ps z. got (tone_of past.front ps) z) bad)
              go (got v z) n = let y : octet_count (octets_before z) ≡ o = cc in rw (← y) refl
              go (bad k p z) n = some_none n

          -- its end lies behind its start
          pub tone_ends : start ≤ length m → start < o.0
          tone_ends i =
              let l' = bits_of m in
              let f = front_exact.sound l' (place_after start) (rw (length_bits_of m) (omega arith)) past.opens in
              let d = (patterns_exact past.front.count none_known).sound l' past.behind f.inside past.reads in
              go (ending l' q.0) refl (sym h ∙ l) (omega (arith, f.end, d.end))
            where
              go : (x : Got ℕ) → ending (bits_of m) q.0 ≡ x → octets_behind x ≡ Some o → 8 * start ≤ q.0 → start < o.0
              go (got v z) a n b =
                  let y : octet_count (octets_before z) ≡ o = cc in
                  let c = element_read 8 (eqb 0) 9 (bits_of m) (q.0 + filler_to q.0) (end_read m q.0 a).ends in
                  rw (← y) (omega (arith, c.2, b))
              go (bad k p z) a n b = some_none n

          -- so there are some
          pub tone_there : start ≤ length m → Some (octet_count (o.0 - start)) ≡ octets_or_none (tone_at m start)
          tone_there i = let z = tone_ends i in some_octets (o.0 - start) (omega (arith, z)) ∙ ap octets_or_none octets_there

pub ruleset ended = (end_cut, end_other, end_there)

pub ruleset songs = (song_none, opened_within, song_told)

pub ruleset tones = (tone_none, song_within, tone_cut, tone_there, tone_ends)

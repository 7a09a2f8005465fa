-- A tone that starts at an octet of something larger, by its octets.
use Prim.Native.Nat.{ℕ, zero, suc, ◌+◌, ◌-◌, ◌*◌, ◌/◌, ◌≤◌, ◌<◌}
use native.Mathlib.Omega.{arith}
use native.Mathlib.Numerals.{add-one}
use mathlib.Core.Path.{◌≡◌, refl, sym, ap, ap₂, subst, ◌∙◌}
use mathlib.Core.Bool.{Bool, true, false}
use mathlib.Core.List.{List, ◌∷◌, ◌++◌, append_assoc}
use lib.ListN.{length, get_or, take, drop, length-append, length-drop, take-append-drop}
use lib.Seq.{length-take-le, take_at, drop-cons, drop-append-le, take-append-add}
use Rattle.bits.specs.Bits.{bits_of, bits_n, num, place_after}
use Rattle.bits.proofs.Numbers.{length_bits, num_bits, bits_append}
use Rattle.bits.proofs.Octets.{length_bits_of, bits_of_append, drop_bits_of}
use Rattle.tone.specs.Tone.{Tone, Formed}
use Rattle.tone.specs.Writing.{command_length, command_bits, front_bits, song_bits, tone_bits, tone_length}
use Rattle.tone.specs.Reading.{Got, got, bad, octets_read, whole_tone, tone_at}
use Rattle.tone.proofs.Rows.{bits_from, whole_exact}
use Rattle.tone.proofs.Demand2.{length_tone_bits}
use Rattle.tone.proofs.Stretch.{bits_from_octet}
use Rattle.tone.proofs.Largest.{octets_least}

-- a tone of n octets stands at an octet
pub record Stands (m : List ℕ) (s n : ℕ) : Type 0 where
  pub tone : Tone
  pub formed : Formed tone
  pub size : n ≡ tone_length tone
  pub inside : s + n ≤ length m
  pub rest : List Bool
  pub bits : drop (place_after s) (bits_of m) ≡ tone_bits tone ++ rest

module _ (m : List ℕ) (s : ℕ) (h : s ≤ length m) where
  -- a tone that is read there stands there
  pub read_stands : {t : Tone} {p : ℕ} → whole_tone (bits_of m) (place_after s) ≡ got t p → (p ≡ place_after (s + tone_length t)) × Stands m s (tone_length t)
  read_stands {t} {p} q =
      let a = whole_exact.sound (bits_of m) (place_after s) (omega (arith, length_bits_of m)) q in
      let b = bits_from_octet s t in
      let e : p ≡ place_after (s + tone_length t) = omega (arith, a.end, ap length b, length_tone_bits t) in (
        e,
        record {
          tone = t;
          formed = a.good;
          size = refl;
          inside = omega (arith, e, a.inside, length_bits_of m);
          rest = drop p (bits_of m);
          bits = a.here ∙ ap (λ (x : List Bool). x ++ drop p (bits_of m)) b;
        },
      )

  -- and one that stands there is read there
  pub stands_read : {n : ℕ} (k : Stands m s n) → whole_tone (bits_of m) (place_after s) ≡ got k.tone (place_after (s + n))
  stands_read {n} k =
      let t = k.tone in
      let b = bits_from_octet s t in
      let e : place_after s + length (bits_from (place_after s) t) ≡ place_after (s + n) = omega (arith, ap length b, length_tone_bits t, k.size) in
      whole_exact.complete (bits_of m) (place_after s) t k.rest (omega (arith, length_bits_of m)) k.formed (k.bits ∙ ap (λ (x : List Bool). x ++ k.rest) (sym b))
      ∙ ap (λ (x : ℕ). got t x) e

  -- it has the octets that were read
  pub stands_at : {n : ℕ} → Stands m s n → tone_at m s ≡ n
  unfolding tone_at
  stands_at {n} k = rw (stands_read k) (omega arith)

  -- where octets were read, a tone stands
  pub at_stands : 1 ≤ tone_at m s → Stands m s (tone_at m s)
  unfolding tone_at
  at_stands l = go (whole_tone (bits_of m) (place_after s)) refl l
    where
      go : (g : Got Tone) → whole_tone (bits_of m) (place_after s) ≡ g → 1 ≤ octets_read s g → Stands m s (octets_read s g)
      go (got t p) q l = let a = read_stands q in let e : tone_length t ≡ p / 8 - s = omega (arith, a.0) in subst (Stands m s) e a.1
      go (bad n p e) q l = absurd (omega arith)

  -- it ends within the octets
  pub at_inside : s + tone_at m s ≤ length m
  at_inside = go (tone_at m s) refl
    where
      go : (n : ℕ) → tone_at m s ≡ n → s + n ≤ length m
      go zero e = omega arith
      go (suc n) e = subst (λ (x : ℕ). s + x ≤ length m) e (at_stands (rw e (omega arith))).inside

-- ---- a front of the octets

module _ (m : List ℕ) (s e : ℕ) (h : s ≤ e) (k : e ≤ length m) where
  -- the bits from the octet on: those of the front, and those behind it
  front_bits_lem : drop (place_after s) (bits_of m) ≡ drop (place_after s) (bits_of (take e m)) ++ bits_of (drop e m)
  front_bits_lem =
      let l : place_after s ≤ length (bits_of (take e m)) = omega (arith, length_bits_of (take e m), length-take-le e m k) in
      ap (λ (x : List ℕ). drop (place_after s) (bits_of x)) (sym (take-append-drop e m))
      ∙ ap (drop (place_after s)) (bits_of_append (take e m) (drop e m))
      ∙ drop-append-le (place_after s) (bits_of (take e m)) (bits_of (drop e m)) l

  -- what stands in a front stands in all
  pub stands_longer : {n : ℕ} → Stands (take e m) s n → Stands m s n
  stands_longer {n} a = record {
    tone = a.tone;
    formed = a.formed;
    size = a.size;
    inside = omega (arith, a.inside, length-take-le e m k);
    rest = a.rest ++ bits_of (drop e m);
    bits = front_bits_lem ∙ ap (λ (x : List Bool). x ++ bits_of (drop e m)) a.bits ∙ append_assoc (tone_bits a.tone) a.rest (bits_of (drop e m));
  }

  -- what stands in all and ends in a front stands in the front
  pub stands_shorter : {n : ℕ} → Stands m s n → s + n ≤ e → Stands (take e m) s n
  stands_shorter {n} a l =
      let own = drop (place_after s) (bits_of (take e m)) in
      let t = tone_bits a.tone in
      let w : length own ≡ length t + (8 * (e - s) - length t) =
      omega (arith, length-drop (place_after s) (bits_of (take e m)), length_bits_of (take e m), length-take-le e m k, length_tone_bits a.tone, a.size) in
      record {
        tone = a.tone;
        formed = a.formed;
        size = a.size;
        inside = omega (arith, l, length-take-le e m k);
        rest = take (8 * (e - s) - length t) a.rest;
        bits = sym (take_at own (bits_of (drop e m)) (length t + (8 * (e - s) - length t)) w)
            ∙ ap (take (length t + (8 * (e - s) - length t))) (sym front_bits_lem ∙ a.bits)
            ∙ take-append-add t a.rest (8 * (e - s) - length t);
      }

  -- so looking at a front alone tells the tones that end in it, and no others
  pub front_tone : s + tone_at m s ≤ e → tone_at (take e m) s ≡ tone_at m s
  front_tone l = go (tone_at m s) refl (tone_at (take e m) s) refl
    where
      i : s ≤ length (take e m)
      i = omega (arith, length-take-le e m k)

      go : (n : ℕ) → tone_at m s ≡ n → (j : ℕ) → tone_at (take e m) s ≡ j → tone_at (take e m) s ≡ tone_at m s
      go zero q zero r = r ∙ sym q
      go zero q (suc j) r =
          let a = stands_at m s (omega arith) (stands_longer (at_stands (take e m) s i (rw r (omega arith)))) in
          absurd (omega (arith, a, q, r))
      go (suc n) q j r = stands_at (take e m) s i (stands_shorter (at_stands m s (omega arith) (rw q (omega arith))) l)

  pub front_none : e < s + tone_at m s → tone_at (take e m) s ≡ 0
  front_none l = go (tone_at (take e m) s) refl
    where
      i : s ≤ length (take e m)
      i = omega (arith, length-take-le e m k)

      go : (j : ℕ) → tone_at (take e m) s ≡ j → tone_at (take e m) s ≡ 0
      go zero r = r
      go (suc j) r =
          let b = at_stands (take e m) s i (rw r (omega arith)) in
          let a = stands_at m s (omega arith) (stands_longer b) in
          absurd (omega (arith, a, b.inside, length-take-le e m k))

-- ---- what lies ahead does not matter

module _ (m m' : List ℕ) (s s' : ℕ) (h : s ≤ length m) (h' : s' ≤ length m') (same : drop s m ≡ drop s' m') where
  -- what stands at an octet stands wherever the same octets follow
  stands_moved : {n : ℕ} → Stands m s n → Stands m' s' n
  stands_moved {n} a = record {
    tone = a.tone;
    formed = a.formed;
    size = a.size;
    inside = omega (arith, a.inside, length-drop s m, length-drop s' m', ap length same);
    rest = a.rest;
    bits = drop_bits_of s' m' ∙ ap bits_of (sym same) ∙ sym (drop_bits_of s m) ∙ a.bits;
  }

-- so a tone is told by the octets from its own first on
pub same_behind : (m m' : List ℕ) (s s' : ℕ) → s ≤ length m → s' ≤ length m' → drop s m ≡ drop s' m' → tone_at m s ≡ tone_at m' s'
same_behind m m' s s' h h' e = go (tone_at m s) refl (tone_at m' s') refl
  where
    go : (n : ℕ) → tone_at m s ≡ n → (k : ℕ) → tone_at m' s' ≡ k → tone_at m s ≡ tone_at m' s'
    go zero q zero r = q ∙ sym r
    go zero q (suc k) r = stands_at m s h (stands_moved m' m s' s h' h (sym e) (at_stands m' s' h' (rw r (omega arith))))
    go (suc n) q k r = sym (stands_at m' s' h' (stands_moved m m' s s' h h' e (at_stands m s h (rw q (omega arith)))))

-- ---- how a tone begins, and how short it can be

-- the first two octets of a tone's bits: 2 or 3, and 74
first_bits : (t : Tone) (rest : List Bool) (u : Bool) → t.unicode ≡ u → take 16 (tone_bits t ++ rest) ≡ bits_n 16 (command_length u * 256 + 74)
unfolding tone_bits song_bits front_bits command_bits bits_n
first_bits t rest true e = rw e refl
first_bits t rest false e = rw e refl

two_or_three : (u : Bool) → (2 ≤ command_length u) × (command_length u ≤ 3)
two_or_three true = (omega arith, omega arith)
two_or_three false = (omega arith, omega arith)

-- a tone begins with 02 4A or with 03 4A
pub stands_begins : (m : List ℕ) (s : ℕ) {n x y : ℕ} → Stands m s n → (x ≡ get_or m s 0) × (x < 256) → (y ≡ get_or m (s + 1) 0) × (y < 256) → s + 2 ≤ length m → (2 ≤ x) × (x ≤ 3) × (y ≡ 74)
stands_begins m s {n} {x} {y} a ex ey l =
    let t = a.tone in
    let rest = bits_of (drop (suc (suc s)) m) in
    let d : drop s m ≡ x ∷ y ∷ drop (suc (suc s)) m =
    drop-cons m s 0 (omega arith) ∙ ap (λ (r : List ℕ). get_or m s 0 ∷ r) (drop-cons m (suc s) 0 (omega arith))
    ∙ ap₂ (λ (b c : ℕ). b ∷ c ∷ drop (suc (suc s)) m) (sym ex.0) (ap (λ (k : ℕ). get_or m k 0) (sym (add-one s)) ∙ sym ey.0) in
    let w : bits_n 8 x ++ (bits_n 8 y ++ rest) ≡ tone_bits t ++ a.rest = ap bits_of (sym d) ∙ sym (drop_bits_of s m) ∙ a.bits in
    let v : bits_n 16 (x * 256 + y) ≡ bits_n 16 (command_length t.unicode * 256 + 74) =
    bits_append 8 x 8 y ex.1 ey.1
    ∙ sym (take_at (bits_n 8 x ++ bits_n 8 y) rest 16 (length-append (bits_n 8 x) (bits_n 8 y) ∙ omega (arith, length_bits 8 x, length_bits 8 y)))
    ∙ ap (take 16) (append_assoc (bits_n 8 x) (bits_n 8 y) rest ∙ w)
    ∙ first_bits t a.rest t.unicode refl in
    let c = two_or_three t.unicode in
    let z : x * 256 + y ≡ command_length t.unicode * 256 + 74 =
    sym (num_bits 16 (x * 256 + y) (omega (arith, ex.1, ey.1))) ∙ ap num v ∙ num_bits 16 (command_length t.unicode * 256 + 74) (omega (arith, c.1)) in
    (omega (arith, z, c, ey.1), omega (arith, z, c, ey.1), omega (arith, z, c, ey.1))

-- and has at least eight octets
pub at_least : (m : List ℕ) (s : ℕ) → s ≤ length m → 1 ≤ tone_at m s → 8 ≤ tone_at m s
at_least m s h l = let a = at_stands m s h l in rw a.size (octets_least a.tone a.formed)

-- What stands ahead of a bitmap, put piece by piece to the front of a buffer.
use Prim.Native.Nat.{ℕ, suc, ◌+◌, ◌-◌, ◌≤◌, ◌<◌}
use native.Mathlib.Omega.{arith}
use mathlib.Core.Path.{◌≡◌, refl, sym, ap, subst, ◌∙◌}
use mathlib.Core.Bool.{true}
use mathlib.Core.List.{List, [], ◌∷◌, ◌++◌, append_assoc, append-nil}
use lib.ListN.{length, take, drop, set, length-append, length-set, length-drop, drop_of_length-le}
use lib.Seq.{take_at, drop-append-add, drop-drop, set_split, append_snoc}
use mir.Val.{Fits}
use mir.Syntax.{w64}
use Rattle.bits.specs.Lent.{over}
use Rattle.bits.proofs.Octets.{rest}
use Rattle.bitmap_ahead.specs.declared.Kind.{Kind}
use Rattle.bitmap_ahead.specs.declared.Kind.TheVariants.{Icon, Logo}
use Rattle.bitmap_ahead.specs.Ahead.{Ahead, said, WellFormed, ahead_octets, taken}
use Rattle.bitmap_ahead.proofs.Dates.{date_short}
use Rattle.bitmap_ahead.proofs.Rules.{taken_formed}

-- ---- pieces, one behind the other

-- a buffer keeps its length where there is room for its new front
pub over_long : (new old : List ℕ) → length new ≤ length old → length (over new old) ≡ length old
over_long new old h = simp (length-append, length-drop) (omega arith)

-- one piece more
pub more : (pre src old : List ℕ) {x : List ℕ} {at : ℕ} → x ≡ over pre old → at ≡ length pre
    → take at x ++ src ++ drop (at + length src) x ≡ over (pre ++ src) old
more pre src old {x} {at} e h =
    let t : take at (over pre old) ≡ pre = rw h (take_at pre (drop (length pre) old) (length pre) refl) in
    let d : drop (at + length src) (over pre old) ≡ drop (length pre + length src) old =
    rw h (drop-append-add pre (drop (length pre) old) (length src) ∙ drop-drop (length src) (length pre) old) in
    rw (e, t, d, length-append pre src) refl

-- one octet more
pub one_more : (pre : List ℕ) (c : ℕ) (old : List ℕ) {x : List ℕ} {at : ℕ} → x ≡ over pre old → at ≡ length pre → length pre < length old
    → set x at c ≡ over (pre ++ c ∷ []) old
one_more pre c old {x} {at} e h l =
    let n : length x ≡ length old = ap length e ∙ over_long pre old (omega arith) in
    let k : at + length (c ∷ []) ≡ suc at = omega arith in
    set_split x at c (omega arith)
    ∙ sym (append_snoc (take at x) c (drop (suc at) x))
    ∙ ap (λ (i : ℕ). take at x ++ c ∷ [] ++ drop i x) (sym k)
    ∙ more pre (c ∷ []) old e h

-- ---- `put_at`

-- what copying to a place leaves
pub pasted : (src out : List ℕ) (at : ℕ) {x : List ℕ} → at + length src ≤ length out
    → x ≡ src ++ drop (length src) (take (length out - at) (drop at out))
    → take at out ++ (x ++ drop (length out - at) (drop at out)) ≡ take at out ++ src ++ drop (at + length src) out
pasted src out at {x} l e =
    let n : length (drop at out) ≡ length out - at = length-drop at out in
    let z : drop (length out - at) (drop at out) ≡ [] = drop_of_length-le (drop at out) {i = length out - at} (omega arith) in
    let f : x ≡ src ++ drop (length src) (drop at out) = e ∙ ap (λ (d : List ℕ). src ++ drop (length src) d) (rest at out) in
    rw (z, append-nil x, f, drop-drop (length src) at out, ← append_assoc (take at out) src (drop (at + length src) out)) refl

-- ---- `put_codes`

module _ (mcc mnc out : List ℕ) (sum : length mcc + length mnc + 1 ≤ length out) where
  first : set out 0 0x30 ≡ over (0x30 ∷ []) out
  first = one_more [] 0x30 out {x = out} {at = 0} refl refl (omega (arith, sum))

  pub room_mcc : 1 + length mcc ≤ length (set out 0 0x30)
  room_mcc = simp length-set (omega (arith, sum))

  module _ {x : List ℕ} (e : x ≡ take 1 (set out 0 0x30) ++ mcc ++ drop (1 + length mcc) (set out 0 0x30)) where
    second : x ≡ over (0x30 ∷ mcc) out
    second = e ∙ more (0x30 ∷ []) mcc out first refl

    pub room_mnc : length mcc + 1 + length mnc ≤ length x
    room_mnc = omega (arith, sum, ap length second ∙ over_long (0x30 ∷ mcc) out (omega (arith, sum)))

    module _ {y : List ℕ} (f : y ≡ take (length mcc + 1) x ++ mnc ++ drop (length mcc + 1 + length mnc) x) where
      pub codes_put : y ≡ over (0x30 ∷ mcc ++ mnc) out
      codes_put = f ∙ more (0x30 ∷ mcc) mnc out {at = length mcc + 1} second (omega arith)

      pub codes_kept : length y ≡ length out
      codes_kept = ap length codes_put ∙ over_long (0x30 ∷ mcc ++ mnc) out (simp length-append (omega (arith, sum)))

pub ruleset codes = (room_mcc, room_mnc, codes_put, codes_kept)

-- ---- `put_logo`

module _ (mcc mnc date out : List ℕ) (sum : length mcc + length mnc + length date + 2 ≤ length out) {x : List ℕ} (e : x ≡ over (0x30 ∷ mcc ++ mnc) out) where
  codes_long : length (0x30 ∷ mcc ++ mnc) ≡ length mcc + length mnc + 1
  codes_long = simp length-append (omega arith)

  date_long : length (0x30 ∷ mcc ++ mnc ++ date) ≡ length mcc + length mnc + 1 + length date
  date_long = simp length-append (omega arith)

  pub room_date : length mcc + length mnc + 1 + length date ≤ length x
  room_date = omega (arith, sum, ap length e ∙ over_long (0x30 ∷ mcc ++ mnc) out (omega (arith, sum, codes_long)))

  module _ {z : List ℕ} (g : z ≡ take (length mcc + length mnc + 1) x ++ date ++ drop (length mcc + length mnc + 1 + length date) x) where
    dated : z ≡ over (0x30 ∷ mcc ++ mnc ++ date) out
    dated = g ∙ more (0x30 ∷ mcc ++ mnc) date out e (sym codes_long)

    dated_long : length z ≡ length out
    dated_long = ap length dated ∙ over_long (0x30 ∷ mcc ++ mnc ++ date) out (omega (arith, sum, date_long))

    pub room_line : length mcc + length mnc + 1 + length date < length z
    room_line = omega (arith, sum, dated_long)

    pub logo_kept : length (set z (length mcc + length mnc + 1 + length date) 0x0A) ≡ length out
    logo_kept = simp length-set dated_long

    pub logo_put : set z (length mcc + length mnc + 1 + length date) 0x0A ≡ over (ahead_octets Logo (said mcc mnc date)) out
    logo_put = one_more (0x30 ∷ mcc ++ mnc ++ date) 0x0A out dated (sym date_long) (omega (arith, sum, date_long))

pub ruleset logos = (room_date, room_line, logo_kept, logo_put)

-- ---- `octets`

module _ (mcc mnc date : List ℕ) {kind : Kind} (h : kind ≡ Logo) (t : taken kind (said mcc mnc date) ≡ true) where
  formed : WellFormed Logo (said mcc mnc date)
  formed = taken_formed Logo (said mcc mnc date) (ap (λ (x : Kind). taken x (said mcc mnc date)) (sym h) ∙ t)

  long : length mcc + length mnc + length date ≤ 21
  long = omega (arith, formed.0.count, formed.1.count, date_short formed.2)

  pub sum_fits : Fits w64 (length mcc + length mnc + length date)
  sum_fits = omega (arith, long)

  pub octets_fit : Fits w64 (length mcc + length mnc + length date + 2)
  octets_fit = omega (arith, long)

  pub octets_most : length mcc + length mnc + length date + 2 ≤ 23
  octets_most = omega (arith, long)

pub octets_are : (mcc mnc date : List ℕ) → length mcc + length mnc + length date + 2 ≡ length (ahead_octets Logo (said mcc mnc date))
octets_are mcc mnc date = simp length-append (omega arith)

-- what one kind has ahead, the kind has that is this one
pub octets_at : (a : Ahead) {kind k : Kind} {n : ℕ} → kind ≡ k → n ≡ length (ahead_octets k a) → n ≡ length (ahead_octets kind a)
octets_at a h e = e ∙ ap (λ (x : Kind). length (ahead_octets x a)) (sym h)

pub ruleset sums = (sum_fits, octets_fit, octets_most, octets_are, octets_at)

-- ---- `put`

pub icon_room_lem : (a : Ahead) (out : List ℕ) {kind : Kind} → kind ≡ Icon → length (ahead_octets kind a) ≤ length out → 0 < length out
icon_room_lem a out h l = subst (λ (x : Kind). length (ahead_octets x a) ≤ length out) h l

pub icon_put : (a : Ahead) (out : List ℕ) {kind : Kind} → kind ≡ Icon → length (ahead_octets kind a) ≤ length out → set out 0 0x30 ≡ over (ahead_octets Icon a) out
icon_put a out h l = one_more [] 0x30 out {x = out} {at = 0} refl refl (icon_room_lem a out h l)

pub logo_room_lem : (mcc mnc date out : List ℕ) {kind : Kind} → kind ≡ Logo → length (ahead_octets kind (said mcc mnc date)) ≤ length out
    → length mcc + length mnc + length date + 2 ≤ length out
logo_room_lem mcc mnc date out h l =
    let k : length (ahead_octets Logo (said mcc mnc date)) ≤ length out = subst (λ (x : Kind). length (ahead_octets x (said mcc mnc date)) ≤ length out) h l in
    omega (arith, simp length-append at k)

-- what one kind leaves, the kind leaves that is this one
pub put_as : (a : Ahead) (out : List ℕ) {new : List ℕ} {kind k : Kind} → kind ≡ k → new ≡ over (ahead_octets k a) out → new ≡ over (ahead_octets kind a) out
put_as a out h e = e ∙ ap (λ (x : Kind). over (ahead_octets x a) out) (sym h)

pub ruleset puts = (icon_room_lem, icon_put, logo_room_lem, put_as)

-- A body is gone over in stretches, of which each is surely of instructions of the table.
use Prim.Native.Nat.{ℕ, ◌+◌, ◌-◌, ◌*◌, ◌/◌, ◌%◌, ◌^◌, ◌≤◌, ◌<◌}
use native.Mathlib.Omega.{arith}
use mathlib.Core.Path.{◌≡◌, refl, sym, subst, ◌∙◌}
use mathlib.Core.Bool.{Bool, true, false, not}
use mathlib.Core.List.{List, [], ◌++◌}
use lib.ListN.{length, drop}
use lib.Seq.{drop-drop}
use mir.Val.{Fits}
use mir.Syntax.{w64}
use Rattle.std.specs.Prelude.{Option, Some, None}
use Rattle.bits.specs.Bits.{bits_of}
use Rattle.bits.specs.declared.BitPlace.{BitPlace}
use Rattle.bits.specs.Window.{Sight, Sights}
use Rattle.bits.proofs.Looking.{length_left_lem, sights_joined}
use Rattle.bits.proofs.Octets.{length_bits_of}
use Rattle.tone.specs.Reading.{got, bad, onward, body_due}
use Rattle.tone.proofs.Rows.{body_exact}
use Rattle.tone_elements.specs.Answers.{Within}
use Rattle.tone_elements.proofs.Steps.{onward_got, onward_made}
use Rattle.tone_elements.proofs.Walks.{stays, body_more}
use Rattle.tone_sound.specs.declared.Told.{Told}
use Rattle.tone_sound.specs.Turning.{turn, clear, Mark, width_in, along, AllClear}
use Rattle.tone_sound.specs.declared.Way.{Way}
use Rattle.tone_sound.specs.Answers.{Finds, ToldOf, Past, Stand, Gone}
use Rattle.tone_sound.proofs.Walking.{body_none, clear_most, past_told, past_clear}

-- ---- found or not

-- something is not nothing
pub some_none : {A : Type 0} {v : A} {P : Type 0} → None ≡ Some v → P
some_none e = let z : ◌≡◌ {A = ℕ} 0 1 = cc in absurd (omega (arith, z))

pub surely : {A : Type 0} {v : A} {P : A → Type 0} {Q : Type 0} → P v → Finds (Some v) P Q
surely {v = v} {P = P} p = record { so = λ w e. let z : v ≡ w = cc in subst P z p; back = λ _. (v, refl) }

pub nowhere : {A : Type 0} {P : A → Type 0} {Q : Type 0} → (Q → ⊥) → Finds None P Q
nowhere n = record { so = λ w e. some_none e; back = λ q. absurd (n q) }

-- what was not found is not there
pub not_there : {A : Type 0} {r : Option A} {P : A → Type 0} {Q : Type 0} → Finds r P Q → r ≡ None → Q → ⊥
not_there s e q = let b = s.back q in some_none (sym e ∙ b.1)

-- what is not so passes no test
pub nothing_sure : (b : Bool) {P : Type 0} → not b ≡ true → b ≡ true → P
nothing_sure true e h = let z : ◌≡◌ {A = ℕ} 0 1 = cc in absurd (omega (arith, z))
nothing_sure false e h = let z : ◌≡◌ {A = ℕ} 0 1 = cc in absurd (omega (arith, z))

-- where the code did not turn back, it was sure
pub was_sure : (b : Bool) → not b ≡ false → b ≡ true
was_sure true e = refl
was_sure false e = let z : ◌≡◌ {A = ℕ} 0 1 = cc in absurd (omega (arith, z))

-- ---- stretches in a row

pub past_none : (m : List ℕ) (p : ℕ) → p ≤ 8 * length m → Past m p 0 p
past_none m p h = record { body = []; reads = body_none m p; inside = h }

pub past_more : (m : List ℕ) (p j k : ℕ) {q r : ℕ} → Past m p j q → Past m q k r → Past m p (j + k) r
past_more m p j k a b = record {
  body = a.body ++ b.body;
  reads = body_more j k (bits_of m) p ∙ (rw (a.reads, b.reads) refl);
  inside = b.inside;
}

-- what is left of j + k where j were passed
past_rest : (m : List ℕ) (p j k : ℕ) {q r : ℕ} → Past m p j q → Past m p (j + k) r → Past m q k r
past_rest m p j k {q} {r} a b =
    let u : onward (body_due j (bits_of m) p) (λ c t. onward (body_due k (bits_of m) t) (λ d v. got (c ++ d) v) bad) bad ≡ onward (body_due k (bits_of m) q) (λ d v. got (a.body ++ d) v) bad = rw a.reads refl in
    let g = onward_made (body_due k (bits_of m) q) (λ d. a.body ++ d) (sym u ∙ sym (body_more j k (bits_of m) p) ∙ b.reads) in
    record { body = g.0; reads = g.1; inside = b.inside }

-- the first j of j + k
past_first : (m : List ℕ) (p j k : ℕ) {r : ℕ} → p ≤ 8 * length m → Past m p (j + k) r → (q : ℕ) × Past m p j q × (q ≤ r)
past_first m p j k {r} h b =
    let g = onward_got (body_due j (bits_of m) p) (λ c t. onward (body_due k (bits_of m) t) (λ d v. got (c ++ d) v) bad) (sym (body_more j k (bits_of m) p) ∙ b.reads) in
    let q = g.1 in
    let f = onward_made (body_due k (bits_of m) q) (λ d. g.0 ++ d) g.3 in
    let i : q ≤ 8 * length m = stays (body_exact j) m p h g.2 in
    let l = ((body_exact k).sound (bits_of m) q (rw (length_bits_of m) i) f.1).end in
    (q, record { body = g.0; reads = g.2; inside = i }, omega (arith, l))

-- of those that stand the first k do
stand_first : (m : List ℕ) (p n k : ℕ) → k ≤ n → p ≤ 8 * length m → Stand m p n → Stand m p k
stand_first m p n k h i s =
    let z : n ≡ k + (n - k) = omega arith in
    let f = past_first m p k (n - k) i (subst (λ (j : ℕ). Past m p j s.end) z s.past) in
    record { end = f.0; past = f.1; room = omega (arith, f.2, s.room) }

-- and those behind the ones that were passed
stand_rest : (m : List ℕ) (at n : ℕ) {p left : ℕ} → Gone m at n p left → Stand m at n → Stand m p left
stand_rest m at n {p} {left} g s =
    let f = g.fewer in
    let z : n ≡ n - left + left = omega arith in
    record { end = s.end; past = past_rest m at (n - left) left g.past (subst (λ (j : ℕ). Past m at j s.end) z s.past); room = s.room }

module _ (m : List ℕ) (at n : ℕ) where
  pub gone_begins : at ≤ 8 * length m → Gone m at n at n
  gone_begins h = let z : n - n ≡ 0 = omega arith in record { fewer = omega arith; past = rw z (past_none m at h) }

  -- what is found of a body
  abbrev pub BodyFound : Option BitPlace → Type 0
  BodyFound r = Finds r (λ q. Past m at n q.0) (Stand m at n)

  -- k of them more, which are found
  pub gone_on : {p left k : ℕ} {q : BitPlace} {r : Option BitPlace} → Gone m at n p left → k ≤ left → Finds r (λ q. Past m p k q.0) (Stand m p k) → r ≡ Some q → Gone m at n q.0 (left - k)
  gone_on {p} {left} {k} {q} g h s e =
      let f = g.fewer in
      let z : n - left + k ≡ n - (left - k) = omega arith in
      record { fewer = omega arith; past = subst (λ (j : ℕ). Past m at j q.0) z (past_more m at (n - left) k g.past (s.so q e)) }

  -- k of them more, which are not
  pub gone_lost : {p left k : ℕ} {r : Option BitPlace} → Gone m at n p left → k ≤ left → Finds r (λ q. Past m p k q.0) (Stand m p k) → r ≡ None → BodyFound None
  gone_lost {p} {left} {k} g h s e = nowhere (λ u. not_there s e (stand_first m p left k h g.past.inside (stand_rest m at n g u)))

  pub gone_all : {p left : ℕ} → Gone m at n p left → left ≤ 0 → Past m at n p
  gone_all {p} {left} g h = let z : n - left ≡ n = omega arith in subst (λ (j : ℕ). Past m at j p) z g.past

  pub gone_inside : {p left : ℕ} → Gone m at n p left → p ≤ 8 * length m
  gone_inside g = g.past.inside

  -- what is found of the first of them
  abbrev pub WayFound : Option Way → Type 0
  WayFound r = Finds r (λ w. Gone m at n w.at.0 w.left) (Stand m at n)

  -- where nothing is found of them, nothing is found of all
  pub rest_lost : {r : Option Way} → WayFound r → r ≡ None → BodyFound None
  rest_lost s e = nowhere (λ u. not_there s e u)

  -- where something is, the rest follows
  module _ {r : Option Way} {w : Way} (s : WayFound r) (e : r ≡ Some w) where
    there : Gone m at n w.at.0 w.left
    there = s.so w e

    pub rest_within : Within m at → Within m w.at.0
    rest_within i = record { inside = there.past.inside; counted = i.counted }

    pub rest_few : n ≤ 255 → w.left ≤ 255
    rest_few h = omega (arith, there.fewer)

    pub rest_past : {a : Option BitPlace} → Finds a (λ q. Past m w.at.0 w.left q.0) (Stand m w.at.0 w.left) → BodyFound a
    rest_past t = record {
      so = λ q h.
          let f = there.fewer in
          let z : n - w.left + w.left ≡ n = omega arith in
          subst (λ (j : ℕ). Past m at j q.0) z (past_more m at (n - w.left) w.left there.past (t.so q h));
      back = λ u. t.back (stand_rest m at n there u);
    }

-- ---- up to four, from one sight

module _ (m : List ℕ) (at n : ℕ) {x : ℕ} {t : Told} (s : Sight 57 (drop at (bits_of m)) x) (e : ToldOf n x clear t) (h : n ≤ 4) {all : ℕ} (q : all ≡ 8 * length m) (i : at ≤ 8 * length m) where
  -- those that stand are told so
  some_stand : Stand m at n → AllClear n (turn 6 x) × (at + t.widths % 256 + 8 ≤ 8 * length m)
  some_stand u =
      let c = past_clear m n at s (omega arith) (omega arith) i u.past.reads in
      (c.0, omega (arith, c.1, e.widths, u.room))

  -- the end octet is not left behind them
  pub some_cut : all - at < t.widths % 256 + 8 → BodyFound m at n None
  some_cut short = nowhere (λ u. omega (arith, q, i, short, (some_stand u).1))

  -- one of them has a mark
  pub some_marked : (t.marks ≡ clear → ⊥) → BodyFound m at n None
  some_marked l = nowhere (λ u. l (e.unmarked refl (some_stand u).0))

  -- none has
  pub some_told : t.widths % 256 + 8 ≤ all - at → t.marks ≡ clear → Past m at n (at + t.widths % 256)
  some_told room c =
      let a = (e.marks c).1 in
      rw e.widths (past_told m n at s (omega arith) (omega arith) a (omega (arith, q, room, e.widths)))

  pub some_fits : length m < 2 ^ 60 → Fits w64 (at + t.widths % 256)
  some_fits l = record { fits = omega arith }

-- ---- on and on, from two sights at hand

-- all but `left` of n are passed, and two sights at the place are at hand: both where no mark was met, as where all n stand
pub record Going (m : List ℕ) (at n p left met first second : ℕ) : Type 0 where
  pub fewer : left ≤ n
  pub mark : Mark met
  pub room : p + 121 ≤ 8 * length m
  pub past : met ≡ clear → Past m at (n - left) p
  pub seen : met ≡ clear → Sights (drop p (bits_of m)) first second
  pub unmarked : Stand m at n → met ≡ clear

module _ (m : List ℕ) (at n : ℕ) where
  pub going_begins : {first second o : ℕ} → o ≡ at / 8 → 48 ≤ length m - o → Sights (drop at (bits_of m)) first second → Going m at n at n clear first second
  going_begins d h s =
      let z : n - n ≡ 0 = omega arith in
      record {
        fewer = omega arith;
        mark = (omega arith, omega arith);
        room = omega arith;
        past = λ _. rw z (past_none m at (omega arith));
        seen = λ _. s;
        unmarked = λ _. refl;
      }

  module _ {p left met first second : ℕ} (g : Going m at n p left met first second) where
    pub going_mark : Mark met
    going_mark = g.mark

    pub going_inside : p ≤ 8 * length m
    going_inside = omega (arith, g.room)

    pub going_fits : Within m at → (w : ℕ) → Fits w64 (p + w % 256 + 64)
    going_fits i w = record { fits = omega (arith, i.counted, g.room) }

    pub going_gone : {r : Option Way} → Finds r (λ w. (w.at.0 ≡ p) × (w.left ≡ left) × (met ≡ clear)) (met ≡ clear) → WayFound m at n r
    going_gone f = record {
      so = λ w e.
          let c = f.so w e in
          rw (c.0, c.1) (record { fewer = g.fewer; past = g.past c.2 });
      back = λ u. f.back (g.unmarked u);
    }

    -- k of those that stand are told without a mark
    unmarked_on : (k : ℕ) {t : Told} → k ≤ left → k ≤ 4 → ToldOf k first met t → Stand m at n → t.marks ≡ clear
    unmarked_on k h f e u =
        let c = g.unmarked u in
        let r = stand_first m p left k h going_inside (stand_rest m at n (record { fewer = g.fewer; past = g.past c }) u) in
        e.unmarked c (past_clear m k p (g.seen c).front (omega arith) (omega arith) going_inside r.past.reads).0

    -- k of them more, told without a mark
    past_on : (k : ℕ) {t : Told} → k ≤ left → k ≤ 4 → ToldOf k first met t → t.marks ≡ clear → Past m at (n - (left - k)) (p + t.widths % 256) × (t.widths % 256 ≤ 48)
    past_on k {t} h f e c =
        let a = e.marks c in
        let s = g.seen a.0 in
        let l = clear_most k first s.front.small a.1 in
        let q = past_told m k p s.front (omega arith) (omega arith) a.1 (omega (arith, l, g.room)) in
        let z : n - left + k ≡ n - (left - k) = omega (arith, g.fewer) in
        let w = e.widths in
        (rw w (subst (λ (j : ℕ). Past m at j (p + along width_in k (turn 6 first))) z (past_more m at (n - left) k (g.past a.0) q)), omega (arith, w, l))

    -- the last of them
    pub going_ends : {t : Told} {r : Option Way} → left < 4 → ToldOf left first met t
        → Finds r (λ w. (w.at.0 ≡ p + t.widths % 256) × (w.left ≡ 0) × (t.marks ≡ clear)) (t.marks ≡ clear) → WayFound m at n r
    going_ends {t} h e f =
        let z : left - left ≡ 0 = omega arith in
        record {
          so = λ w i.
              let c = f.so w i in
              rw (c.0, c.1) (record { fewer = omega arith; past = subst (λ (j : ℕ). Past m at (n - j) (p + t.widths % 256)) z (past_on left (omega arith) (omega arith) e c.2).0 });
          back = λ u. f.back (unmarked_on left (omega arith) (omega arith) e u);
        }

    -- four more, where 48 octets are there
    module _ {t : Told} {o : ℕ} (d : o ≡ p / 8) (h : 4 ≤ left) (far : 48 ≤ length m - o) (e : ToldOf 4 first met t) where
      pub going_on : {x y : ℕ} → x ≡ first * 2 ^ (t.widths % 64) % 2 ^ 64 + second / 2 ^ (64 - t.widths % 64) → Sight 57 (drop (p + t.widths % 256 + 64) (bits_of m)) y
          → Going m at n (p + t.widths % 256) (left - 4) t.marks x y
      going_on {x} {y} ex s = record {
        fewer = omega (arith, g.fewer);
        mark = e.mark;
        room = omega arith;
        past = λ c. (past_on 4 h (omega arith) e c).0;
        seen = λ c. go (past_on 4 h (omega arith) e c).1 (g.seen (e.marks c).0);
        unmarked = unmarked_on 4 h (omega arith) e;
      }
        where
          k : ℕ
          k = t.widths % 256

          -- the 64 bits are put together from both, and the 57 behind them are new
          go : k ≤ 48 → Sights (drop p (bits_of m)) first second → Sights (drop (p + k) (bits_of m)) x y
          go l v =
              let w : t.widths % 64 ≡ k = omega (arith, l) in
              let f : x ≡ first * 2 ^ k % 2 ^ 64 + second / 2 ^ (64 - k) = subst (λ (j : ℕ). x ≡ first * 2 ^ j % 2 ^ 64 + second / 2 ^ (64 - j)) w ex in
              let long : k ≤ length (drop p (bits_of m)) = rw (length_left_lem m p) (omega (arith, l)) in
              let u : Sight 64 (drop k (drop p (bits_of m))) x = subst (Sight 64 (drop k (drop p (bits_of m)))) (sym f) (v.behind k 64 (omega (arith, l)) (omega arith) (omega (arith, l)) long) in
              sights_joined
              (subst (λ (b : List Bool). Sight 64 b x) (drop-drop k p (bits_of m)) u)
              (subst (λ (b : List Bool). Sight 57 b y) (sym (drop-drop 64 (p + k) (bits_of m))) s)
              (rw (length_left_lem m (p + k)) (omega arith))

pub ruleset going = (surely, gone_begins, going_begins, going_mark, going_inside, going_fits, going_gone, going_ends)

pub ruleset bodies = (surely, gone_begins, gone_all, gone_inside)

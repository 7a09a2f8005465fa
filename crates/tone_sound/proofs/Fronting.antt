-- The front of a tone that was told from a sight stands there.
use Prim.Native.Nat.{ℕ, ◌+◌, ◌-◌, ◌*◌, ◌/◌, ◌%◌, ◌^◌, ◌≤◌, ◌<◌}
use native.Mathlib.Omega.{arith}
use native.Mathlib.Nat.{add-zero}
use mathlib.Core.Path.{◌≡◌, refl, sym, ap, subst, ◌∙◌}
use mathlib.Core.Bool.{Bool, true, false, not, ◌||◌}
use mathlib.Core.List.{List, [], ◌++◌}
use mathlib.Core.Logic.{⊎_elim}
use lib.ListN.{length, drop, length-append}
use lib.Seq.{drop-drop}
use lib.Dec.{leb, eqb, lit≤}
use lib.Pow.{shr-shr}
use borrow.Author.Tests.{le-leb, leb-true, eqb-true}
use Rattle.std.specs.Prelude.{Option, Some, None}
use Rattle.bits.specs.Bits.{bits_n, bits_of, field}
use Rattle.bits.specs.Places.{octet_count}
use Rattle.bits.specs.Window.{Look, Sight}
use Rattle.bits.proofs.Numbers.{length_bits, field_drop}
use Rattle.bits.proofs.Looking.{seen, length_left_lem, sight_on}
use Rattle.bits.proofs.Octets.{length_bits_of}
use Rattle.tone.specs.Tone.{Front, per_character, character_bits}
use Rattle.tone.specs.Writing.{programming, unicode_part, sound, command_bits, title_bits, front_bits}
use Rattle.tone.specs.Reading.{Reader, got, bad, onward, element, filled, whether_unicode, sound_part, parts, command, song_type, text, title, counted, titled, typed, front}
use Rattle.tone.proofs.Exact.{element_good}
use Rattle.tone.proofs.Fronts.{or_true, front_exact}
use Rattle.tone_elements.specs.Answers.{Within, Sure, Complete, AllowedAt}
use Rattle.tone_elements.proofs.Steps.{seen_made, onward_got, onward_made}
use Rattle.tone_elements.proofs.Titles.{text_told}
use Rattle.tone_sound.specs.declared.Command.{Command}
use Rattle.tone_sound.specs.declared.Start.{Start}
use Rattle.tone_sound.specs.Answers.{Finds, CommandOn, CommandSeen, FrontStands, Starts}
use Rattle.tone_sound.proofs.Dues.{element_read, element_seen, Called, command_seen, text_read}
use Rattle.tone_sound.proofs.Bodies.{surely, nowhere, not_there, nothing_sure, was_sure}

-- no patterns, where no front stands
starts_nowhere : {due : Reader Front} {m : List ℕ} {at : ℕ} → (FrontStands due m at → ⊥) → Starts due m at None
starts_nowhere f = nowhere f

-- as many patterns as are announced, if any are
abbrev Announced : Option Start → ℕ → ℕ → Type 0
Announced r at n = Finds r (λ s. (s.at.0 ≡ at) × (s.count ≡ n) × (1 ≤ n)) (1 ≤ n)

-- a character has one octet or two
one_or_two : (u : Bool) → (per_character u ≤ 2) × (1 ≤ per_character u)
one_or_two true = (omega arith, omega arith)
one_or_two false = (omega arith, omega arith)

-- ---- an element in a sight

module _ (m : List ℕ) (at : ℕ) {k x : ℕ} (s : Sight k (drop at (bits_of m)) x) (short : k ≤ 64) (there : at + k ≤ 8 * length m) where
  -- an element of w bits that stands o bits into it, and has an allowed code
  sees : (q o w : ℕ) (fine : ℕ → Bool) (number v : ℕ) → q ≡ at + o → o + w ≤ k → x / 2 ^ (64 - (o + w)) % 2 ^ w ≡ v → fine v ≡ true → element w fine number (bits_of m) q ≡ got v (q + w)
  sees q o w fine number v e h f t =
      let g : field (bits_of m) q w ≡ v = ap (λ (y : ℕ). field (bits_of m) y w) e ∙ sym (field_drop (bits_of m) at o w) ∙ s.at o w h (rw (length_left_lem m at) (omega arith)) ∙ f in
      rw (element_good w fine number (bits_of m) q (rw (length_bits_of m) (omega arith)) (rw g t), g)

-- fewer bits of a sight
sight_less : {k n x : ℕ} {b : List Bool} → Sight k b x → n ≤ k → Sight n b x
sight_less s h = record { at = λ o w l g. s.at o w (omega arith) g; small = s.small }

-- ---- the command

-- the highest bits of those that were told
upper : (x a b : ℕ) {n : ℕ} → x / 2 ^ a ≡ n → x / 2 ^ (a + b) ≡ n / 2 ^ b
upper x a b e = sym (shr-shr x a b) ∙ ap (λ (y : ℕ). y / 2 ^ b) e

-- without UNICODE
plain_on : (x : ℕ) → x / 2 ^ 41 ≡ 75037 → CommandOn x false 23
unfolding command parts filled whether_unicode sound_part
plain_on x h = record {
  short = lit≤ tt;
  reads = λ m at s there.
      let see = sees m at s (lit≤ tt) there in
      let e : at + 8 + 7 + 1 + 7 ≡ at + 23 = omega arith in
      rw (
        see at 0 8 (λ n. eqb n 2 || eqb n 3) 3 2 (omega arith) (lit≤ tt) (ap (λ (y : ℕ). y % 256) (upper x 41 15 h)) refl,
        see (at + 8) 8 7 (eqb programming) 3 37 (omega arith) (lit≤ tt) (ap (λ (y : ℕ). y % 128) (upper x 41 8 h)) refl,
        see (at + 8 + 7) 15 1 (eqb 0) 8 0 (omega arith) (lit≤ tt) (ap (λ (y : ℕ). y % 2) (upper x 41 7 h)) refl,
        see (at + 8 + 7 + 1) 16 7 (eqb sound) 3 29 (omega arith) (lit≤ tt) (ap (λ (y : ℕ). y % 128) h) refl,
        e,
      );
}

-- with UNICODE
unicode_on : (x : ℕ) → x / 2 ^ 33 ≡ 27599389 → CommandOn x true 31
unfolding command parts filled whether_unicode sound_part
unicode_on x h = record {
  short = lit≤ tt;
  reads = λ m at s there.
      let see = sees m at s (lit≤ tt) there in
      let e : at + 8 + 7 + 1 + 7 + 1 + 7 ≡ at + 31 = omega arith in
      rw (
        see at 0 8 (λ n. eqb n 2 || eqb n 3) 3 3 (omega arith) (lit≤ tt) (ap (λ (y : ℕ). y % 256) (upper x 33 23 h)) refl,
        see (at + 8) 8 7 (eqb programming) 3 37 (omega arith) (lit≤ tt) (ap (λ (y : ℕ). y % 128) (upper x 33 16 h)) refl,
        see (at + 8 + 7) 15 1 (eqb 0) 8 0 (omega arith) (lit≤ tt) (ap (λ (y : ℕ). y % 2) (upper x 33 15 h)) refl,
        see (at + 8 + 7 + 1) 16 7 (eqb unicode_part) 3 34 (omega arith) (lit≤ tt) (ap (λ (y : ℕ). y % 128) (upper x 33 8 h)) refl,
        see (at + 8 + 7 + 1 + 7) 23 1 (eqb 0) 8 0 (omega arith) (lit≤ tt) (ap (λ (y : ℕ). y % 2) (upper x 33 7 h)) refl,
        see (at + 8 + 7 + 1 + 7 + 1) 24 7 (eqb sound) 3 29 (omega arith) (lit≤ tt) (ap (λ (y : ℕ). y % 128) h) refl,
        e,
      );
}

-- a command that was read is with UNICODE where it is not without
seen_unicode : (x : ℕ) → (x / 2 ^ 41 ≡ 75037 → ⊥) → CommandSeen x → x / 2 ^ 33 ≡ 27599389
seen_unicode x n c = go c.unicode (command_seen c.octets c.at c.sees c.reads)
  where
    go : (u : Bool) → Called c.octets c.at c.sees u c.end → x / 2 ^ 33 ≡ 27599389
    go true k = k.0
    go false k = absurd (n k.0)

-- what `called` answers of either
pub command_plain : (x : ℕ) → x / 2 ^ 41 ≡ 75037 → CommandOn x false 23
command_plain x h = plain_on x h

pub command_unicode : (x : ℕ) → x / 2 ^ 33 ≡ 27599389 → CommandOn x true 31
command_unicode x h = unicode_on x h

-- what is found of a command
abbrev pub CommandFound : ℕ → Option Command → Type 0
CommandFound x r = Finds r (λ c. CommandOn x c.unicode c.bits) (CommandSeen x)

pub command_none : (x : ℕ) → (x / 2 ^ 41 ≡ 75037 → ⊥) → (x / 2 ^ 33 ≡ 27599389 → ⊥) → CommandFound x None
command_none x n l = nowhere (λ c. l (seen_unicode x n c))

-- ---- what stands behind it

module _ (m : List ℕ) (at : ℕ) (u : Bool) {x : ℕ} (i : Within m at) (s : Sight 26 (drop at (bits_of m)) x) (there : at + 26 ≤ 8 * length m) where
  -- the song type
  song_seen : (song : ℕ) → x / 2 ^ 61 ≡ song → (eqb song 1 || eqb song 2) ≡ true → song_type (bits_of m) at ≡ got song (at + 3)
  song_seen song e t = sees m at s (lit≤ tt) there at 0 3 (λ n. eqb n 1 || eqb n 2) 4 song (omega arith) (lit≤ tt) (omega (arith, s.small, e)) t

  -- a front that stands: its song type, and its title ahead of the pattern count
  module _ (k : FrontStands (typed u) m at) where
    record Apart : Type 0 where
      song : ℕ
      fine : (eqb song 1 || eqb song 2) ≡ true
      seen : x / 2 ^ 61 ≡ song
      octets : List ℕ
      place : ℕ
      titled : title song u (bits_of m) (at + 3) ≡ got octets place
      count : ℕ
      counts : element 8 (leb 1) 5 (bits_of m) place ≡ got count k.end

    -- it can be taken apart so
    apart : Apart
    unfolding typed titled counted
    apart =
        let l = bits_of m in
        let a = onward_got (song_type l at) (λ n q. titled n u l q) k.reads in
        let b = element_seen m at s at 0 3 (λ n. eqb n 1 || eqb n 2) 4 (omega arith) (lit≤ tt) a.2 in
        let c = onward_got (title a.0 u l a.1) (λ t q. counted a.0 u t l q) a.3 in
        let d = onward_made (element 8 (leb 1) 5 l c.1) (λ n. record { song = a.0; unicode = u; title = c.0; count = n }) c.3 in
        record {
          song = a.0;
          fine = b.3;
          seen = omega (arith, s.small, b.1);
          octets = c.0;
          place = c.1;
          titled = subst (λ (q : ℕ). title a.0 u l q ≡ got c.0 c.1) b.2 c.2;
          count = d.0;
          counts = d.1;
        }

    -- a temporary song's count is next
    temporary_counts : x / 2 ^ 61 ≡ 2 → 1 ≤ x / 2 ^ 53 % 256
    unfolding title
    temporary_counts e =
        let a = apart in
        let z : a.song ≡ 2 = sym a.seen ∙ e in
        let t : got [] (at + 3) ≡ got a.octets a.place = rw z at a.titled in
        let y : at + 3 ≡ a.place = cc in
        let c = element_seen m at s a.place 3 8 (leb 1) 5 (sym y) (lit≤ tt) a.counts in
        rw (← c.1) (leb-true 1 a.count c.3)

    -- a basic song's title is there and allowed, and its count is behind it
    basic_counts : x / 2 ^ 61 ≡ 1 → let n = x / 2 ^ 57 % 16 in let q = at + 7 + n * character_bits u in AllowedAt m (at + 7) u n × (q + 8 ≤ 8 * length m) × (1 ≤ field (bits_of m) q 8)
    unfolding title
    basic_counts e =
        let l = bits_of m in
        let a = apart in
        let z : a.song ≡ 1 = sym a.seen ∙ e in
        let t : onward (element 4 (λ _. true) 0 l (at + 3)) (λ n q. text u n l q) bad ≡ got a.octets a.place = rw z at a.titled in
        let b = onward_got (element 4 (λ _. true) 0 l (at + 3)) (λ n q. text u n l q) t in
        let c = element_seen m at s (at + 3) 3 4 (λ _. true) 0 refl (lit≤ tt) b.2 in
        let y : b.1 ≡ at + 7 = omega (arith, c.2) in
        let d : text u (x / 2 ^ 57 % 16) l (at + 7) ≡ got a.octets a.place = subst (λ (n : ℕ). text u n l (at + 7) ≡ got a.octets a.place) c.1 (subst (λ (q : ℕ). text u b.0 l q ≡ got a.octets a.place) y b.3) in
        let f = text_read m u (x / 2 ^ 57 % 16) (at + 7) (omega arith) d in
        let g = element_read 8 (leb 1) 5 l a.place a.counts in
        let h : 1 ≤ field l a.place 8 = rw (← g.1) (leb-true 1 a.count g.3) in
        let i : a.place + 8 ≤ 8 * length m = rw (← length_bits_of m) g.0 in
        (f.0, omega (arith, f.1, i), rw (← f.1) h)

  -- no song type
  pub typed_none : (x / 2 ^ 61 ≡ 2 → ⊥) → (x / 2 ^ 61 ≡ 1 → ⊥) → Starts (typed u) m at None
  typed_none two one = starts_nowhere (λ k.
      let a = apart k in
      ⊎_elim (λ t. one (a.seen ∙ eqb-true a.song 1 t)) (λ t. two (a.seen ∙ eqb-true a.song 2 t)) (or_true (eqb a.song 1) (eqb a.song 2) a.fine))

  -- a title with a character that is not allowed
  pub typed_refused : {n : ℕ} {b : Bool} → x / 2 ^ 61 ≡ 1 → n ≡ x / 2 ^ 57 % 16 → Complete b (AllowedAt m (at + 7) u n) → not b ≡ true → Starts (typed u) m at None
  typed_refused {b = b} e en a h = starts_nowhere (λ k. nothing_sure b h (a.passes (subst (AllowedAt m (at + 7) u) (sym en) (basic_counts k e).0)))

  -- a temporary song: the pattern count is next
  pub typed_temporary : {r : Option Start} → x / 2 ^ 61 ≡ 2 → Announced r (at + 11) (x / 2 ^ 53 % 256) → Starts (typed u) m at r
  unfolding typed titled title counted
  typed_temporary e f = record {
    so = λ s' i.
        let a = f.so s' i in
        let c = x / 2 ^ 53 % 256 in
        let g = sees m at s (lit≤ tt) there (at + 3) 3 8 (leb 1) 5 c (omega arith) (lit≤ tt) refl (le-leb 1 c a.2) in
        let z : at + 3 + 8 ≡ at + 11 = omega arith in
        rw (a.0, a.1) (record { front = record { song = 2; unicode = u; title = []; count = c }; reads = rw (song_seen 2 e refl, g, z) refl; count = refl; some = a.2; inside = omega arith });
    back = λ k. f.back (temporary_counts k e);
  }

  -- a basic song: a title of n characters, and the pattern count behind it
  module _ {b : Bool} {n width end : ℕ} (e : x / 2 ^ 61 ≡ 1) (en : n ≡ x / 2 ^ 57 % 16) (a : Sure b (AllowedAt m (at + 7) u n)) (sure : not b ≡ false) (w : (width ≡ n * character_bits u) × (width ≤ 240))
      (ee : end ≡ 8 * length m) where
    -- the title's characters
    text_seen : (t : List ℕ) × (text u n (bits_of m) (at + 7) ≡ got t (at + 7 + width))
    text_seen =
        let v : Within m (at + 7) = record { inside = omega arith; counted = i.counted } in
        let t = seen_made (λ c. octet_count (length c)) (text u n (bits_of m) (at + 7)) (text_told m (at + 7) u n {o = per_character u} w (refl, (one_or_two u).0, (one_or_two u).1) v a (was_sure b sure)) in
        (t.0, t.1)

    -- no count is behind them
    pub typed_cut : end < at + 7 + width + 8 → Starts (typed u) m at None
    typed_cut h = starts_nowhere (λ k.
        let v = ap (λ (j : ℕ). j * character_bits u) en in
        omega (arith, (basic_counts k e).1, v, w.0, ee, h))

    pub typed_basic : {y : ℕ} {r : Option Start} → at + 7 + width + 8 ≤ end → Look (drop (at + 7 + width) (bits_of m)) y → Announced r (at + 7 + width + 8) (y / 65536) → Starts (typed u) m at r
    unfolding typed titled title counted
    typed_basic {y} room l h = record {
      so = λ s' i'.
          let o = h.so s' i' in
          let c = y / 65536 in
          let q = at + 7 + width in
          let d = sees m at s (lit≤ tt) there (at + 3) 3 4 (λ _. true) 0 n (omega arith) (lit≤ tt) (sym en) refl in
          let z : at + 3 + 4 ≡ at + 7 = omega arith in
          let f : field (bits_of m) q 8 ≡ c = ap (λ (k : ℕ). field (bits_of m) k 8) (sym (add-zero q)) ∙ seen m q 0 8 l (lit≤ tt) (omega (arith, ee, room)) ∙ omega (arith, l.small) in
          let g = element_good 8 (leb 1) 5 (bits_of m) q (rw (length_bits_of m) (omega (arith, ee, room))) (rw f (le-leb 1 c o.2)) in
          rw (o.0, o.1)
          (record { front = record { song = 1; unicode = u; title = text_seen.0; count = c }; reads = rw (song_seen 1 e refl, d, z, text_seen.1, g, f) refl; count = refl; some = o.2; inside = omega (arith, ee, room) });
      back = λ k.
          let q = at + 7 + width in
          let v = ap (λ (j : ℕ). j * character_bits u) en in
          let z : at + 7 + x / 2 ^ 57 % 16 * character_bits u ≡ q = omega (arith, v, w.0) in
          let f : field (bits_of m) q 8 ≡ y / 65536 = ap (λ (k : ℕ). field (bits_of m) k 8) (sym (add-zero q)) ∙ seen m q 0 8 l (lit≤ tt) (omega (arith, ee, room)) ∙ omega (arith, l.small) in
          h.back (rw (← f, ← z) (basic_counts k e).2);
    }

-- ---- the whole front

-- a command has 23 bits or 31
command_long : (u : Bool) → 23 ≤ length (command_bits u)
unfolding command_bits bits_n
command_long true = lit≤ tt
command_long false = lit≤ tt

-- a front has 34 bits or more
front_long : (f : Front) → 34 ≤ length (front_bits f)
unfolding front_bits
front_long f =
    let t = title_bits f.song f.unicode f.title in
    let c = command_bits f.unicode in
    rw (length-append c (bits_n 3 f.song ++ (t ++ bits_n 8 f.count)), length-append (bits_n 3 f.song) (t ++ bits_n 8 f.count), length-append t (bits_n 8 f.count), length_bits 3 f.song, length_bits 8 f.count)
    (omega (arith, command_long f.unicode))

-- so with what follows it 57 are there
pub front_cut : (m : List ℕ) (at : ℕ) {end : ℕ} → at ≤ 8 * length m → end ≡ 8 * length m → end < at + 57 → Starts front m at None
front_cut m at i e h = starts_nowhere (λ f.
    let a = front_exact.sound (bits_of m) at (rw (length_bits_of m) i) f.reads in
    omega (arith, a.end, front_long f.front, f.room, e, h))

-- a sight of which all is there, up to the end of the octets
module _ (m : List ℕ) (at : ℕ) {x end : ℕ} (s : Sight 57 (drop at (bits_of m)) x) (e : end ≡ 8 * length m) (room : at + 57 ≤ end) where
  -- no command
  pub front_none : {r : Option Command} → CommandFound x r → r ≡ None → Starts front m at None
  unfolding front
  front_none k h = starts_nowhere (λ f.
      let a = onward_got (command (bits_of m) at) (λ v q. typed v (bits_of m) q) f.reads in
      not_there k h (record { octets = m; at = at; sees = s; unicode = a.0; end = a.1; reads = a.2 }))

  -- a command, and what stands behind it
  module _ {r : Option Command} {c : Command} (k : CommandFound x r) (h : r ≡ Some c) where
    pub command_short : c.bits ≤ 31
    command_short = (k.so c h).short

    pub behind_seen : Sight 26 (drop (at + c.bits) (bits_of m)) (x * 2 ^ c.bits % 2 ^ 64)
    behind_seen =
        let n = c.bits in
        let l = command_short in
        let t = sight_on {k = n} s (lit≤ tt) (omega arith) (rw (length_left_lem m at) (omega (arith, e, room))) in
        sight_less (subst (λ (l : List Bool). Sight (57 - n) l (x * 2 ^ n % 2 ^ 64)) (drop-drop n at (bits_of m)) t) (omega arith)

    pub behind_there : at + c.bits + 26 ≤ 8 * length m
    behind_there = omega (arith, e, room, command_short)

    pub behind_within : length m < 2 ^ 60 → Within m (at + c.bits)
    behind_within l = record { inside = omega (arith, e, room, command_short); counted = l }

    pub front_starts : {q : Option Start} → Starts (typed c.unicode) m (at + c.bits) q → Starts front m at q
    unfolding front
    front_starts t =
        let o : command (bits_of m) at ≡ got c.unicode (at + c.bits) = (k.so c h).reads m at s (omega (arith, e, room)) in
        record {
          back = λ f.
              let g : typed c.unicode (bits_of m) (at + c.bits) ≡ got f.front f.end = sym (rw o refl) ∙ f.reads in
              t.back (record { front = f.front; end = f.end; reads = g; room = f.room });
          so = λ v i.
              let f = t.so v i in
              record { front = f.front; reads = rw (o, f.reads) refl; count = f.count; some = f.some; inside = f.inside };
        }

pub ruleset fronting = (surely, command_plain, command_unicode, command_none, typed_none, typed_refused, typed_cut, typed_temporary, typed_basic, front_cut, front_none, command_short, behind_seen, behind_there, behind_within, front_starts)

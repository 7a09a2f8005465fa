-- Bits put one after the other.
use Prim.Native.Nat.{ℕ, suc, ◌+◌, ◌-◌, ◌*◌, ◌/◌, ◌%◌, ◌^◌, ◌≤◌, ◌<◌}
use native.Mathlib.Omega.{arith}
use native.Mathlib.Nat.{mod-lt, mod-eq_of_lt, add-zero, lt_of_lt_of_le}
use native.Mathlib.Numerals.{add-one}
use mathlib.Core.Path.{◌≡◌, refl, sym, ap, ◌∙◌}
use mathlib.Core.Bool.{Bool, false}
use mathlib.Core.List.{List, [], ◌∷◌, ◌++◌, append_assoc, append-nil}
use lib.ListN.{replicate, length-set, length, take, drop, set, length-append}
use lib.Seq.{drop-drop, drop_at, take_at, take-suc-set, drop-set-lt, length-take-le, sets-eq}
use lib.Bits.{bit_and}
use lib.Pow.{shl_exact, pow_pos, pow_mono, split, shr_lt, mod-mod-pow, field}
use mir.Val.{Fits}
use mir.Syntax.{w32, w64}
use Rattle.bits.specs.Bits.{num, bits_n, bits_of, octets_to, filler_to}
use Rattle.bits.specs.Sink.{written, InHand, Stored, Put, Sealed}
use Rattle.bits.proofs.Numbers.{bits_num, bits_append, join_lt, shl_one, mask, zero_bits}
use Rattle.bits.proofs.Octets.{bits_of_append, length_bits_of}
use Rattle.bits.proofs.Looking.{num_four}

-- what is the same from a on is so further on
pub drop_further : (a b : ℕ) (x y : List ℕ) → a ≤ b → drop a x ≡ drop a y → drop b x ≡ drop b y
drop_further a b x y h e =
    let k : a + (b - a) ≡ b = omega arith in
    let d : (l : List ℕ) → drop b l ≡ drop (b - a) (drop a l) = λ l. sym (drop-drop (b - a) a l ∙ ap (λ (i : ℕ). drop i l) k) in
    d x ∙ ap (drop (b - a)) e ∙ sym (d y)

-- ---- a word is stored

-- the bits of a word's octets
word_bits : (x : ℕ) → x < 4294967296 → bits_of (x / 16777216 ∷ x / 65536 % 256 ∷ x / 256 % 256 ∷ x % 256 ∷ []) ≡ bits_n 32 x
word_bits x h =
    let a = x / 16777216 in
    let b = x / 65536 % 256 in
    let c = x / 256 % 256 in
    let d = x % 256 in
    let l = a ∷ b ∷ c ∷ d ∷ [] in
    let e : num (bits_of l) ≡ x = num_four a b c d (omega arith) (omega arith) (omega arith) (omega arith) ∙ omega arith in
    sym (rw (length_bits_of l, e) at (bits_num (bits_of l)))

pub stored : (buf : List ℕ) (at x : ℕ) → at + 4 ≤ length buf → x < 4294967296
    → Stored x buf (set (set (set (set buf at (x / 16777216)) (at + 1) (x / 65536 % 256)) (at + 2) (x / 256 % 256)) (at + 3) (x % 256)) at
stored buf at x h l =
    let e₁ : at + 1 ≡ suc at = omega arith in
    let e₂ : at + 2 ≡ suc (suc at) = omega arith in
    let e₃ : at + 3 ≡ suc (suc (suc at)) = omega arith in
    let word = x / 16777216 ∷ x / 65536 % 256 ∷ x / 256 % 256 ∷ x % 256 ∷ [] in
    let front = take at buf ++ word in
    let k : length front ≡ at + 4 = length-append (take at buf) word ∙ ap (λ (n : ℕ). n + 4) (length-take-le at buf (omega arith)) in
    let e : set (set (set (set buf at (x / 16777216)) (at + 1) (x / 65536 % 256)) (at + 2) (x / 256 % 256)) (at + 3) (x % 256) ≡ front ++ drop (at + 4) buf =
    rw (e₁, e₂, e₃) (sets-eq word buf at h) in
    record {
      bits = ap (λ (r : List ℕ). bits_of (take (at + 4) r)) e ∙ ap bits_of (take_at front (drop (at + 4) buf) (at + 4) k) ∙ bits_of_append (take at buf) word
          ∙ ap (λ (r : List Bool). bits_of (take at buf) ++ r) (word_bits x l);
      rest = ap (drop (at + 4)) e ∙ drop_at front (drop (at + 4) buf) (at + 4) k;
    }

-- ---- bits are put

-- a number's bits, the first j and the others
bits_split : (j k x : ℕ) → x < 2 ^ (j + k) → bits_n (j + k) x ≡ bits_n j (x / 2 ^ k) ++ bits_n k (x % 2 ^ k)
bits_split j k x h = ap (bits_n (j + k)) (sym (split x k)) ∙ bits_append j (x / 2 ^ k) k (x % 2 ^ k) (shr_lt j k h) (mod-lt x (pow_pos k))

-- the number in hand with w bits more, as the code computes it
abbrev joined : ℕ → ℕ → ℕ → ℕ
joined acc w v = (acc * 2 ^ w) % 18446744073709551616 + v

module _ (n acc w v : ℕ) (i : InHand n acc) (h : w ≤ 24) (hv : v < 2 ^ w) where
  joined_is : joined acc w v ≡ acc * 2 ^ w + v
  joined_is = ap (λ (x : ℕ). x + v) (shl_exact n w 64 i.small (omega (arith, i.short)))

  joined_lt : joined acc w v < 2 ^ (n + w)
  joined_lt = rw joined_is (join_lt n acc w v i.small hv)

  pub joined_fits : Fits w64 (joined acc w v)
  joined_fits = record { fits = lt_of_lt_of_le joined_lt (pow_mono {j = 64} (omega (arith, i.short))) }

  in_hand : (buf : List ℕ) (at : ℕ) → written buf at (n + w) (joined acc w v) ≡ written buf at n acc ++ bits_n w v
  unfolding written
  in_hand buf at =
      ap (λ (r : List Bool). bits_of (take at buf) ++ r) (ap (bits_n (n + w)) joined_is ∙ bits_append n acc w v i.small hv)
      ∙ sym (append_assoc (bits_of (take at buf)) (bits_n n acc) (bits_n w v))

  -- they stay in hand
  pub held : n + w < 32 → InHand (n + w) (joined acc w v)
  held s = record { short = s; small = joined_lt }

  pub put_held : n + w < 32 → (buf : List ℕ) (at : ℕ) → Put (written buf at n acc) (bits_n w v) (8 * at + n + w) buf buf at (n + w) (joined acc w v)
  put_held s buf at = record { bits = in_hand buf at; place = omega arith; hand = held s; rest = refl }

  -- or a word is handed over, and k bits stay
  module _ (s : 32 ≤ n + w) where
    abbrev k : ℕ
    k = n + w - 32

    longer : joined acc w v < 2 ^ (32 + k)
    longer = let e : n + w ≡ 32 + k = omega arith in rw e at joined_lt

    pub word_fits : Fits w32 (joined acc w v / 2 ^ k)
    word_fits = record { fits = shr_lt 32 k longer }

    pub mask_some : 1 ≤ (1 * 2 ^ k) % 18446744073709551616
    mask_some = rw (shl_one 64 k (omega (arith, i.short))) (pow_pos k)

    pub put_handed : (buf : List ℕ) (at : ℕ) {buf' : List ℕ} → Stored (joined acc w v / 2 ^ k) buf buf' at
        → Put (written buf at n acc) (bits_n w v) (8 * at + n + w) buf buf' (at + 4) k (bit_and (joined acc w v) ((1 * 2 ^ k) % 18446744073709551616 - 1))
    unfolding written
    put_handed buf at {buf'} q =
        let x = joined acc w v in
        let e : 32 + k ≡ n + w = omega arith in
        let m : bit_and x ((1 * 2 ^ k) % 18446744073709551616 - 1) ≡ x % 2 ^ k = (mask 64 x k (omega (arith, i.short))).0 in
        let b : bits_n 32 (x / 2 ^ k) ++ bits_n k (x % 2 ^ k) ≡ bits_n (n + w) x = sym (bits_split 32 k x longer) ∙ ap (λ (l : ℕ). bits_n l x) e in
        rw m (record {
          bits = ap (λ (r : List Bool). r ++ bits_n k (x % 2 ^ k)) q.bits ∙ append_assoc (bits_of (take at buf)) (bits_n 32 (x / 2 ^ k)) (bits_n k (x % 2 ^ k))
              ∙ ap (λ (r : List Bool). bits_of (take at buf) ++ r) b ∙ in_hand buf at;
          place = omega arith;
          hand = record { short = omega (arith, i.short); small = mod-lt x (pow_pos k) };
          rest = drop_further (at + 4) (octets_to (8 * at + n + w)) buf' buf (omega arith) q.rest;
        })

pub ruleset puts = (joined_fits, held, put_held, word_fits, mask_some, put_handed)

-- ---- ends of a row of bits

-- nothing is written at the start
pub nothing : (buf : List ℕ) → written buf 0 0 0 ≡ []
unfolding written bits_n
nothing buf = refl

-- with no bits in hand, what is written is whole octets
whole : (buf : List ℕ) (at acc : ℕ) → written buf at 0 acc ≡ bits_of (take at buf)
unfolding written bits_n
whole buf at acc = append-nil (bits_of (take at buf))

-- eight bits go from hand to the buffer
flush : (buf : List ℕ) (at n acc : ℕ) → at < length buf → acc < 2 ^ (8 + n) → written (set buf at (acc / 2 ^ n)) (at + 1) n (acc % 2 ^ n) ≡ written buf at (8 + n) acc
unfolding written
flush buf at n acc h l =
    rw (add-one at, take-suc-set buf at (acc / 2 ^ n) h, bits_of_append (take at buf) (acc / 2 ^ n ∷ []), append-nil (bits_n 8 (acc / 2 ^ n)), bits_split 8 n acc l)
    (append_assoc (bits_of (take at buf)) (bits_n 8 (acc / 2 ^ n)) (bits_n n (acc % 2 ^ n)))

-- what holds at the head of `seal`'s loop: n of the bits that spell x are left
pub record Turn (buf₀ : List ℕ) (at₀ n₀ x : ℕ) (buf : List ℕ) (at n : ℕ) : Type 0 where
  pub same : written buf at n (x % 2 ^ n) ≡ written buf₀ at₀ n₀ x
  pub place : 8 * at + n ≡ 8 * at₀ + n₀
  pub most : n ≤ n₀
  pub rest : drop at buf ≡ drop at buf₀
  pub long : length buf ≡ length buf₀

pub turn : {buf₀ : List ℕ} {at₀ n₀ x : ℕ} {buf : List ℕ} {at n : ℕ} → Turn buf₀ at₀ n₀ x buf at n → 8 ≤ n → at < length buf
    → Turn buf₀ at₀ n₀ x (set buf at (x / 2 ^ (n - 8) % 256)) (at + 1) (n - 8)
turn {buf₀} {at₀} {n₀} {x} {buf} {at} {n} t h l =
    let k : ℕ = n - 8 in
    let e : 8 + k ≡ n = omega arith in
    let s = rw (field x 8 k, mod-mod-pow x 8 k) at (flush buf at k (x % 2 ^ (8 + k)) l (mod-lt x (pow_pos (8 + k)))) in
    record {
      same = s ∙ (rw e t.same);
      place = omega arith;
      most = omega arith;
      rest = drop-set-lt (at + 1) buf at (x / 2 ^ k % 256) (omega arith) ∙ drop_further at (at + 1) buf buf₀ (omega arith) t.rest;
      long = length-set buf at (x / 2 ^ k % 256) ∙ t.long;
    }

-- w zeros behind the bits in hand
module _ (buf : List ℕ) (at n acc w : ℕ) (i : InHand n acc) (h : w ≤ 24) where
  shifted : (acc * 2 ^ w) % 18446744073709551616 ≡ joined acc w 0
  shifted = sym (add-zero ((acc * 2 ^ w) % 18446744073709551616))

  -- the loop begins
  pub begin : Turn buf at (n + w) ((acc * 2 ^ w) % 18446744073709551616) buf at (n + w)
  begin = rw shifted (record {
    same = ap (written buf at (n + w)) (mod-eq_of_lt (joined_lt n acc w 0 i h (pow_pos w)));
    place = refl;
    most = omega arith;
    rest = refl;
    long = refl;
  })

  -- the loop ends
  pub finish : w ≡ filler_to (8 * at + n) + 8 → {buf' : List ℕ} {at' n' : ℕ} → Turn buf at (n + w) ((acc * 2 ^ w) % 18446744073709551616) buf' at' n' → n' < 8
      → Sealed (written buf at n acc) (8 * at + n) buf buf' at'
  finish f {buf'} {at'} {n'} t l =
      let x = (acc * 2 ^ w) % 18446744073709551616 in
      let e : n' ≡ 0 = omega (arith, t.place) in
      record {
        bits = sym (whole buf' at' (x % 2 ^ n')) ∙ ap (λ (k : ℕ). written buf' at' k (x % 2 ^ n')) (sym e) ∙ t.same ∙ ap (written buf at (n + w)) shifted
            ∙ in_hand n acc w 0 i h (pow_pos w) buf at ∙ ap (λ (r : List Bool). written buf at n acc ++ r) (zero_bits w ∙ ap (λ (k : ℕ). replicate k false) f);
        size = omega (arith, t.place);
        rest = t.rest;
      }

-- ---- one row of bits behind another

-- no bits more
pub put_none : (buf : List ℕ) (at n acc : ℕ) → InHand n acc → Put (written buf at n acc) [] (8 * at + n) buf buf at n acc
put_none buf at n acc h = record { bits = sym (append-nil (written buf at n acc)); place = refl; hand = h; rest = refl }

-- some, and then others
pub put_then : {old a b : List Bool} {end end' : ℕ} {kept buf buf' : List ℕ} {at n acc at' n' acc' : ℕ} → Put old a end kept buf at n acc
    → Put (written buf at n acc) b end' buf buf' at' n' acc' → end ≤ end' → Put old (a ++ b) end' kept buf' at' n' acc'
put_then {old} {a} {b} {end} {end'} {kept} {buf} p q h = record {
  bits = q.bits ∙ ap (λ (x : List Bool). x ++ b) p.bits ∙ append_assoc old a b;
  place = q.place;
  hand = q.hand;
  rest = q.rest ∙ drop_further (octets_to end) (octets_to end') buf kept (omega arith) p.rest;
}

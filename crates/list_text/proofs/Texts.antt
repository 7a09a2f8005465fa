-- How a text grows in a buffer.
use Prim.Native.Nat.{ℕ, zero, suc, ◌+◌, ◌-◌, ◌*◌, ◌/◌, ◌%◌, ◌≤◌, ◌<◌}
use native.Mathlib.Omega.{arith}
use native.Mathlib.Numerals.{add-one}
use mathlib.Core.Path.{◌≡◌, refl, sym, subst, ap, ap₂, ◌∙◌}
use mathlib.Core.List.{List, [], ◌∷◌, ◌++◌, append-nil, append_assoc}
use lib.ListN.{length, get_or, take, drop, set, length-set, length-append}
use lib.Seq.{get_or-drop, take-add, drop-cons, get_or-set_same, drop-set-lt, take-set-le, take-suc-set, append_snoc, drop-drop}
use borrow.Author.Tests.{ltb-true, ltb-false, eq-eqb, ne_eqb}
use lib.Dec.{ltb}
use Rattle.std.specs.Prelude.{decimal}
use Rattle.std.proofs.lemmas.Fmt.{decimal_digit, decimal_step}
use Rattle.bits.proofs.Choice.{pick_elim}
use Rattle.list_rules.specs.declared.Entry.{Entry}
use Rattle.list_rules.specs.Sounding.{entry_cells, unpacked, entry_at}
use Rattle.list_text.specs.Text.{Added, digits, places, number, line, lines, mark_text, opening, refusal}

-- one octet more
pub added_one : (out : List ℕ) (at v : ℕ) → at < length out → Added out at (v ∷ []) (set out at v) (at + 1)
added_one out at v h = record { ends = refl; long = length-set out at v; holds = rw (add-one at) (take-suc-set out at v h) }

-- one text behind another
pub added_two : {a b c : List ℕ} {at p r : ℕ} {s t : List ℕ} → Added a at s b p → Added b p t c r → Added a at (s ++ t) c r
added_two {a} {b} {c} {at} {p} {r} {s} {t} f g =
    let e : length (s ++ t) ≡ length s + length t = length-append s t in
    record {
      ends = omega (arith, f.ends, g.ends, e);
      long = g.long ∙ f.long;
      holds = g.holds ∙ (ap (λ (l : List ℕ). l ++ t) f.holds ∙ append_assoc (take at a) s t);
    }

-- a text of at most so many octets is put
abbrev pub Put : List ℕ → ℕ → List ℕ → ℕ → List ℕ → ℕ → Type 0
Put out at text most out' end = Added out at text out' end × (end ≤ at + most)

-- one such text behind another
put_two : {a b c : List ℕ} {at p r : ℕ} {s t : List ℕ} (i k : ℕ) → Put a at s i b p → Put b p t k c r → Put a at (s ++ t) (i + k) c r
put_two i k f g = (added_two f.0 g.0, omega (arith, f.1, g.1))

-- ---- the loop of `put_digits`

-- the last k - i of the digits stand in their places, and `rest` has the others
pub record Spelling (out₀ : List ℕ) (at k n : ℕ) (out : List ℕ) (i rest : ℕ) : Type 0 where
  pub inside : i ≤ k
  pub long : length out ≡ length out₀
  pub ahead : take at out ≡ take at out₀
  pub holds : digits i rest ++ take (k - i) (drop (at + i) out) ≡ digits k n

pub spell_begin : (out : List ℕ) (at k n : ℕ) → Spelling out at k n out k n
spell_begin out at k n =
    let z : k - k ≡ 0 = omega arith in
    record { inside = omega arith; long = refl; ahead = refl; holds = rw z (append-nil (digits k n)) }

spell_more : (out₀ : List ℕ) (at k n : ℕ) {out : List ℕ} (m : ℕ) {rest : ℕ} → Spelling out₀ at k n out (suc m) rest → at + k ≤ length out₀
    → Spelling out₀ at k n (set out (at + m) (48 + rest % 10)) m (rest / 10)
unfolding digits
spell_more out₀ at k n {out} m {rest} t h =
    let v : ℕ = 48 + rest % 10 in
    let l : at + m < length out = omega (arith, t.inside, t.long) in
    let l' : at + m < length (set out (at + m) v) = rw (length-set out (at + m) v) l in
    let u : at + suc m ≡ suc (at + m) = omega arith in
    let d : drop (at + m) (set out (at + m) v) ≡ v ∷ drop (at + suc m) out =
    rw (u) (
    drop-cons (set out (at + m) v) (at + m) 0 l'
    ∙ ap₂ (λ (x : ℕ) (y : List ℕ). x ∷ y) (get_or-set_same out (at + m) v 0 l) (drop-set-lt (suc (at + m)) out (at + m) v (omega arith))) in
    let e : k - m ≡ suc (k - suc m) = omega (arith, t.inside) in
    record {
      inside = omega (arith, t.inside);
      long = length-set out (at + m) v ∙ t.long;
      ahead = take-set-le at out (at + m) v (omega arith) ∙ t.ahead;
      holds = rw (d, e) (sym (append_snoc (digits m (rest / 10)) v (take (k - suc m) (drop (at + suc m) out))) ∙ t.holds);
    }

pub spell_turn : (out₀ : List ℕ) (at k n : ℕ) {out : List ℕ} {i rest v : ℕ} → Spelling out₀ at k n out i rest → 0 < i → at + k ≤ length out₀
    → v ≡ 48 + rest % 10 → Spelling out₀ at k n (set out (at + (i - 1)) v) (i - 1) (rest / 10)
spell_turn out₀ at k n {i = zero} t p h w = absurd (omega (arith, p))
spell_turn out₀ at k n {i = suc m} t p h w =
    let e : suc m - 1 ≡ m = omega arith in
    rw (e, w) (spell_more out₀ at k n m t h)

pub spell_room : {out₀ : List ℕ} {at k n : ℕ} {out : List ℕ} {i rest : ℕ} → Spelling out₀ at k n out i rest → 0 < i → at + k ≤ length out₀
    → at + (i - 1) < length out
spell_room t p h = omega (arith, t.inside, t.long)

pub digits_long : (k n : ℕ) → length (digits k n) ≡ k
unfolding digits
digits_long zero n = refl
digits_long (suc k) n = length-append (digits k (n / 10)) ((48 + n % 10) ∷ []) ∙ (rw (digits_long k (n / 10)) (add-one k))

spell_last : (out₀ : List ℕ) (at k n : ℕ) {out : List ℕ} {rest : ℕ} → Spelling out₀ at k n out 0 rest → Added out₀ at (digits k n) out (at + k)
unfolding digits
spell_last out₀ at k n {out} {rest} t =
    let a : at + 0 ≡ at = omega arith in
    let z : k - 0 ≡ k = omega arith in
    let e : take (k - 0) (drop (at + 0) out) ≡ digits k n = t.holds in
    let f : take k (drop at out) ≡ digits k n = subst (λ (j : ℕ). take k (drop j out) ≡ digits k n) a (subst (λ (i : ℕ). take i (drop (at + 0) out) ≡ digits k n) z e) in
    record {
      ends = ap (λ (j : ℕ). at + j) (sym (digits_long k n));
      long = t.long;
      holds = take-add at k out ∙ ap₂ (λ (a b : List ℕ). a ++ b) t.ahead f;
    }

pub spell_end : (out₀ : List ℕ) (at k n : ℕ) {out : List ℕ} {i rest : ℕ} → Spelling out₀ at k n out i rest → i ≤ 0 → Added out₀ at (digits k n) out (at + k)
spell_end out₀ at k n {i = zero} t p = spell_last out₀ at k n t
spell_end out₀ at k n {i = suc m} t p = absurd (omega (arith, p))

pub ruleset spelling = (spell_begin, spell_turn, spell_room, spell_end)

-- ---- a number, and what stands behind it

-- the least number of so many digits, and one more
tens : ℕ → ℕ
tens zero = 1
tens (suc k) = 10 * tens k

-- a number's digits, counted, are those that std prints
spelled : (k n : ℕ) → 10 * tens k ≤ n → n < 10 * tens (suc k) → n < 4294967296 → digits (suc (suc k)) n ≡ decimal n
unfolding digits tens
spelled zero n l h b =
    let z : n / 10 < 10 = omega (arith, h) in
    let m : n / 10 % 10 ≡ n / 10 = omega (arith, z) in
    rw (decimal_step n (omega (arith, l)) (omega (arith, b)), decimal_digit (n / 10) z, m) refl
spelled (suc k) n l h b =
    let g : 10 * tens k ≤ n / 10 = omega (arith, l) in
    let f : n / 10 < 10 * tens (suc k) = omega (arith, h) in
    let a : 10 ≤ n = omega (arith, l, tens_some k) in
    rw (decimal_step n a (omega (arith, b)), spelled k (n / 10) g f (omega (arith, b))) refl
  where
    tens_some : (k : ℕ) → 1 ≤ tens k
    tens_some zero = omega arith
    tens_some (suc k) = omega (arith, tens_some k)

spelled_one : (n : ℕ) → n < 10 → digits 1 n ≡ decimal n
unfolding digits
spelled_one n h =
    let m : n % 10 ≡ n = omega (arith, h) in
    rw (decimal_digit n h, m) refl

-- a number below 2 ^ 32 in decimal is what std prints
pub printed : (n : ℕ) → n < 4294967296 → digits (places n) n ≡ decimal n
unfolding places tens
printed n b =
    pick_elim P (ltb n 10) (λ t. spelled_one n (ltb-true n 10 t)) (λ f₁.
    pick_elim P (ltb n 100) (λ t. spelled 0 n (ltb-false n 10 f₁) (ltb-true n 100 t) b) (λ f₂.
    pick_elim P (ltb n 1000) (λ t. spelled 1 n (ltb-false n 100 f₂) (ltb-true n 1000 t) b) (λ f₃.
    pick_elim P (ltb n 10000) (λ t. spelled 2 n (ltb-false n 1000 f₃) (ltb-true n 10000 t) b) (λ f₄.
    pick_elim P (ltb n 100000) (λ t. spelled 3 n (ltb-false n 10000 f₄) (ltb-true n 100000 t) b) (λ f₅.
    pick_elim P (ltb n 1000000) (λ t. spelled 4 n (ltb-false n 100000 f₅) (ltb-true n 1000000 t) b) (λ f₆.
    pick_elim P (ltb n 10000000) (λ t. spelled 5 n (ltb-false n 1000000 f₆) (ltb-true n 10000000 t) b) (λ f₇.
    pick_elim P (ltb n 100000000) (λ t. spelled 6 n (ltb-false n 10000000 f₇) (ltb-true n 100000000 t) b) (λ f₈.
    pick_elim P (ltb n 1000000000) (λ t. spelled 7 n (ltb-false n 100000000 f₈) (ltb-true n 1000000000 t) b) (λ f₉.
    spelled 8 n (ltb-false n 1000000000 f₉) (omega (arith, b)) b)))))))))
  where
    P : ℕ → Type 0
    P k = digits k n ≡ decimal n

pub number_put : (out₀ : List ℕ) (at n behind : ℕ) {out : List ℕ} {k : ℕ} → k ≡ places n → Added out₀ at (digits k n) out (at + k) → at + 11 ≤ length out₀ → k ≤ 10
    → Added out₀ at (number n behind) (set out (at + k) behind) (at + k + 1)
unfolding number
number_put out₀ at n behind {out} {k} e t h l =
    let i : at + k < length out = omega (arith, t.long) in
    rw (sym e) (added_two t (added_one out (at + k) behind i))

-- seven numbers are a line
pub line_put : (a : List ℕ) (at : ℕ) (entry : Entry) {b c d e f g h : List ℕ} {p q r s t u z : ℕ}
    → Put a at (number entry.note 32) 11 b p → Put b p (number entry.scale 32) 11 c q → Put c q (number entry.style 32) 11 d r
    → Put d r (number entry.volume 32) 11 e s → Put e s (number entry.microseconds 32) 11 f t → Put f t (number entry.header 32) 11 g u
    → Put g u (number entry.position 10) 11 h z → Put a at (line entry) 77 h z
unfolding line
line_put a at entry t₁ t₂ t₃ t₄ t₅ t₆ t₇ = put_two 11 66 t₁ (put_two 11 55 t₂ (put_two 11 44 t₃ (put_two 11 33 t₄ (put_two 11 22 t₅ (put_two 11 11 t₆ t₇)))))

-- ---- the loop of `put_entries`

-- the list from its entry i on
abbrev entries_from : List ℕ → ℕ → List ℕ
entries_from list i = drop (i * entry_cells) list

-- so many lines are put, and with those of the other entries they make the whole
pub record Lining (out₀ : List ℕ) (start : ℕ) (list : List ℕ) (n : ℕ) (out : List ℕ) (at i : ℕ) : Type 0 where
  pub inside : i ≤ n
  pub reach : at ≤ start + i * 77
  pub long : length out ≡ length out₀
  pub ends : at + length (lines (n - i) (entries_from list i)) ≡ start + length (lines n list)
  pub holds : take at out ++ lines (n - i) (entries_from list i) ≡ take start out₀ ++ lines n list

pub line_begin : (out : List ℕ) (start : ℕ) (list : List ℕ) (n : ℕ) → Lining out start list n out start 0
line_begin out start list n =
    let z : n - 0 ≡ n = omega arith in
    record { inside = omega arith; reach = omega arith; long = refl; ends = rw z refl; holds = rw z refl }

-- the first entry from entry i on is entry i
entry_from : (list : List ℕ) (i : ℕ) → entry_at (entries_from list i) 0 ≡ entry_at list i
entry_from list i =
    let at : ℕ = i * entry_cells in
    let o : at + 0 ≡ at = omega arith in
    let first = get_or-drop at list 0 0 ∙ ap (λ (j : ℕ). get_or list j 0) o in
    let second = get_or-drop at list 1 0 in
    let third = get_or-drop at list 2 0 in
    λ j. unpacked (first j) (second j) (third j)

-- the lines from entry i on are its own and those from the next on
lines_from : (list : List ℕ) (n i : ℕ) → i < n → lines (n - i) (entries_from list i) ≡ line (entry_at list i) ++ lines (n - (i + 1)) (entries_from list (i + 1))
unfolding lines
lines_from list n i h =
    let e : n - i ≡ suc (n - (i + 1)) = omega (arith, h) in
    let f : i * entry_cells + entry_cells ≡ (i + 1) * entry_cells = omega arith in
    let d : drop entry_cells (entries_from list i) ≡ entries_from list (i + 1) = drop-drop entry_cells (i * entry_cells) list ∙ ap (λ (j : ℕ). drop j list) f in
    rw e (ap₂ (λ (x : Entry) (l : List ℕ). line x ++ lines (n - (i + 1)) l) (entry_from list i) d)

pub line_turn : (out₀ : List ℕ) (start : ℕ) (list : List ℕ) (n : ℕ) {out : List ℕ} {at i : ℕ} {entry : Entry} {out' : List ℕ} {r : ℕ}
    → Lining out₀ start list n out at i → i < n → entry ≡ entry_at list i → Added out at (line entry) out' r → r ≤ at + 77 → Lining out₀ start list n out' r (i + 1)
line_turn out₀ start list n {out} {at} {i} {entry} {out'} {r} t h e a b =
    let rest : List ℕ = lines (n - (i + 1)) (entries_from list (i + 1)) in
    let w : lines (n - i) (entries_from list i) ≡ line entry ++ rest = lines_from list n i h ∙ ap (λ (x : Entry). line x ++ rest) (sym e) in
    let x : length (lines (n - i) (entries_from list i)) ≡ length (line entry) + length rest = ap length w ∙ length-append (line entry) rest in
    record {
      inside = omega (arith, h);
      reach = omega (arith, t.reach, b);
      long = a.long ∙ t.long;
      ends = omega (arith, t.ends, a.ends, x);
      holds =
          ap (λ (l : List ℕ). l ++ rest) a.holds
          ∙ (append_assoc (take at out) (line entry) rest
          ∙ (ap (λ (l : List ℕ). take at out ++ l) (sym w) ∙ t.holds));
    }

pub line_end : (out₀ : List ℕ) (start : ℕ) (list : List ℕ) (n : ℕ) {out : List ℕ} {at i : ℕ} → Lining out₀ start list n out at i → n ≤ i
    → Added out₀ start (lines n list) out at
unfolding lines
line_end out₀ start list n {out} {at} {i} t h =
    let z : n - i ≡ 0 = omega (arith, h) in
    let y : lines (n - i) (entries_from list i) ≡ [] = rw z refl in
    record {
      ends = sym (add_nothing at (lines (n - i) (entries_from list i)) y) ∙ t.ends;
      long = t.long;
      holds = sym (append-nil (take at out)) ∙ (ap (λ (l : List ℕ). take at out ++ l) (sym y) ∙ t.holds);
    }
  where
    add_nothing : (a : ℕ) (l : List ℕ) → l ≡ [] → a + length l ≡ a
    add_nothing a l e = rw e (omega arith)

-- the buffer has room for the next line
pub line_room : {out₀ : List ℕ} {start : ℕ} {list : List ℕ} {n : ℕ} {out : List ℕ} {at i : ℕ} → Lining out₀ start list n out at i → i < n
    → (start + n * 77 ≤ length out₀) × (n * entry_cells ≤ length list) → at + 77 ≤ length out
line_room t h l = omega (arith, t.reach, t.long, l.0)

pub ruleset lining = (line_begin, line_turn, line_end, line_room)

-- ---- whole lines

-- the two ways to put a mark
pub mark_none : (out : List ℕ) (at mark : ℕ) {out' : List ℕ} {r : ℕ} → mark ≡ 4294967295 → Added out at (110 ∷ 111 ∷ 110 ∷ 101 ∷ 10 ∷ []) out' r
    → Added out at (mark_text mark) out' r
unfolding mark_text
mark_none out at mark h a = rw (eq-eqb mark 4294967295 h) a

pub mark_some : (out : List ℕ) (at mark : ℕ) {out' : List ℕ} {r : ℕ} → (mark ≡ 4294967295 → ⊥) → Added out at (number mark 10) out' r → Added out at (mark_text mark) out' r
unfolding mark_text
mark_some out at mark h a = rw (ne_eqb mark 4294967295 h) a

pub opening_put : (a : List ℕ) (n mark : ℕ) {b c d e : List ℕ} {p q r s : ℕ} → Added a 0 (101 ∷ 110 ∷ 116 ∷ 114 ∷ 105 ∷ 101 ∷ 115 ∷ 32 ∷ []) b p
    → Added b p (number n 32) c q → Added c q (114 ∷ 101 ∷ 116 ∷ 117 ∷ 114 ∷ 110 ∷ 32 ∷ []) d r → Added d r (mark_text mark) e s → Added a 0 (opening n mark) e s
unfolding opening
opening_put a n mark t u v w = added_two t (added_two u (added_two v w))

pub refusal_put : (a : List ℕ) (n at : ℕ) {b c d e : List ℕ} {p q r s : ℕ} → Added a 0 (114 ∷ 101 ∷ 102 ∷ 117 ∷ 115 ∷ 101 ∷ 100 ∷ 32 ∷ []) b p
    → Added b p (number n 32) c q → Added c q (97 ∷ 116 ∷ 32 ∷ []) d r → Added d r (number at 10) e s → Added a 0 (refusal n at) e s
unfolding refusal
refusal_put a n at t u v w = added_two t (added_two u (added_two v w))

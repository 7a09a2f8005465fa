-- The front of a message is read exactly: the command, the song type and the title.
use Prim.Native.Nat.{ℕ, zero, suc, ◌+◌, ◌*◌, ◌/◌, ◌%◌, ◌≤◌, ◌<◌}
use native.Mathlib.Omega.{arith}
use native.Mathlib.Nat.{add_assoc}
use mathlib.Core.Path.{◌≡◌, refl, sym, ap, ap₂, subst, ◌∙◌}
use mathlib.Core.Bool.{Bool, true, false, ◌||◌}
use mathlib.Core.List.{List, [], ◌∷◌, ◌++◌, append_assoc, append-nil}
use mathlib.Core.Logic.{◌⊎◌, inl, inr, ⊎_elim}
use lib.ListN.{length, get_or, drop, take, length-append, length-drop, take-append-drop, drop_of_length-le}
use lib.Seq.{take_at, drop_at, length-take-le}
use lib.Dec.{leb, eqb, lit<, lit≤}
use borrow.Author.Tests.{eqb-true, eqb-false, leb-true, le-leb}
use Rattle.bits.specs.Choice.{pick}
use Rattle.bits.specs.Bits.{bits_n, bits_of, octets, Octets}
use Rattle.bits.proofs.Choice.{pick_elim, both}
use Rattle.bits.proofs.Numbers.{bits_append}
use Rattle.bits.proofs.Octets.{length_bits_of, octets_bits, bits_of_append, octets_append, octets_take, octets_drop}
use Rattle.tone.specs.Tone.{Front, per_character, characters, allowed_character, allowed_title, Titled, FrontFormed}
use Rattle.tone.specs.Writing.{programming, unicode_part, sound, command_length, filled_part, command_bits, title_bits, front_bits}
use Rattle.tone.specs.Reading.{got, Reader, ◌>>=◌, ◌>>◌, return, any_of, part, filler_bit, filled, whether_unicode, sound_part, parts, command, character, text, title, counted, titled, typed, front}
use Rattle.tone.proofs.Titles.{value, allowed_low, allowed_append}
use Rattle.tone.proofs.Exact.{Exact, Fine, exact_as, return_exact, element_exact, then_exact, then_assoc, fixed_exact}

pub or_true : (a b : Bool) → (a || b) ≡ true → (a ≡ true) ⊎ (b ≡ true)
or_true true b h = inl refl
or_true false b h = inr h

-- an octet that is 2 or 3
two_or_three : (n : ℕ) → (eqb n 2 || eqb n 3) ≡ true → (n ≡ 3 → ⊥) → n ≡ 2
two_or_three n h k = ⊎_elim (λ w. eqb-true n 2 w) (λ w. absurd (k (eqb-true n 3 w))) (or_true (eqb n 2) (eqb n 3) h)

-- a song type that is 1 or 2
pub one_or_two : (n : ℕ) → (eqb n 1 || eqb n 2) ≡ true → (1 ≤ n) × (n ≤ 2)
one_or_two n h = ⊎_elim (λ w. let e = eqb-true n 1 w in (omega arith, omega arith)) (λ w. let e = eqb-true n 2 w in (omega arith, omega arith)) (or_true (eqb n 1) (eqb n 2) h)

-- ---- the command

length_three : (u : Bool) → command_length u ≡ 3 → u ≡ true
length_three true h = refl
length_three false h = let z : ⊥ = omega arith in absurd z

length_two : (u : Bool) → command_length u ≡ 2 → u ≡ false
length_two false h = refl
length_two true h = let z : ⊥ = omega arith in absurd z

filled_exact : {C : Type 0} {s : Reader C} {G : C → Type 0} {b : ℕ → C → List Bool} (code : ℕ) → code < 128 → Exact s G b → Exact (filled code >> s) G (λ at c. filled_part code ++ b (at + 8) c)
unfolding filled
filled_exact {C} {s} {G} {b} code h x =
    subst (λ (r : Reader C). Exact r G (λ at c. filled_part code ++ b (at + 8) c)) (then_assoc (part code) (λ _. filler_bit) (λ _. s))
    (exact_as (fixed_exact 7 code 3 h (fixed_exact 1 0 8 (lit< tt) x)) (λ c k. k) (λ c k. k)
    (λ at c k. rw (add_assoc at 7 1) (sym (append_assoc (bits_n 7 code) (bits_n 1 0) (b (at + 8) c)))))

unicode_exact : (n : ℕ) → (eqb n 2 || eqb n 3) ≡ true → Exact (whether_unicode n) (λ u. command_length u ≡ n) (λ _ u. pick u (filled_part unicode_part) [])
unfolding whether_unicode
unicode_exact n hn =
    pick_elim (λ (r : Reader Bool). Exact r (λ u. command_length u ≡ n) (λ _ u. pick u (filled_part unicode_part) [])) (eqb n 3)
    (λ h. let e : n ≡ 3 = eqb-true n 3 h in
    exact_as (filled_exact unicode_part (lit< tt) (return_exact true))
    (λ u k. rw (k, e) refl) (λ u k. length_three u (k ∙ e))
    (λ at u k. rw k (append-nil (filled_part unicode_part))))
    (λ h. let e : n ≡ 2 = two_or_three n hn (eqb-false n 3 h) in
    exact_as (return_exact false) (λ u k. rw (k, e) refl) (λ u k. length_two u (k ∙ e)) (λ at u k. rw k refl))

command_length_fine : (u : Bool) → Fine 8 (λ n. eqb n 2 || eqb n 3) (command_length u)
command_length_fine true = (lit< tt, refl)
command_length_fine false = (lit< tt, refl)

parts_exact : (n : ℕ) → (eqb n 2 || eqb n 3) ≡ true → Exact (parts n) (λ u. command_length u ≡ n) (λ _ u. filled_part programming ++ (pick u (filled_part unicode_part) [] ++ bits_n 7 sound))
unfolding parts sound_part
parts_exact n h =
    filled_exact programming (lit< tt)
    (exact_as
    (then_exact (λ (u : Bool). u) {GC = λ u. command_length u ≡ n} (unicode_exact n h)
    (λ u k. fixed_exact 7 sound 3 (lit< tt) (exact_as (return_exact u) (λ c e. (rw e k, e)) (λ c e. e.1) (λ at c e. refl)))
    (λ u k. k))
    (λ u k. k) (λ u k. k)
    (λ at u k. ap (λ (y : List Bool). pick u (filled_part unicode_part) [] ++ y) (append-nil (bits_n 7 sound))))

pub command_exact : Exact command (λ _. Unit {0}) (λ _ u. command_bits u)
unfolding command command_bits
command_exact =
    then_exact command_length {GC = λ _. Unit {0}} (element_exact 8 (λ n. eqb n 2 || eqb n 3) 3 2 (command_length_fine false))
    (λ n h. exact_as (parts_exact n h.1) (λ u k. (tt, k)) (λ u k. k.1) (λ at u k. refl))
    (λ u _. command_length_fine u)

-- ---- the title

-- the octets of one character
pub record Character (unicode : Bool) (c : List ℕ) : Type 0 where
  pub octets : Octets c
  pub size : length c ≡ per_character unicode
  pub allowed : allowed_character (value unicode c) ≡ true

one_octet : (c : List ℕ) → length c ≡ 1 → c ≡ get_or c 0 0 ∷ []
one_octet [] h = let z : ⊥ = omega arith in absurd z
one_octet (x ∷ []) h = refl
one_octet (x ∷ y ∷ c) h = let z : ⊥ = omega arith in absurd z

two_octets : (c : List ℕ) → length c ≡ 2 → c ≡ get_or c 0 0 ∷ get_or c 1 0 ∷ []
two_octets [] h = let z : ⊥ = omega arith in absurd z
two_octets (x ∷ []) h = let z : ⊥ = omega arith in absurd z
two_octets (x ∷ y ∷ []) h = refl
two_octets (x ∷ y ∷ u ∷ c) h = let z : ⊥ = omega arith in absurd z

octet_at : (c : List ℕ) (i : ℕ) → Octets c → get_or c i 0 < 256
octet_at [] i h = omega arith
octet_at (x ∷ c) zero h = h.0
octet_at (x ∷ c) (suc i) h = octet_at c i h.1

pub character_exact : (unicode : Bool) → Exact (character unicode) (Character unicode) (λ _ c. bits_of c)
unfolding character
character_exact false =
    exact_as
    (then_exact (value false) {GC = Character false} (element_exact 8 allowed_character 21 32 (lit< tt, allowed_low 32 (lit≤ tt) (lit≤ tt)))
    (λ v h. exact_as (return_exact (v ∷ [])) (λ c e. rw e (record { octets = (h.0, tt); size = refl; allowed = h.1 }, refl)) (λ c k. one_octet c k.0.size ∙ ap (λ (x : ℕ). x ∷ []) k.1) (λ at c e. refl))
    (λ c k. (octet_at c 0 k.octets, k.allowed)))
    (λ c k. k) (λ c k. k)
    (λ at c k. sym (ap bits_of (one_octet c k.size)))
character_exact true =
    exact_as
    (then_exact (value true) {GC = Character true} (element_exact 16 allowed_character 21 32 (lit< tt, allowed_low 32 (lit≤ tt) (lit≤ tt)))
    (λ v h. exact_as (return_exact (v / 256 ∷ v % 256 ∷ []))
    (λ c e.
    let same : v / 256 * 256 + v % 256 ≡ v = omega arith in
    rw e (record { octets = (omega (arith, h.0), (omega arith, tt)); size = refl; allowed = rw same h.1 }, same))
    (λ c k.
    let h₀ = octet_at c 0 k.0.octets in
    let h₁ = octet_at c 1 k.0.octets in
    two_octets c k.0.size ∙ ap₂ (λ (x y : ℕ). x ∷ y ∷ []) (omega (arith, k.1)) (omega (arith, k.1)))
    (λ at c e. refl))
    (λ c k. let h₀ = octet_at c 0 k.octets in let h₁ = octet_at c 1 k.octets in (omega arith, k.allowed)))
    (λ c k. k) (λ c k. k)
    (λ at c k.
    let h₀ = octet_at c 0 k.octets in
    let h₁ = octet_at c 1 k.octets in
    append-nil (bits_n 16 (get_or c 0 0 * 256 + get_or c 1 0)) ∙ bits_append 8 (get_or c 0 0) 8 (get_or c 1 0) h₀ h₁
    ∙ ap (λ (y : List Bool). bits_n 8 (get_or c 0 0) ++ y) (sym (append-nil (bits_n 8 (get_or c 1 0)))) ∙ sym (ap bits_of (two_octets c k.size)))

-- the octets of so many characters
pub record Text (unicode : Bool) (n : ℕ) (t : List ℕ) : Type 0 where
  pub octets : Octets t
  pub size : length t ≡ per_character unicode * n
  pub allowed : allowed_title unicode t ≡ true

no_text : (unicode : Bool) (t : List ℕ) → length t ≡ per_character unicode * 0 → t ≡ []
no_text unicode [] h = refl
no_text true (x ∷ t) h = let z : ⊥ = omega arith in absurd z
no_text false (x ∷ t) h = let z : ⊥ = omega arith in absurd z

zero_text : (unicode : Bool) → Text unicode 0 []
zero_text true = record { octets = tt; size = refl; allowed = refl }
zero_text false = record { octets = tt; size = refl; allowed = refl }

text_size : (unicode : Bool) (n : ℕ) → per_character unicode * suc n ≡ per_character unicode + per_character unicode * n
text_size true n = omega arith
text_size false n = omega arith

pub text_exact : (unicode : Bool) (n : ℕ) → Exact (text unicode n) (Text unicode n) (λ _ t. bits_of t)
unfolding text
text_exact unicode zero = exact_as (return_exact []) (λ t e. rw e (zero_text unicode)) (λ t k. no_text unicode t k.size) (λ at t e. rw e refl)
text_exact unicode (suc n) =
    let s = text_size unicode n in
    let k = per_character unicode in
    exact_as
    (then_exact (take k) {GC = Text unicode (suc n)} (character_exact unicode)
    (λ c h. then_exact (drop k) {GC = λ t. Text unicode (suc n) t × (take k t ≡ c)} (text_exact unicode n)
    (λ r g. exact_as (return_exact (c ++ r))
    (λ t e. rw e ((record { octets = octets_append c r h.octets g.octets; size = length-append c r ∙ ap₂ (λ (x y : ℕ). x + y) h.size g.size ∙ sym s; allowed = rw (allowed_append unicode c r h.size, h.allowed) g.allowed }, take_at c r k h.size), drop_at c r k h.size))
    (λ t f. sym (take-append-drop k t) ∙ ap₂ (λ (x y : List ℕ). x ++ y) f.0.1 f.1)
    (λ at t e. refl))
    (λ t f. record { octets = octets_drop k t f.0.octets; size = length-drop k t ∙ omega (arith, f.0.size); allowed = (split t f.0).1 }))
    (λ t f. record { octets = octets_take k t f.octets; size = length-take-le k t (omega (arith, f.size)); allowed = (split t f).0 }))
    (λ t f. f) (λ t f. f)
    (λ at t f. ap (λ (y : List Bool). bits_of (take k t) ++ y) (append-nil (bits_of (drop k t))) ∙ sym (bits_of_append (take k t) (drop k t)) ∙ ap bits_of (take-append-drop k t))
  where
    -- its first character, and the others
    split : (t : List ℕ) → Text unicode (suc n) t → (allowed_character (value unicode (take (per_character unicode) t)) ≡ true) × (allowed_title unicode (drop (per_character unicode) t) ≡ true)
    split t f =
        let k = per_character unicode in
        let l : length (take k t) ≡ k = length-take-le k t (omega (arith, f.size, text_size unicode n)) in
        both (allowed_character (value unicode (take k t))) (allowed_title unicode (drop k t)) (sym (allowed_append unicode (take k t) (drop k t) l) ∙ ap (allowed_title unicode) (take-append-drop k t) ∙ f.allowed)

-- a title's own octets, read as characters
module _ (unicode : Bool) (n : ℕ) (title : List ℕ) (o : Octets title) (size : length title ≡ per_character unicode * n) where
  -- where all are allowed, they are read
  pub own_reads : allowed_title unicode title ≡ true → text unicode n (bits_of title) 0 ≡ got title (0 + length (bits_of title))
  own_reads a = (text_exact unicode n).complete (bits_of title) 0 title [] (omega arith) (record { octets = o; size = size; allowed = a }) (sym (append-nil (bits_of title)))

  -- and only there
  pub own_allowed : {t : List ℕ} {p : ℕ} → text unicode n (bits_of title) 0 ≡ got t p → allowed_title unicode title ≡ true
  own_allowed {t} {p} q =
      let s = (text_exact unicode n).sound (bits_of title) 0 (omega arith) q in
      let l : length t ≡ length title = s.good.size ∙ sym size in
      let e : p ≡ length (bits_of title) = s.end ∙ omega (arith, length_bits_of t, length_bits_of title, l) in
      let b : bits_of title ≡ bits_of t = s.here ∙ ap (λ (x : List Bool). bits_of t ++ x) (drop_of_length-le (bits_of title) {i = p} (omega arith)) ∙ append-nil (bits_of t) in
      let same : title ≡ t = sym (octets_bits title o) ∙ ap₂ octets (sym l) b ∙ octets_bits t s.good.octets in
      rw same s.good.allowed

text_characters : (unicode : Bool) (n : ℕ) (t : List ℕ) → length t ≡ per_character unicode * n → characters unicode t ≡ n
text_characters true n t h = rw h (omega arith)
text_characters false n t h = rw h (omega arith)

pub title_exact : (song : ℕ) (unicode : Bool) → (eqb song 1 || eqb song 2) ≡ true → Exact (title song unicode) (Titled song unicode) (λ _ t. title_bits song unicode t)
unfolding title title_bits
title_exact song unicode hs = go (eqb song 1) refl
  where
    go : (b : Bool) → eqb song 1 ≡ b → Exact (pick b (any_of 4 >>= text unicode) (return [])) (Titled song unicode) (λ _ t. pick b (bits_n 4 (characters unicode t) ++ bits_of t) [])
    go true h =
        let e : song ≡ 1 = eqb-true song 1 h in
        then_exact (characters unicode) {GC = Titled song unicode} (element_exact 4 (λ _. true) 0 0 (lit< tt, refl))
        (λ n g. exact_as (text_exact unicode n)
        (λ t k. let q = text_characters unicode n t k.size in
        (record { octets = k.octets; whole = rw q (sym k.size); allowed = k.allowed; short = omega (arith, q, g.0); none = λ z. let y : ⊥ = omega arith in absurd y }, q))
        (λ t k. record { octets = k.0.octets; size = sym k.0.whole ∙ ap (λ (x : ℕ). per_character unicode * x) k.1; allowed = k.0.allowed })
        (λ at t k. refl))
        (λ t k. (omega (arith, k.short), refl))
    go false h =
        let e : song ≡ 2 = ⊎_elim (λ w. absurd (eqb-false song 1 h (eqb-true song 1 w))) (λ w. eqb-true song 2 w) (or_true (eqb song 1) (eqb song 2) hs) in
        exact_as (return_exact []) (λ t q. rw q (empty song unicode)) (λ t k. k.none e) (λ at t q. refl)
      where
        empty : (song : ℕ) (unicode : Bool) → Titled song unicode []
        empty song true = record { octets = tt; whole = refl; short = omega arith; allowed = refl; none = λ _. refl }
        empty song false = record { octets = tt; whole = refl; short = omega arith; allowed = refl; none = λ _. refl }

-- ---- the whole front

pub song_fine_lem : (n : ℕ) → 1 ≤ n → n ≤ 2 → (eqb n 1 || eqb n 2) ≡ true
song_fine_lem zero a b = let z : ⊥ = omega arith in absurd z
song_fine_lem (suc zero) a b = refl
song_fine_lem (suc (suc zero)) a b = refl
song_fine_lem (suc (suc (suc n))) a b = let z : ⊥ = omega arith in absurd z

pub front_exact : Exact front FrontFormed (λ _ f. front_bits f)
unfolding front typed titled counted front_bits
front_exact =
    exact_as
    (then_exact (λ (f : Front). f.unicode) {GC = FrontFormed} {bC = λ _ f. bits_n 3 f.song ++ (title_bits f.song f.unicode f.title ++ bits_n 8 f.count)} command_exact
    (λ u h₁. then_exact (λ (f : Front). f.song) {GC = λ f. FrontFormed f × (f.unicode ≡ u)} {bC = λ _ f. title_bits f.song f.unicode f.title ++ bits_n 8 f.count}
    (element_exact 3 (λ n. eqb n 1 || eqb n 2) 4 1 (lit< tt, refl))
    (λ s h₂. exact_as (then_exact (λ (f : Front). f.title) {GC = λ f. (FrontFormed f × (f.unicode ≡ u)) × (f.song ≡ s)} (title_exact s u h₂.1)
    (λ o h₃. then_exact (λ (f : Front). f.count) {GC = λ f. ((FrontFormed f × (f.unicode ≡ u)) × (f.song ≡ s)) × (f.title ≡ o)} (element_exact 8 (leb 1) 5 1 (lit< tt, refl))
    (λ n h₄. exact_as (return_exact (record { song = s; unicode = u; title = o; count = n }))
    (λ f e. rw e ((((record { basic_or_temporary = one_or_two s h₂.1; titled = h₃; some = leb-true 1 n h₄.1; most = omega (arith, h₄.0) }, refl), refl), refl), refl))
    (λ f k. λ i. record { song = k.0.0.1 i; unicode = k.0.0.0.1 i; title = k.0.1 i; count = k.1 i })
    (λ at f e. refl))
    (λ f k. (omega (arith, k.0.0.0.most), le-leb 1 f.count k.0.0.0.some)))
    (λ f k. rw (← k.1, ← k.0.1) k.0.0.titled))
    (λ f k. k) (λ f k. k)
    (λ at f k. rw (← k.1, ← k.0.1) (ap (λ (y : List Bool). title_bits f.song f.unicode f.title ++ y) (append-nil (bits_n 8 f.count)))))
    (λ f k. (omega (arith, k.0.basic_or_temporary.1), song_fine_lem f.song k.0.basic_or_temporary.0 k.0.basic_or_temporary.1)))
    (λ f k. tt))
    (λ f k. k) (λ f k. k) (λ at f k. refl)

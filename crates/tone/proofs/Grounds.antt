-- The grounds on which a message is refused, 1 to 10 and 21, and the element that each of 2 to 9 and 21 is of.
use Prim.Native.Nat.{ℕ, zero, suc, ◌+◌, ◌≤◌, ◌<◌}
use native.Mathlib.Omega.{arith}
use mathlib.Core.Path.{◌≡◌, refl, subst, ◌∙◌}
use mathlib.Core.Logic.{◌⊎◌, inl, inr, ⊎_elim}
use mathlib.Core.Bool.{Bool, true, false, ◌||◌, true≢false}
use mathlib.Core.List.{List, []}
use lib.ListN.{length}
use lib.Dec.{leb, ltb, eqb, lit≤}
use borrow.Author.Tests.{ltb-true, ltb-false}
use Rattle.bits.specs.Bits.{bits_of, field, filler_to, place_after}
use Rattle.bits.specs.Outcome.{Outcome, accepted, refused}
use Rattle.bits.proofs.Choice.{pick_elim}
use Rattle.tone.specs.Table.{width, allowed, is_instruction}
use Rattle.tone.specs.Tone.{Tone, character_bits, allowed_character, specifier, none_known, recallable, learn}
use Rattle.tone.specs.Writing.{programming, unicode_part, sound, most_octets}
use Rattle.tone.specs.Reading.{Got, got, bad, Reader, onward, ◌>>=◌, return, element, filled, whether_unicode, sound_part, parts, command, character, text, title, counted, titled, typed, front, header_due, instruction_due, body_due, patterns_due, ending, rest, whole_tone, nothing_more, read_tone}

-- ---- the elements of a message

-- each element that document 01 names; the rest of a header by some ids that are known, the rest of an instruction by some kind
pub data Element : Type 0 where
  length_octet : Element
  programming_due : Element
  unicode_due : Element
  sound_due : Element
  filler_bit : Element
  song_type : Element
  title_length : Element
  title_character : Bool → Element
  pattern_count : Element
  header_id : Element
  header_rest : List Bool → Element
  instruction_id : Element
  instruction_rest : ℕ → Element
  filler_run : Element
  end_octet : Element

-- how many bits it has where it begins at p
abbrev pub width_of : Element → ℕ → ℕ
width_of length_octet p = 8
width_of programming_due p = 7
width_of unicode_due p = 7
width_of sound_due p = 7
width_of filler_bit p = 1
width_of song_type p = 3
width_of title_length p = 4
width_of (title_character unicode) p = character_bits unicode
width_of pattern_count p = 8
width_of header_id p = 3
width_of (header_rest known) p = 14
width_of instruction_id p = 3
width_of (instruction_rest k) p = width k
width_of filler_run p = filler_to p
width_of end_octet p = 8

-- which codes are allowed in it
abbrev pub fine_in : Element → ℕ → Bool
fine_in length_octet n = eqb n 2 || eqb n 3
fine_in programming_due n = eqb programming n
fine_in unicode_due n = eqb unicode_part n
fine_in sound_due n = eqb sound n
fine_in filler_bit n = eqb 0 n
fine_in song_type n = eqb n 1 || eqb n 2
fine_in title_length n = true
fine_in (title_character unicode) n = allowed_character n
fine_in pattern_count n = leb 1 n
fine_in header_id n = eqb 0 n
fine_in (header_rest known) n = recallable known n
fine_in instruction_id n = is_instruction n
fine_in (instruction_rest k) n = allowed k n
fine_in filler_run n = eqb 0 n
fine_in end_octet n = eqb 0 n

-- the number that another code is refused with; 0 where every code is allowed
abbrev pub number_of : Element → ℕ
number_of length_octet = 3
number_of programming_due = 3
number_of unicode_due = 3
number_of sound_due = 3
number_of filler_bit = 8
number_of song_type = 4
number_of title_length = 0
number_of (title_character unicode) = 21
number_of pattern_count = 5
number_of header_id = 6
number_of (header_rest known) = 7
number_of instruction_id = 6
number_of (instruction_rest k) = 6
number_of filler_run = 8
number_of end_octet = 9

-- a refusal n of the bits from p to e: they are an element; the input stops before its end and n is 2, or it is complete and n is its own number
pub record AtFault (l : List Bool) (n p e : ℕ) : Type 0 where
  pub which : Element
  pub ends : e ≡ p + width_of which p
  pub why : ((n ≡ 2) × (length l < e)) ⊎ ((n ≡ number_of which) × (e ≤ length l) × (fine_in which (field l p (width_of which p)) ≡ false))

-- ---- every refusal of reading is of such an element

-- what was read, or a refusal of such an element
abbrev Blamed : {A : Type 0} → List Bool → Got A → Type 0
Blamed l (got a p) = Unit {0}
Blamed l (bad n p e) = AtFault l n p e

-- a reader whose every refusal is of an element
record Blames {A : Type 0} (r : Reader A) : Type 0 where
  one : (l : List Bool) (at : ℕ) → Blamed l (r l at)

return_blames : {A : Type 0} (a : A) → Blames (return a)
return_blames a = record { one = λ l at. tt }

element_blames : (x : Element) → Blames (λ l at. element (width_of x at) (fine_in x) (number_of x) l at)
unfolding element
element_blames x = record {
  one = λ l at.
      let e = at + width_of x at in
      pick_elim (Blamed l) (ltb (length l) e) (λ h. record { which = x; ends = refl; why = inl (refl, ltb-true (length l) e h) }) (λ h.
      pick_elim (Blamed l) (fine_in x (field l at (width_of x at))) (λ _. tt) (λ f. record { which = x; ends = refl; why = inr (refl, ltb-false (length l) e h, f) }));
}

then_blames : {A B : Type 0} {r : Reader A} {f : A → Reader B} → Blames r → ((a : A) → Blames (f a)) → Blames (r >>= f)
then_blames {A} {B} {r} {f} h k = record { one = λ l at. go l (r l at) (h.one l at) }
  where
    go : (l : List Bool) (g : Got A) → Blamed l g → Blamed l (onward g (λ a p. f a l p) bad)
    go l (got a p) s = (k a).one l p
    go l (bad n p e) s = s

text_blames : (unicode : Bool) (n : ℕ) → Blames (text unicode n)
unfolding text character
text_blames unicode zero = return_blames []
text_blames unicode (suc n) =
    then_blames (then_blames (element_blames (title_character unicode)) (λ c. return_blames _)) (λ c.
    then_blames (text_blames unicode n) (λ rest. return_blames _))

body_blames : (n : ℕ) → Blames (body_due n)
unfolding body_due instruction_due
body_blames zero = return_blames []
body_blames (suc n) =
    then_blames (then_blames (element_blames instruction_id) (λ k.
    then_blames (element_blames (instruction_rest k)) (λ p. return_blames _))) (λ e.
    then_blames (body_blames n) (λ b. return_blames _))

patterns_blame : (n : ℕ) (known : List Bool) → Blames (patterns_due n known)
unfolding patterns_due header_due
patterns_blame zero known = return_blames []
patterns_blame (suc n) known =
    then_blames (then_blames (element_blames header_id) (λ _. element_blames (header_rest known))) (λ h.
    then_blames (body_blames (specifier h)) (λ b.
    then_blames (patterns_blame n (learn known h)) (λ ps. return_blames _)))

command_blames : Blames command
unfolding command parts filled whether_unicode sound_part
command_blames =
    then_blames (element_blames length_octet) (λ n.
    then_blames (then_blames (element_blames programming_due) (λ _. element_blames filler_bit)) (λ _.
    then_blames (pick_elim Blames (eqb n 3) (λ _. then_blames (then_blames (element_blames unicode_due) (λ _. element_blames filler_bit)) (λ _. return_blames true)) (λ _. return_blames false)) (λ u.
    then_blames (element_blames sound_due) (λ _. return_blames u))))

front_blames : Blames front
unfolding front typed titled title counted
front_blames =
    then_blames command_blames (λ u.
    then_blames (element_blames song_type) (λ s.
    then_blames (pick_elim Blames (eqb s 1) (λ _. then_blames (element_blames title_length) (text_blames u)) (λ _. return_blames [])) (λ o.
    then_blames (element_blames pattern_count) (λ n. return_blames _))))

whole_blames : Blames whole_tone
unfolding whole_tone rest ending
whole_blames =
    then_blames front_blames (λ f.
    then_blames (then_blames (patterns_blame f.count none_known) (λ ps.
    then_blames (then_blames (element_blames filler_run) (λ _. element_blames end_octet)) (λ _. return_blames ps))) (λ ps. return_blames _))

-- where the bits of a message are refused, one of its elements is at fault
pub at_fault : (l : List Bool) {n p e : ℕ} → whole_tone l 0 ≡ bad n p e → AtFault l n p e
at_fault l q = subst (Blamed l) q (whole_blames.one l 0)

-- ---- the numbers

-- a number from `least` to `most`, or 21
abbrev pub Among : ℕ → ℕ → ℕ → Type 0
Among least most n = ((least ≤ n) × (n ≤ most)) ⊎ (n ≡ 21)

-- one that is judged is refused with 3 to 9 or 21
element_number : (x : Element) (v : ℕ) → fine_in x v ≡ false → Among 3 9 (number_of x)
element_number length_octet v h = inl (lit≤ tt, lit≤ tt)
element_number programming_due v h = inl (lit≤ tt, lit≤ tt)
element_number unicode_due v h = inl (lit≤ tt, lit≤ tt)
element_number sound_due v h = inl (lit≤ tt, lit≤ tt)
element_number filler_bit v h = inl (lit≤ tt, lit≤ tt)
element_number song_type v h = inl (lit≤ tt, lit≤ tt)
element_number title_length v h = absurd (true≢false h)
element_number (title_character unicode) v h = inr refl
element_number pattern_count v h = inl (lit≤ tt, lit≤ tt)
element_number header_id v h = inl (lit≤ tt, lit≤ tt)
element_number (header_rest known) v h = inl (lit≤ tt, lit≤ tt)
element_number instruction_id v h = inl (lit≤ tt, lit≤ tt)
element_number (instruction_rest k) v h = inl (lit≤ tt, lit≤ tt)
element_number filler_run v h = inl (lit≤ tt, lit≤ tt)
element_number end_octet v h = inl (lit≤ tt, lit≤ tt)

-- so an element is refused with 2 to 9 or 21
pub fault_number : {l : List Bool} {n p e : ℕ} → AtFault l n p e → Among 2 9 n
fault_number {l} {n} {p} f = ⊎_elim (λ w. inl (omega (arith, w.0), omega (arith, w.0))) (λ w. judged w (element_number f.which (field l p (width_of f.which p)) w.2)) f.why
  where
    judged : {x y : Type 0} → (n ≡ number_of f.which) × x × y → Among 3 9 (number_of f.which) → Among 2 9 n
    judged w a = ⊎_elim (λ b. inl (omega (arith, w.0, b.0), omega (arith, w.0, b.1))) (λ b. inr (w.0 ∙ b)) a

-- an outcome whose refusal has a number up to `most`, or 21
abbrev pub Numbered : {A : Type 0} → ℕ → Outcome A → Type 0
Numbered most (accepted a) = Unit {0}
Numbered most (refused n p) = Among 1 most n

-- reading gives 1 to 10, or 21
pub read_number : (m : List ℕ) (n p : ℕ) → read_tone m ≡ refused n p → Among 1 10 n
unfolding read_tone
read_number m n p e =
    subst (Numbered 10) e (pick_elim (Numbered 10) (ltb most_octets (length m)) (λ _. inl (lit≤ tt, lit≤ tt)) (λ _. go (whole_tone (bits_of m) 0) refl))
  where
    go : (g : Got Tone) → whole_tone (bits_of m) 0 ≡ g → Numbered 10 (nothing_more (place_after (length m)) g)
    go (got t p) q = pick_elim (Numbered 10) (eqb p (place_after (length m))) (λ _. tt) (λ _. inl (lit≤ tt, lit≤ tt))
    go (bad n p e) q = ⊎_elim (λ w. inl (omega (arith, w.0), omega (arith, w.1))) (λ w. inr w) (fault_number (at_fault (bits_of m) q))

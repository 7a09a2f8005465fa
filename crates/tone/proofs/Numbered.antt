-- Every refusal of reading a tone has one of document 01's numbers.
use Rattle.std.specs.Prelude.{ℕ, zero, suc, ◌+◌, ◌/◌, ◌%◌, Bool, true, false, ◌||◌, List, [], ◌∷◌, ◌++◌, length, leb, ltb, eqb, ⊤, refl}
use Rattle.bits.specs.Choice.{pick}
use Rattle.bits.specs.Bits.{bits_of, field, filler_to, place_after}
use Rattle.bits.specs.Outcome.{accepted, refused}
use Rattle.bits.proofs.Refusals.{Given, GivenBy, given_pick}
use Rattle.tone.specs.Tone.{Pattern, Tone, Front, pattern, allowed_character, character_bits, recallable, learn, specifier, none_known}
use Rattle.tone.specs.Table.{entry, allowed, is_instruction, width}
use Rattle.tone.specs.Writing.{programming, unicode_part, sound, most_octets}
use Rattle.tone.specs.Reading.{Got, got, bad, Reader, onward, ◌>>=◌, ◌>>◌, return, element, any_of, part, filler_bit, length_octet, filled, whether_unicode, sound_part, parts, command, song_type, character, text, title, pattern_count, counted, titled, typed, front, header_due, instruction_due, body_due, patterns_due, filler_run, end_octet, ending, rest, whole_tone, nothing_more, read_tone}

-- what was read, with such a number where it is refused
abbrev pub GivenByGot : {A : Type 0} → Got A → Type 0
GivenByGot (got a p) = ⊤
GivenByGot (bad n p e) = Given n

-- a reader whose every refusal has one
abbrev pub Numbered : {A : Type 0} → Reader A → Type 0
Numbered r = (l : List Bool) (at : ℕ) → GivenByGot (r l at)

-- ---- the ways of putting readers together

pub numbered_pick : {A : Type 0} (t : Bool) (r s : Reader A) → Numbered r → Numbered s → Numbered (pick t r s)
numbered_pick true r s g h = g
numbered_pick false r s g h = h

pub numbered_then : {A B : Type 0} (r : Reader A) (f : A → Reader B) → Numbered r → ((a : A) → Numbered (f a)) → Numbered (r >>= f)
numbered_then {A} r f g h l at = go (r l at) (g l at)
  where
    go : (x : Got A) → GivenByGot x → GivenByGot (onward x (λ a p. f a l p) bad)
    go (got a p) k = h a l p
    go (bad n p e) k = k

pub numbered_return : {A : Type 0} (a : A) → Numbered (return a)
numbered_return a l at = tt

-- an element, whose judgement has one
pub numbered_element : (w : ℕ) (fine : ℕ → Bool) (number : ℕ) → Given number → Numbered (element w fine number)
unfolding element
numbered_element w fine number g l at = cut (ltb (length l) (at + w))
  where
    judged : (t : Bool) → GivenByGot (pick t (got (field l at w) (at + w)) (bad number at (at + w)))
    judged true = tt
    judged false = g

    cut : (t : Bool) → GivenByGot (pick t (bad 2 at (at + w)) (pick (fine (field l at w)) (got (field l at w) (at + w)) (bad number at (at + w))))
    cut true = refl
    cut false = judged (fine (field l at w))

-- an element that every code is allowed in is refused only where it is cut short
pub numbered_any : (w : ℕ) → Numbered (any_of w)
unfolding element
numbered_any w l at = cut (ltb (length l) (at + w))
  where
    cut : (t : Bool) → GivenByGot (pick t (bad 2 at (at + w)) (got (field l at w) (at + w)))
    cut true = refl
    cut false = tt

-- ---- the front

pub filled_numbered : (code : ℕ) → Numbered (filled code)
unfolding filled
filled_numbered code = numbered_then (part code) (λ _. filler_bit) (numbered_element 7 (eqb code) 3 refl) (λ _. numbered_element 1 (eqb 0) 8 refl)

pub whether_unicode_numbered : (n : ℕ) → Numbered (whether_unicode n)
unfolding whether_unicode
whether_unicode_numbered n =
    numbered_pick (eqb n 3) (filled unicode_part >> return true) (return false)
    (numbered_then (filled unicode_part) (λ _. return true) (filled_numbered unicode_part) (λ _. numbered_return true))
    (numbered_return false)

pub sound_part_numbered : (unicode : Bool) → Numbered (sound_part unicode)
unfolding sound_part
sound_part_numbered unicode = numbered_then (part sound) (λ _. return unicode) (numbered_element 7 (eqb sound) 3 refl) (λ _. numbered_return unicode)

pub parts_numbered : (n : ℕ) → Numbered (parts n)
unfolding parts
parts_numbered n =
    numbered_then (filled programming) (λ _. whether_unicode n >>= sound_part) (filled_numbered programming)
    (λ _. numbered_then (whether_unicode n) sound_part (whether_unicode_numbered n) sound_part_numbered)

pub command_numbered : Numbered command
unfolding command
command_numbered = numbered_then length_octet parts (numbered_element 8 (λ n. eqb n 2 || eqb n 3) 3 refl) parts_numbered

pub character_numbered : (unicode : Bool) → Numbered (character unicode)
unfolding character
character_numbered unicode =
    numbered_then (element (character_bits unicode) allowed_character 21) (λ c. return (pick unicode (c / 256 ∷ c % 256 ∷ []) (c ∷ [])))
    (numbered_element (character_bits unicode) allowed_character 21 refl)
    (λ c. numbered_return (pick unicode (c / 256 ∷ c % 256 ∷ []) (c ∷ [])))

pub text_numbered : (unicode : Bool) (n : ℕ) → Numbered (text unicode n)
unfolding text
text_numbered unicode zero = numbered_return {A = List ℕ} []
text_numbered unicode (suc n) =
    numbered_then (character unicode) (λ c. text unicode n >>= (λ more. return (c ++ more))) (character_numbered unicode)
    (λ c. numbered_then (text unicode n) (λ more. return (c ++ more)) (text_numbered unicode n) (λ more. numbered_return (c ++ more)))

pub title_numbered : (song : ℕ) (unicode : Bool) → Numbered (title song unicode)
unfolding title
title_numbered song unicode =
    numbered_pick (eqb song 1) (any_of 4 >>= text unicode) (return [])
    (numbered_then (any_of 4) (text unicode) (numbered_any 4) (text_numbered unicode))
    (numbered_return {A = List ℕ} [])

pub counted_numbered : (song : ℕ) (unicode : Bool) (octets : List ℕ) → Numbered (counted song unicode octets)
unfolding counted
counted_numbered song unicode octets =
    numbered_then pattern_count (λ n. return (record { song = song; unicode = unicode; title = octets; count = n }))
    (numbered_element 8 (leb 1) 5 refl)
    (λ n. numbered_return {A = Front} (record { song = song; unicode = unicode; title = octets; count = n }))

pub titled_numbered : (song : ℕ) (unicode : Bool) → Numbered (titled song unicode)
unfolding titled
titled_numbered song unicode = numbered_then (title song unicode) (counted song unicode) (title_numbered song unicode) (counted_numbered song unicode)

pub typed_numbered : (unicode : Bool) → Numbered (typed unicode)
unfolding typed
typed_numbered unicode =
    numbered_then song_type (λ song. titled song unicode) (numbered_element 3 (λ n. eqb n 1 || eqb n 2) 4 refl) (λ song. titled_numbered song unicode)

pub front_numbered : Numbered front
unfolding front
front_numbered = numbered_then command typed command_numbered typed_numbered

-- ---- the patterns

pub header_due_numbered : (known : List Bool) → Numbered (header_due known)
unfolding header_due
header_due_numbered known =
    numbered_then (element 3 (eqb 0) 6) (λ _. element 14 (recallable known) 7)
    (numbered_element 3 (eqb 0) 6 refl)
    (λ _. numbered_element 14 (recallable known) 7 refl)

pub instruction_due_numbered : Numbered instruction_due
unfolding instruction_due
instruction_due_numbered =
    numbered_then (element 3 is_instruction 6) (λ k. element (width k) (allowed k) 6 >>= (λ p. return (entry k p)))
    (numbered_element 3 is_instruction 6 refl)
    (λ k. numbered_then (element (width k) (allowed k) 6) (λ p. return (entry k p)) (numbered_element (width k) (allowed k) 6 refl) (λ p. numbered_return (entry k p)))

pub body_due_numbered : (n : ℕ) → Numbered (body_due n)
unfolding body_due
body_due_numbered zero = numbered_return {A = List ℕ} []
body_due_numbered (suc n) =
    numbered_then instruction_due (λ e. body_due n >>= (λ b. return (e ∷ b))) instruction_due_numbered
    (λ e. numbered_then (body_due n) (λ b. return (e ∷ b)) (body_due_numbered n) (λ b. numbered_return (e ∷ b)))

pub patterns_due_numbered : (n : ℕ) (known : List Bool) → Numbered (patterns_due n known)
unfolding patterns_due
patterns_due_numbered zero known = numbered_return {A = List Pattern} []
patterns_due_numbered (suc n) known =
    numbered_then (header_due known) (λ h. body_due (specifier h) >>= (λ b. patterns_due n (learn known h) >>= (λ ps. return (pattern h b ∷ ps))))
    (header_due_numbered known)
    (λ h. numbered_then (body_due (specifier h)) (λ b. patterns_due n (learn known h) >>= (λ ps. return (pattern h b ∷ ps)))
    (body_due_numbered (specifier h))
    (λ b. numbered_then (patterns_due n (learn known h)) (λ ps. return (pattern h b ∷ ps))
    (patterns_due_numbered n (learn known h))
    (λ ps. numbered_return (pattern h b ∷ ps))))

-- ---- the end, and the whole

pub filler_run_numbered : Numbered filler_run
filler_run_numbered l at = numbered_element (filler_to at) (eqb 0) 8 refl l at

pub ending_numbered : Numbered ending
unfolding ending
ending_numbered = numbered_then filler_run (λ _. end_octet) filler_run_numbered (λ _. numbered_element 8 (eqb 0) 9 refl)

pub rest_numbered : (n : ℕ) → Numbered (rest n)
unfolding rest
rest_numbered n =
    numbered_then (patterns_due n none_known) (λ ps. ending >> return ps) (patterns_due_numbered n none_known)
    (λ ps. numbered_then ending (λ _. return ps) ending_numbered (λ _. numbered_return ps))

pub whole_numbered : (l : List Bool) (at : ℕ) → GivenByGot (whole_tone l at)
unfolding whole_tone
whole_numbered =
    numbered_then front (λ f. rest f.count >>= (λ ps. return (record { song = f.song; unicode = f.unicode; title = f.title; patterns = ps })))
    front_numbered
    (λ f. numbered_then (rest f.count) (λ ps. return (record { song = f.song; unicode = f.unicode; title = f.title; patterns = ps }))
    (rest_numbered f.count)
    (λ ps. numbered_return {A = Tone} (record { song = f.song; unicode = f.unicode; title = f.title; patterns = ps })))

-- the bound on the octets, the tone, and that nothing follows its end
pub tone_numbered : (m : List ℕ) → GivenBy (read_tone m)
unfolding read_tone
tone_numbered m =
    given_pick (ltb most_octets (length m)) (refused 1 0) (nothing_more (place_after (length m)) (whole_tone (bits_of m) 0))
    refl
    (more (whole_tone (bits_of m) 0) (whole_numbered (bits_of m) 0))
  where
    more : (x : Got Tone) → GivenByGot x → GivenBy (nothing_more (place_after (length m)) x)
    more (got t p) g = given_pick (eqb p (place_after (length m))) (accepted t) (refused 10 p) tt refl
    more (bad n p e) g = g

-- Reading a tone message: elements left to right, each complete before it is judged.
use Rattle.std.specs.Prelude.{ℕ, zero, suc, ◌+◌, ◌-◌, ◌/◌, ◌%◌, Bool, true, false, ◌||◌, List, [], ◌∷◌, ◌++◌, length, leb, ltb, eqb}
use Rattle.bits.specs.Choice.{pick}
use Rattle.bits.specs.Bits.{field, bits_of, filler_to, place_after, octets_before}
use Rattle.bits.specs.Outcome.{Outcome, accepted, refused}
use Rattle.tone.specs.Table.{entry, width, allowed, is_instruction}
use Rattle.tone.specs.Tone.{Pattern, Tone, Front, character_bits, allowed_character, specifier, pattern, none_known, recallable, learn}
use Rattle.tone.specs.Writing.{programming, unicode_part, sound, most_octets}

-- what reading gives: a value and the place behind it, or a refusal: its number, where the faulty element begins and where it ends
pub data Got (A : Type 0) : Type 0 where
  got : A → ℕ → Got A
  bad : ℕ → ℕ → ℕ → Got A

-- a reader is handed the bits of a message and a place
abbrev pub Reader : Type 0 → Type 0
Reader A = List Bool → ℕ → Got A

-- what was read goes to the next reader
abbrev pub onward {ℓ} : {A : Type 0} {B : Type ℓ} → Got A → (A → ℕ → B) → (ℕ → ℕ → ℕ → B) → B
onward (got a p) f g = f a p
onward (bad n p e) f g = g n p e

infixr 20 ◌>>=◌
infixr 20 ◌>>◌
-- one reader, and then the next
abbrev pub ◌>>=◌ : {A B : Type 0} → Reader A → (A → Reader B) → Reader B
◌>>=◌ r f l at = onward (r l at) (λ a p. f a l p) bad

abbrev pub ◌>>◌ : {A B : Type 0} → Reader A → Reader B → Reader B
◌>>◌ r s = r >>= (λ _. s)

-- a value with nothing read
abbrev pub return : {A : Type 0} → A → Reader A
return a l at = got a at

-- an element of w bits: 2 where the input stops before its end, and then its judgement
unfoldable pub element : ℕ → (ℕ → Bool) → ℕ → Reader ℕ
element w fine number l at =
    pick (ltb (length l) (at + w)) (bad 2 at (at + w))
    (pick (fine (field l at w)) (got (field l at w) (at + w)) (bad number at (at + w)))

-- an element that every code is allowed in
abbrev pub any_of : ℕ → Reader ℕ
any_of w = element w (λ _. true) 0

-- ---- the front

-- a command part: 3 where it is not the one due
abbrev pub part : ℕ → Reader ℕ
part code = element 7 (eqb code) 3

-- a filler bit
abbrev pub filler_bit : Reader ℕ
filler_bit = element 1 (eqb 0) 8

-- the command length, 2, or 3 where the UNICODE part is present
abbrev pub length_octet : Reader ℕ
length_octet = element 8 (λ n. eqb n 2 || eqb n 3) 3

-- a command part and the filler bit behind it
unfoldable pub filled : ℕ → Reader ℕ
filled code = part code >> filler_bit

-- the UNICODE part where the length says so, and whether it is there
unfoldable pub whether_unicode : ℕ → Reader Bool
whether_unicode n = pick (eqb n 3) (filled unicode_part >> return true) (return false)

-- the sound part, with no filler behind it
unfoldable pub sound_part : Bool → Reader Bool
sound_part unicode = part sound >> return unicode

-- the parts that a command length of n announces
unfoldable pub parts : ℕ → Reader Bool
parts n = do
  filled programming
  unicode ← whether_unicode n
  sound_part unicode

-- the command up to the sound part
unfoldable pub command : Reader Bool
command = length_octet >>= parts

-- the song type: basic or temporary
abbrev pub song_type : Reader ℕ
song_type = element 3 (λ n. eqb n 1 || eqb n 2) 4

-- a title's character, judged as one number: one octet, or two, high octet first, under UNICODE
unfoldable pub character : Bool → Reader (List ℕ)
character unicode = do
  c ← element (character_bits unicode) allowed_character 21
  return (pick unicode (c / 256 ∷ c % 256 ∷ []) (c ∷ []))

-- so many characters
unfoldable pub text : Bool → ℕ → Reader (List ℕ)
text unicode zero = return []
text unicode (suc n) = do
  c ← character unicode
  rest ← text unicode n
  return (c ++ rest)

-- a basic song has a title, a temporary one none
unfoldable pub title : ℕ → Bool → Reader (List ℕ)
title song unicode = pick (eqb song 1) (any_of 4 >>= text unicode) (return [])

-- how many patterns follow: at least one
abbrev pub pattern_count : Reader ℕ
pattern_count = element 8 (leb 1) 5

-- the pattern count, which ends the front
unfoldable pub counted : ℕ → Bool → List ℕ → Reader Front
counted song unicode octets = do
  n ← pattern_count
  return (record { song = song; unicode = unicode; title = octets; count = n })

-- the title, and what follows it
unfoldable pub titled : ℕ → Bool → Reader Front
titled song unicode = title song unicode >>= counted song unicode

-- the song type, and what follows it
unfoldable pub typed : Bool → Reader Front
typed unicode = do
  song ← song_type
  titled song unicode

-- the command, the song type, the title and the pattern count
unfoldable pub front : Reader Front
front = command >>= typed

-- ---- the patterns

-- a header: its id is due, and what it recalls is known
unfoldable pub header_due : List Bool → Reader ℕ
header_due known = element 3 (eqb 0) 6 >> element 14 (recallable known) 7

-- an instruction: its id is due, and its code is in the table
unfoldable pub instruction_due : Reader ℕ
instruction_due = do
  k ← element 3 is_instruction 6
  p ← element (width k) (allowed k) 6
  return (entry k p)

-- so many instructions
unfoldable pub body_due : ℕ → Reader (List ℕ)
body_due zero = return []
body_due (suc n) = do
  e ← instruction_due
  b ← body_due n
  return (e ∷ b)

-- so many patterns
unfoldable pub patterns_due : ℕ → List Bool → Reader (List Pattern)
patterns_due zero known = return []
patterns_due (suc n) known = do
  h ← header_due known
  b ← body_due (specifier h)
  ps ← patterns_due n (learn known h)
  return (pattern h b ∷ ps)

-- ---- the end, and the whole

-- filler up to an octet's boundary
abbrev pub filler_run : Reader ℕ
filler_run l at = element (filler_to at) (eqb 0) 8 l at

-- the end octet 00
abbrev pub end_octet : Reader ℕ
end_octet = element 8 (eqb 0) 9

-- filler and the end octet
unfoldable pub ending : Reader ℕ
ending = filler_run >> end_octet

-- so many patterns, and the end
unfoldable pub rest : ℕ → Reader (List Pattern)
rest n = do
  ps ← patterns_due n none_known
  ending
  return ps

-- a tone, through its own end octet; what follows that is not looked at
unfoldable pub whole_tone : Reader Tone
whole_tone = do
  f ← front
  ps ← rest f.count
  return (record { song = f.song; unicode = f.unicode; title = f.title; patterns = ps })

-- nothing follows the end
abbrev pub nothing_more : ℕ → Got Tone → Outcome Tone
nothing_more end (got t p) = pick (eqb p end) (accepted t) (refused 10 p)
nothing_more end (bad n p e) = refused n p

-- reading a message: the bound on its octets first, and last that nothing follows its end
unfoldable pub read_tone : List ℕ → Outcome Tone
read_tone m =
    pick (ltb most_octets (length m)) (refused 1 0)
    (nothing_more (place_after (length m)) (whole_tone (bits_of m) 0))

-- ---- a tone inside something larger

-- how many octets were read from an octet on; none where reading was refused
abbrev pub octets_read : {A : Type 0} → ℕ → Got A → ℕ
octets_read start (got a p) = octets_before p - start
octets_read start (bad n p e) = 0

-- how many octets the tone has that starts at an octet, through its own end octet; none where no tone starts there
unfoldable pub tone_at : List ℕ → ℕ → ℕ
tone_at m start = octets_read start (whole_tone (bits_of m) (place_after start))

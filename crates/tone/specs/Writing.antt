-- The writing of a tone, bit by bit, in the order of document 01.
use Rattle.std.specs.Prelude.{ℕ, ◌+◌, ◌≤◌, Bool, false, List, [], ◌∷◌, ◌++◌, length, replicate, eqb}
use Rattle.bits.specs.Choice.{pick}
use Rattle.bits.specs.Bits.{bits_n, bits_of, octets, octets_to, filler_to}
use Rattle.tone.specs.Table.{kind, payload, width}
use Rattle.tone.specs.Tone.{Tone, Front, front_of, Formed, cells, characters}

-- ringing-tone programming, UNICODE and sound: the command parts of 000, table 3.7-1
abbrev pub programming : ℕ
programming = 0b0100101

abbrev pub unicode_part : ℕ
unicode_part = 0b0100010

abbrev pub sound : ℕ
sound = 0b0011101

-- how many command parts there are
abbrev pub command_length : Bool → ℕ
command_length unicode = pick unicode 3 2

-- a command part and the filler bit behind it
abbrev pub filled_part : ℕ → List Bool
filled_part code = bits_n 7 code ++ bits_n 1 0

-- the command: its length, programming, UNICODE where it is present, sound
unfoldable pub command_bits : Bool → List Bool
command_bits unicode = bits_n 8 (command_length unicode) ++ (filled_part programming ++ (pick unicode (filled_part unicode_part) [] ++ bits_n 7 sound))

-- a basic song's title: how many characters, and their octets
unfoldable pub title_bits : ℕ → Bool → List ℕ → List Bool
title_bits song unicode title = pick (eqb song 1) (bits_n 4 (characters unicode title) ++ bits_of title) []

-- an entry: its id and its payload
unfoldable pub entry_bits : ℕ → List Bool
entry_bits e = bits_n 3 (kind e) ++ bits_n (width (kind e)) (payload e)

-- the entries of a table one after the other
abbrev pub table_bits : List ℕ → List Bool
table_bits [] = []
table_bits (e ∷ t) = entry_bits e ++ table_bits t

-- the command, the song type, the title and the pattern count
unfoldable pub front_bits : Front → List Bool
front_bits f = command_bits f.unicode ++ (bits_n 3 f.song ++ (title_bits f.song f.unicode f.title ++ bits_n 8 f.count))

-- all that stands ahead of the filler
unfoldable pub song_bits : Tone → List Bool
song_bits t = front_bits (front_of t) ++ table_bits (cells t.patterns)

-- from a place on, filler to an octet's boundary and the end octet 00
abbrev pub end_bits : ℕ → List Bool
end_bits place = replicate (filler_to place + 8) false

-- the whole message as bits
unfoldable pub tone_bits : Tone → List Bool
tone_bits t = song_bits t ++ end_bits (length (song_bits t))

-- how many octets the message is
abbrev pub tone_length : Tone → ℕ
tone_length t = octets_to (length (song_bits t)) + 1

-- the message
unfoldable pub tone_octets : Tone → List ℕ
tone_octets t = octets (tone_length t) (tone_bits t)

-- the most octets that a tone's message has
abbrev pub most_octets : ℕ
most_octets = 4096

-- a tone that document 01 allows
pub record WellFormed (t : Tone) : Type 0 where
  pub formed : Formed t
  pub size : tone_length t ≤ most_octets

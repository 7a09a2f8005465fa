-- The settings, the fraction left over and the place in the tone, and what each instruction makes of them.
use Rattle.std.specs.Prelude.{ℕ, zero, suc, ◌+◌, ◌*◌, ◌/◌, ◌%◌, List, [], ◌∷◌, ◌++◌, get_or, drop, eqb}
use Rattle.bits.specs.Choice.{pick}
use Rattle.tone.specs.Table.{kind, payload, note_of, duration_of, specifier_of}
use Rattle.list_rules.specs.declared.Settings.{Settings}
use Rattle.list_rules.specs.declared.Entry.{Entry}
use Rattle.list_rules.specs.Duration.{beats, units, microseconds, left_over}

-- scale code 1, natural style, tempo code 8 and volume 7, the defaults of 000
abbrev pub defaults : Settings
defaults = record { scale = 1; style = 0; tempo = 8; volume = 7 }

-- the settings after an instruction
unfoldable pub applied : Settings → ℕ → Settings
applied s e =
    pick (eqb (kind e) 2) (record { scale = payload e; style = s.style; tempo = s.tempo; volume = s.volume })
    (pick (eqb (kind e) 3) (record { scale = s.scale; style = payload e; tempo = s.tempo; volume = s.volume })
    (pick (eqb (kind e) 4) (record { scale = s.scale; style = s.style; tempo = payload e; volume = s.volume })
    (pick (eqb (kind e) 5) (record { scale = s.scale; style = s.style; tempo = s.tempo; volume = payload e })
    s)))

-- ---- the walk's state

-- what one instruction hands on to the next: the settings; the fraction left over, in beats-ths of a microsecond; and its origin, which is
-- the position of the header that sounds, from 0 in the message, and that of the next instruction, from 0 in the body played
pub record State : Type 0 where
  pub settings : Settings
  pub fraction : ℕ
  pub header : ℕ
  pub position : ℕ

-- the start of the tone
abbrev pub at_start : State
at_start = record { settings = defaults; fraction = 0; header = 0; position = 0 }

-- the units of a note or pause
abbrev pub units_of : ℕ → ℕ
units_of p = units (duration_of p) (specifier_of p)

-- the beats in force
abbrev pub beats_at : State → ℕ
beats_at s = beats s.settings.tempo

-- the fraction after an instruction: a note or pause leaves its own, a tempo instruction restarts it, and others leave it as it is
unfoldable pub fraction_after : State → ℕ → ℕ
fraction_after s e =
    pick (eqb (kind e) 1) (left_over s.fraction (units_of (payload e)) (beats_at s))
    (pick (eqb (kind e) 4) 0
    s.fraction)

-- the state after an instruction: the next one of the same body is due
abbrev pub following : State → ℕ → State
following s e = record { settings = applied s.settings e; fraction = fraction_after s e; header = s.header; position = s.position + 1 }

-- ---- entries

-- the entry that a note or pause adds, with its origin
unfoldable pub sounded : State → ℕ → Entry
sounded s p = record {
  note = note_of p;
  scale = s.settings.scale;
  style = s.settings.style;
  volume = s.settings.volume;
  microseconds = microseconds s.fraction (units_of p) (beats_at s);
  header = s.header;
  position = s.position;
}

-- an entry's first number
abbrev pub packed : Entry → ℕ
packed r = r.note * 1024 + r.scale * 256 + r.style * 16 + r.volume

-- its third number, the origin: the position of the header that sounds × 256 + the instruction's in the body played
abbrev pub origin : Entry → ℕ
origin r = r.header * 256 + r.position

-- an entry in cells
abbrev pub in_cells : Entry → List ℕ
in_cells r = packed r ∷ r.microseconds ∷ origin r ∷ []

-- the number of its cells
abbrev pub entry_cells : ℕ
entry_cells = 3

-- the list in cells
abbrev pub numbers : List Entry → List ℕ
numbers [] = []
numbers (r ∷ rs) = in_cells r ++ numbers rs

-- an entry from its three numbers
unfoldable pub unpacked : ℕ → ℕ → ℕ → Entry
unpacked first second third = record {
  note = first / 1024;
  scale = first / 256 % 4;
  style = first / 16 % 16;
  volume = first % 16;
  microseconds = second;
  header = third / 256;
  position = third % 256;
}

-- the entry at a position of a list in cells
abbrev pub entry_at : List ℕ → ℕ → Entry
entry_at l i = unpacked (get_or l (i * entry_cells) 0) (get_or l (i * entry_cells + 1) 0) (get_or l (i * entry_cells + 2) 0)

-- its first n entries
abbrev pub entries_of : ℕ → List ℕ → List Entry
entries_of zero l = []
entries_of (suc n) l = entry_at l 0 ∷ entries_of n (drop entry_cells l)

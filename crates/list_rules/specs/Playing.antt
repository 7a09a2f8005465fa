-- The playing list of a tone: passes, recalls, loop 15 and the return mark.
use Rattle.std.specs.Prelude.{ℕ, zero, suc, ◌+◌, List, [], ◌∷◌, ◌++◌, length, eqb}
use Rattle.bits.specs.Choice.{pick}
use Rattle.tone.specs.Table.{kind, payload}
use Rattle.tone.specs.Tone.{Pattern, Tone}
use Rattle.list_count.specs.Bodies.{Remembered, no_bodies, passes_of, no_mark, body_of, remember}
use Rattle.list_rules.specs.declared.Entry.{Entry}
use Rattle.list_rules.specs.Sounding.{State, at_start, following, sounded}

-- entries that were added, and the state after them
pub record Played : Type 0 where
  pub entries : List Entry
  pub after : State

-- entries ahead of what was played
abbrev pub ahead : List Entry → Played → Played
ahead rs p = record { entries = rs ++ p.entries; after = p.after }

-- a note or pause adds its entry; each instruction hands on the next state
unfoldable pub step : State → ℕ → Played
step s e = record { entries = pick (eqb (kind e) 1) (sounded s (payload e) ∷ []) []; after = following s e }

-- one pass of a body
abbrev pub pass : State → List ℕ → Played
pass s [] = record { entries = []; after = s }
pass s (e ∷ b) = ahead (step s e).entries (pass (step s e).after b)

-- the state that a pass begins with, at the body's first instruction: with loop 15 the fraction restarts at zero, and with any other loop it
-- is carried on
abbrev pub begun : ℕ → State → State
begun loop s = record { settings = s.settings; fraction = pick (eqb loop 15) 0 s.fraction; header = s.header; position = 0 }

-- one pass of a body at a loop value
abbrev pub one_pass : ℕ → State → List ℕ → Played
one_pass loop s b = pass (begun loop s) b

-- so many passes at a loop value, the state carried on
abbrev pub passes : ℕ → ℕ → State → List ℕ → Played
passes loop zero s b = record { entries = []; after = s }
passes loop (suc n) s b = ahead (one_pass loop s b).entries (passes loop n (one_pass loop s b).after b)

-- ---- the list

-- the entries, and the position of the entry to return to
pub record Listing : Type 0 where
  pub entries : List Entry
  pub mark : ℕ

-- the mark of a loop 15 with n entries ahead, of which a pass adds these: the second pass's first entry, or none where a
-- pass adds no entry
abbrev pub mark_at : ℕ → List Entry → ℕ
mark_at n [] = no_mark
mark_at n (r ∷ rs) = n + length (r ∷ rs)

-- what a pattern adds
unfoldable pub pattern_played : State → List Remembered → Pattern → Played
pattern_played s bodies p = passes p.loop (passes_of p.loop) s (body_of bodies p)

-- the state at the next header
abbrev pub next_header : State → State
next_header s = record { settings = s.settings; fraction = s.fraction; header = s.header + 1; position = s.position }

-- the patterns from one on, with n entries listed: listing stops with a loop 15
abbrev pub play : State → List Remembered → ℕ → List Pattern → Listing
play s bodies n [] = record { entries = []; mark = no_mark }
play s bodies n (p ∷ ps) =
    let d = pattern_played s bodies p in
    let more = play (next_header d.after) (remember bodies p) (n + length d.entries) ps in
    pick (eqb p.loop 15)
    (record { entries = d.entries; mark = mark_at n (one_pass p.loop s (body_of bodies p)).entries })
    (record { entries = d.entries ++ more.entries; mark = more.mark })

-- the playing list of a tone
unfoldable pub playing_list : Tone → Listing
playing_list t = play at_start no_bodies 0 t.patterns

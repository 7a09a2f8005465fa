-- A table and a list of one message side by side, as `ohakelm_read` and `ohakelm_list` leave them: the third cell of an entry leads to its note.
use Prim.Native.Nat.{ℕ, suc, ◌+◌, ◌*◌, ◌/◌, ◌%◌, ◌<◌}
use native.Mathlib.Omega.{arith}
use mathlib.Core.Path.{◌≡◌, sym, ap, ap₂, subst, ◌∙◌}
use mathlib.Core.Bool.{false}
use mathlib.Core.List.{List, ◌∷◌, ◌++◌}
use lib.ListN.{length, get_or, take, drop, take-append-drop, get_or-append}
use lib.Seq.{drop-cons}
use Rattle.bits.specs.Lent.{over}
use Rattle.bits.specs.Outcome.{Outcome, accepted}
use Rattle.tone.specs.Table.{kind, payload, note_of}
use Rattle.tone.specs.Tone.{Pattern, Tone, cells, pattern_at, header_cell}
use Rattle.tone.specs.Reading.{read_tone}
use Rattle.tone.proofs.Positions.{cell_inside}
use Rattle.tone.proofs.Demand2.{read_well_formed}
use Rattle.tone_read.specs.Promise.{read_into, table_after}
use Rattle.list_count.specs.Bodies.{is_recall}
use Rattle.list_rules.specs.declared.Entry.{Entry}
use Rattle.list_rules.specs.Duration.{microseconds}
use Rattle.list_rules.specs.Sounding.{units_of, beats_at, entry_cells, numbers}
use Rattle.list_rules.specs.Playing.{Listing, playing_list}
use Rattle.list_rules.proofs.Bounds.{list_bounded}
use Rattle.list_rules.proofs.Origins.{up_to, table_cell, origin_header, origin_inside, origin_leads}
use Rattle.list.specs.Promise.{cells_after}
use Rattle.list.proofs.Agreeing.{Agree, agree_at}
use Rattle.ohakelm.specs.declared.ToneAnswer.{ToneAnswer}
use Rattle.ohakelm.specs.declared.ListAnswer.{ListAnswer}
use Rattle.ohakelm.specs.Promise.{ReadExport, ListExport, list_into}

-- the header's position and the instruction's in an entry's third cell
abbrev pub header_lit : List ℕ → ℕ → ℕ
header_lit list j = get_or list (entry_cells * j + 2) 0 / 256

abbrev pub position_lit : List ℕ → ℕ → ℕ
position_lit list j = get_or list (entry_cells * j + 2) 0 % 256

-- the cell of the table that they lead to: 1 + position behind the header's
abbrev pub cell_lit : Tone → List ℕ → List ℕ → ℕ → ℕ
cell_lit t table list j = get_or table (header_cell t.patterns (header_lit list j) + (1 + position_lit list j)) 0

-- entry j is that cell's note: the cell is a note, its note value is the listed one, and the listed duration is the step's from its units, at the
-- tempo and the fraction that the entries listed ahead leave
pub record Lit (t : Tone) (table list : List ℕ) (j : ℕ) : Type 0 where
  pub note : kind (cell_lit t table list j) ≡ 1
  pub value : get_or list (entry_cells * j) 0 / 1024 ≡ note_of (payload (cell_lit t table list j))
  pub passed : ℕ
  pub ahead : take j (playing_list t).entries ≡ (up_to t.patterns (header_lit list j) passed (position_lit list j)).entries
  pub lasts : let now = (up_to t.patterns (header_lit list j) passed (position_lit list j)).after in
      get_or list (entry_cells * j + 1) 0 ≡ microseconds now.fraction (units_of (payload (cell_lit t table list j))) (beats_at now)

-- what stands past a list
abbrev none : Entry
none = record { note = 0; scale = 0; style = 0; volume = 0; microseconds = 0; header = 0; position = 0 }

-- a message that is t, read into a table and listed, each with room
module _ (m table title table' title' : List ℕ) (a : ToneAnswer) (x : ReadExport m table title table' title' a) (list list' : List ℕ) (b : ListAnswer) (y : ListExport m list list' b) (t : Tone)
    (tone : read_tone m ≡ accepted t) (read : read_into m (length title) (length table) ≡ accepted t) (listed : list_into m (length list) ≡ accepted (playing_list t)) where
  abbrev ps : List Pattern
  ps = t.patterns

  abbrev rs : List Entry
  rs = (playing_list t).entries

  table_is : table' ≡ over (cells ps) table
  table_is = x.leaves_table ∙ ap (λ (o : Outcome Tone). table_after o table) read

  list_is : list' ≡ over (numbers rs) list
  list_is = y.leaves ∙ ap (λ (o : Outcome Listing). cells_after o list) listed

  module _ (j : ℕ) (there : j < length rs) where
    abbrev r : Entry
    r = get_or rs j none

    agrees : Agree r list' j
    agrees = subst (λ (l : List ℕ). Agree r l j) (sym list_is) (agree_at rs (drop (length (numbers rs)) list) (list_bounded t (read_well_formed m t tone).formed) j none there)

    apart : rs ≡ take j rs ++ r ∷ drop (suc j) rs
    apart = sym (take-append-drop j rs) ∙ ap (λ (l : List Entry). take j rs ++ l) (drop-cons rs j none there)

    header_is : r.header ≡ header_lit list' j
    header_is = omega (arith, agrees.third, agrees.bounded.position)

    position_is : r.position ≡ position_lit list' j
    position_is = omega (arith, agrees.third, agrees.bounded.position)

    value_is : get_or list' (entry_cells * j) 0 / 1024 ≡ r.note
    value_is = let k = agrees.bounded in omega (arith, agrees.first, k.scale, k.style, k.volume)

    -- an entry of a definition leads, through the lent table, to its note
    pub lit : is_recall (pattern_at t.patterns (header_lit list' j)) ≡ false → Lit t table' list' j
    lit own =
        let mine : is_recall (pattern_at ps r.header) ≡ false = ap (λ (h : ℕ). is_recall (pattern_at ps h)) header_is ∙ own in
        let leads = origin_leads t (take j rs) r (drop (suc j) rs) apart mine in
        let known = origin_header t (take j rs) r (drop (suc j) rs) apart in
        let inside = cell_inside ps r.header r.position known (origin_inside t (take j rs) r (drop (suc j) rs) apart mine) in
        let at = header_cell ps r.header + (1 + r.position) in
        let cell : table_cell ps r.header r.position ≡ cell_lit t table' list' j =
        sym (ap (λ (l : List ℕ). get_or l at 0) table_is ∙ get_or-append (cells ps) (drop (length (cells ps)) table) 0 at inside)
        ∙ ap₂ (λ (h i : ℕ). get_or table' (header_cell ps h + (1 + i)) 0) header_is position_is in
        record {
          note = ap kind (sym cell) ∙ leads.note;
          value = value_is ∙ leads.value ∙ ap (λ (n : ℕ). note_of (payload n)) cell;
          passed = leads.passed;
          ahead = leads.listed ∙ ap₂ (λ (h i : ℕ). (up_to ps h leads.passed i).entries) header_is position_is;
          lasts = sym agrees.second ∙ leads.lasts
              ∙ (λ e. let now = (up_to ps (header_is e) leads.passed (position_is e)).after in microseconds now.fraction (units_of (payload (cell e))) (beats_at now));
        }

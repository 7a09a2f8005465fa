-- An edit at an entry's origin: it edits the instruction that sounds there.
use Prim.Native.Nat.{ℕ, ◌<◌}
use native.Mathlib.Omega.{arith}
use mathlib.Core.Path.{◌≡◌, refl, sym, ap, ◌∙◌}
use mathlib.Core.Bool.{Bool, true, false}
use mathlib.Core.List.{List, ◌∷◌, ◌++◌}
use lib.ListN.{length, take, drop}
use borrow.Author.Tests.{eqb-true, ne_eqb, lt-ltb, le-leb, lt-leb}
use Rattle.bits.specs.Bits.{bits_of}
use Rattle.bits.specs.Outcome.{accepted, refused}
use Rattle.tone.specs.Tone.{Tone, pattern_at}
use Rattle.tone.specs.Writing.{entry_bits}
use Rattle.tone.specs.Reading.{read_tone}
use Rattle.tone.proofs.Positions.{instruction_there}
use Rattle.list_count.specs.Bodies.{is_recall}
use Rattle.list_rules.specs.declared.Entry.{Entry}
use Rattle.list_rules.specs.Playing.{playing_list}
use Rattle.list_rules.proofs.Origins.{table_cell, LeadsTo, origin_header, origin_leads, origin_inside}
use Rattle.edit_change.specs.declared.Edit.{Edit}
use Rattle.edit_change.specs.declared.Edit.TheVariants.{Replace, Insert, Delete}
use Rattle.edit_change.specs.Change.{body_after, changed, in_body, is_there, carries_new, instruction_place}
use Rattle.std.specs.Prelude.{Result}
use Rattle.bits.specs.declared.refusal.Refusal.{Refusal}
use Rattle.edit.specs.declared.Edited.{Edited}
use Rattle.edit.specs.Editing.{edit_tone}
use Rattle.edit.specs.Promise.{EditPromise}
use Rattle.edit.proofs.Demand3.{pattern_after}
use Rattle.edit.proofs.Calls.{Accepting, new_length, Ahead, edit_conditions, edit_bits_ahead}

module _ (t : Tone) (front : List Entry) (r : Entry) (rest : List Entry) (h : (playing_list t).entries ≡ front ++ r ∷ rest) where
  -- ---- there is such an instruction

  -- of a definition: no edit at the entry's origin is refused with 12
  pub origin_is_there : is_recall (pattern_at t.patterns r.header) ≡ false → (ed : Edit) → is_there ed r.header r.position t.patterns ≡ true
  origin_is_there own ed =
      let n = length (pattern_at t.patterns r.header).body in
      let inside : r.position < n = origin_inside t front r rest h own in
      rw (lt-ltb r.header (length t.patterns) (origin_header t front r rest h), le-leb 1 n (omega arith)) (go ed n inside)
    where
      go : (ed : Edit) (n : ℕ) → r.position < n → in_body ed r.position n ≡ true
      go (Replace e) n l = lt-ltb r.position n l
      go (Insert e) n l = le-leb r.position n (omega arith)
      go Delete n l = lt-ltb r.position n l

  -- of a recall: each that carries an instruction of the table, or none, is
  pub recall_takes_none : is_recall (pattern_at t.patterns r.header) ≡ true → (ed : Edit) → carries_new ed ≡ true → edit_tone ed r.header r.position t ≡ refused 12 0
  recall_takes_none recall ed new =
      let n = length (pattern_at t.patterns r.header).body in
      rw (new, lt-ltb r.header (length t.patterns) (origin_header t front r rest h), lt-leb 1 n (omega (arith, eqb-true n 0 recall))) refl

  -- ---- an accepted edit

  -- demand 3 at the origin of an entry of the old list: it leads to the note listed; this note stands in the old message where the edit is; every
  -- bit ahead of it is unchanged but for its part's length; and of its body what the edit says is changed
  pub record EditsWhatSounds (ed : Edit) (old new : List Bool) : Type 0 where
    pub leads : LeadsTo t.patterns front r r.header
    pub stands_there : (more : List Bool) × (drop (instruction_place t r.header r.position) old ≡ entry_bits (table_cell t.patterns r.header r.position) ++ more)
    pub bits_ahead : Ahead r.header r.position t old new
    pub body : (pattern_at (changed ed r.header r.position t).patterns r.header).body ≡ body_after ed r.position (pattern_at t.patterns r.header).body

  pub edits_what_sounds : (buf : List ℕ) (used : ℕ) (ed : Edit) (list buf' list' : List ℕ) (a : Result Edited Refusal) → EditPromise buf used ed r.header r.position list buf' list' a
      → Accepting a → read_tone (take used buf) ≡ accepted t → EditsWhatSounds ed (bits_of (take used buf)) (bits_of (take (new_length a) buf'))
  edits_what_sounds buf used ed list buf' list' a p accepts q =
      let k = r.header in
      let i = r.position in
      let n = length (pattern_at t.patterns k).body in
      let grounds = (edit_conditions buf used ed k i list buf' list' a p accepts t q).grounds in
      let own : is_recall (pattern_at t.patterns k) ≡ false = ne_eqb n 0 (λ e. omega (arith, grounds.no_recall, e)) in
      let inside = origin_inside t front r rest h own in
      let bits = edit_bits_ahead buf used ed k i list buf' list' a p accepts t q in
      let stands = bits.stands_there inside in
      let cell = instruction_there t.patterns k i grounds.pattern inside in
      record {
        leads = origin_leads t front r rest h own;
        stands_there = (stands.0, stands.1 ∙ ap (λ (e : ℕ). entry_bits e ++ stands.0) (sym cell));
        bits_ahead = bits;
        body = ap (λ x. x.body) (pattern_after ed k i t grounds.pattern);
      }

-- What `edit_message` does, from its promise alone.
use Prim.Native.Nat.{ℕ, ◌+◌, ◌-◌, ◌*◌, ◌≤◌, ◌<◌}
use native.Mathlib.Omega.{arith}
use mathlib.Core.Path.{◌≡◌, refl, sym, ap, ap₂, subst, ◌∙◌}
use mathlib.Core.Logic.{◌↔◌}
use mathlib.Core.Bool.{Bool}
use mathlib.Core.List.{List, [], ◌∷◌, ◌++◌, append_assoc}
use lib.ListN.{length, get_or, take, drop, replicate, length-append, length-replicate, length-drop}
use lib.Seq.{take_at, drop_at, drop-drop}
use lib.IntN.{pos, ◌-ℤ◌}
use Rattle.bits.specs.Bits.{bits_of, Octets}
use Rattle.bits.specs.Lent.{over}
use Rattle.std.specs.Prelude.{Result, Ok, Err}
use Rattle.bits.specs.Outcome.{Outcome, accepted, refused}
use Rattle.bits.specs.Refusals.{number_of}
use Rattle.bits.specs.declared.refusal.Refusal.{Refusal}
use Rattle.bits.proofs.Answered.{by_number, refusal_answered}
use Rattle.bits.proofs.Octets.{octets_take}
use Rattle.tone.specs.Tone.{Tone, pattern_at, Formed}
use Rattle.tone.specs.Writing.{entry_bits, table_bits, tone_bits, tone_length, tone_octets}
use Rattle.tone.specs.Reading.{read_tone}
use Rattle.tone.proofs.Demand2.{read_formed, accepted_is_written, bits_tone_octets, length_tone_octets}
use Rattle.list.specs.declared.Listed.{Listed}
use Rattle.list_rules.specs.Sounding.{entry_cells, numbers}
use Rattle.list_rules.specs.Playing.{Listing, playing_list}
use Rattle.list_rules.specs.Listing.{fits_numbers, list_tone}
use Rattle.list.specs.Promise.{list_answer, cells_after, ListPromise}
use Rattle.list_rules.specs.declared.Entry.{Entry}
use Rattle.list_rules.proofs.Bounds.{list_bounded}
use Rattle.list_rules.proofs.Order.{cells_enough}
use Rattle.list_rules.proofs.Packing.{length_numbers}
use Rattle.list.proofs.Agreeing.{Agree, agree_at}
use Rattle.edit_change.specs.declared.Edit.{Edit}
use Rattle.edit.specs.declared.Edited.{Edited as Made}
use Rattle.edit_change.specs.Change.{changed, header_place, instruction_place}
use Rattle.edit.specs.Editing.{Edited, body_length, edit_message, buffer_after, list_after}
use Rattle.edit.specs.Promise.{Numbers, numbers_of, edit_numbers, made, edit_answer, EditPromise}
use Rattle.edit.proofs.Demand3.{unchanged, edit_formed, edit_reads_again}
use Rattle.edit.proofs.Numbered.{edit_numbered}
use Rattle.edit.proofs.Exactly.{Conditions, edited, accepted_when, edit_exactly}

-- an answer that accepts
abbrev pub Accepting : Result Made Refusal → Type 0
Accepting (Ok d) = Unit {0}
Accepting (Err r) = ⊥

-- the new length that an answer gives
abbrev pub new_length : Result Made Refusal → ℕ
new_length r = (numbers_of r).length

-- an accepting answer comes of an accepted edit
came : (used : ℕ) (o : Outcome Edited) (r : Result Made Refusal) → r ≡ edit_answer used o → Accepting r → (d : Edited) × (o ≡ accepted d)
came used (accepted d) r e a = (d, refl)
came used (refused n p) r e a = absurd (subst Accepting e a)

-- a buffer of new octets, zeros and the rest of an old one
lengths : (n used : ℕ) (new buf buf' : List ℕ) → length new ≡ n → n ≤ length buf → used ≤ length buf → buf' ≡ over (new ++ replicate (used - n) 0) buf
    → (take n buf' ≡ new) × (take (used - n) (drop n buf') ≡ replicate (used - n) 0) × (drop (n + (used - n)) buf' ≡ drop (n + (used - n)) buf) × (length buf' ≡ length buf)
lengths n used new buf buf' e h k q =
    let z : List ℕ = replicate (used - n) 0 in
    let lz : length z ≡ used - n = length-replicate (used - n) 0 in
    let l : length (new ++ z) ≡ n + (used - n) = length-append new z ∙ ap₂ (λ (x y : ℕ). x + y) e lz in
    let rest : List ℕ = drop (n + (used - n)) buf in
    let whole : buf' ≡ new ++ (z ++ rest) = q ∙ ap (λ (x : ℕ). (new ++ z) ++ drop x buf) l ∙ append_assoc new z rest in
    let d : drop n buf' ≡ z ++ rest = ap (drop n) whole ∙ drop_at new (z ++ rest) n e in (
      ap (take n) whole ∙ take_at new (z ++ rest) n e,
      ap (take (used - n)) d ∙ take_at z rest (used - n) lz,
      sym (drop-drop (used - n) n buf') ∙ ap (drop (used - n)) d ∙ drop_at z rest (used - n) lz,
      ap length whole ∙ length-append new (z ++ rest) ∙ ap₂ (λ (x y : ℕ). x + y) e (length-append z rest ∙ ap₂ (λ (x y : ℕ). x + y) lz (length-drop (n + (used - n)) buf)) ∙ omega arith,
    )

-- every bit ahead of the edited instruction, in a message before and after: all but the eight bits of that part's length are the same
pub record Ahead (k i : ℕ) (t : Tone) (old new : List Bool) : Type 0 where
  pub ahead_of_length : take (header_place t k + 9) new ≡ take (header_place t k + 9) old
  pub behind_length : take (length (table_bits (take i (pattern_at t.patterns k).body))) (drop (header_place t k + 9 + 8) new)
      ≡ take (length (table_bits (take i (pattern_at t.patterns k).body))) (drop (header_place t k + 9 + 8) old)
  -- the second of these stretches ends where the instruction begins
  pub up_to_instruction : length (table_bits (take i (pattern_at t.patterns k).body)) + (header_place t k + 9 + 8) ≡ instruction_place t k i
  -- and the old instruction stands there
  pub stands_there : i < body_length k t → (rest : List Bool) × (drop (instruction_place t k i) old ≡ entry_bits (get_or (pattern_at t.patterns k).body i 0) ++ rest)

-- an edit's list is that of t: as the message in the buffer is listed, as the answer counts it, and as the lent cells hold it, entry by entry, with what was lent behind it
pub record ListIs (t : Tone) (message lent list : List ℕ) (r : Result Made Refusal) : Type 0 where
  pub listed : list_tone message (fits_numbers (length lent)) ≡ accepted (playing_list t)
  pub entries : (numbers_of r).entries ≡ length (playing_list t).entries
  pub mark : (numbers_of r).mark ≡ (playing_list t).mark
  pub whole : list ≡ numbers (playing_list t).entries ++ drop (entry_cells * (numbers_of r).entries) lent
  pub each : (j : ℕ) (d : Entry) → j < (numbers_of r).entries → Agree (get_or (playing_list t).entries j d) list j

module _ (buf : List ℕ) (used : ℕ) (ed : Edit) (k i : ℕ) (list buf' list' : List ℕ) (r : Result Made Refusal) (p : EditPromise buf used ed k i list buf' list' r) where
  -- ---- acceptance

  -- the edit is accepted exactly if the conditions are met, one for each ground
  pub edit_accepted_exactly : Accepting r ↔ ((t : Tone) × Conditions buf used ed k i (length list) t)
  edit_accepted_exactly = (to, from)
    where
      to : Accepting r → (t : Tone) × Conditions buf used ed k i (length list) t
      to a =
          let d = came used (edit_message buf used ed k i (length list)) r p.answer a in
          let c = (edit_exactly buf used ed k i (length list) d.0).0 d.1 in
          (c.0, c.1)

      from : (t : Tone) × Conditions buf used ed k i (length list) t → Accepting r
      from c =
          let e : r ≡ edit_answer used (accepted (edited ed k i c.0)) = p.answer ∙ ap (edit_answer used) (accepted_when buf used ed k i (length list) c.0 c.1) in
          subst Accepting (sym e) tt

  -- ---- refusal

  -- the edit is refused with the number and the place that the rules give
  pub edit_refused_exactly : (e : Refusal) → (r ≡ Err e) ↔ (edit_message buf used ed k i (length list) ≡ refused (number_of e.why) e.place.0)
  edit_refused_exactly e = (
    λ h. refusal_answered (made used) (edit_message buf used ed k i (length list)) (edit_numbered buf used ed k i (length list)) (sym h ∙ p.answer),
    λ h. p.answer ∙ ap (edit_answer used) h ∙ ap (λ (x : Refusal). Err x) (by_number e),
  )

  -- a refusal leaves buffer and list as they were, and all other numbers are 0
  pub refusal_changes_nothing : (e : Refusal) → r ≡ Err e
      → (buf' ≡ buf) × (list' ≡ list) × (numbers_of r ≡ record { refusal = number_of e.why; place = e.place.0; length = 0; entries = 0; mark = 0; change = pos 0 })
  refusal_changes_nothing e h =
      let o = (edit_refused_exactly e).0 h in (
        p.buffer ∙ ap (λ (x : Outcome Edited). buffer_after x used buf) o,
        p.listed ∙ ap (λ (x : Outcome Edited). list_after x list) o,
        ap numbers_of h,
      )

  -- ---- an accepted edit of a message that reads as t

  module _ (a : Accepting r) (t : Tone) (q : read_tone (take used buf) ≡ accepted t) where
    -- the conditions are met for this t, a message reading as one tone only
    pub edit_conditions : Conditions buf used ed k i (length list) t
    edit_conditions =
        let c = edit_accepted_exactly.0 a in
        let e : accepted c.0 ≡ accepted t = sym c.1.reads ∙ q in
        let e' : c.0 ≡ t = cc in
        subst (Conditions buf used ed k i (length list)) e' c.1

    outcome : edit_message buf used ed k i (length list) ≡ accepted (edited ed k i t)
    outcome = accepted_when buf used ed k i (length list) t edit_conditions

    formed : Formed t
    formed = (read_formed (take used buf) t q).0

    -- the numbers: the new length, the entries and the mark of the changed tone's list, and the change, which is the new length minus the old
    pub edit_numbers_lem : numbers_of r ≡ record {
      refusal = 0;
      place = 0;
      length = tone_length (changed ed k i t);
      entries = length (playing_list (changed ed k i t)).entries;
      mark = (playing_list (changed ed k i t)).mark;
      change = pos (tone_length (changed ed k i t)) -ℤ pos used;
    }
    edit_numbers_lem = p.numbers ∙ ap (edit_numbers used) outcome

    length_is : new_length r ≡ tone_length (changed ed k i t)
    length_is = ap (λ (x : Numbers). x.length) edit_numbers_lem

    -- the change is the new length minus the old
    pub edit_change : (numbers_of r).change ≡ pos (new_length r) -ℤ pos used
    edit_change = ap (λ (x : Numbers). x.change) edit_numbers_lem ∙ ap (λ (x : ℕ). pos x -ℤ pos used) (sym length_is)

    cut : (take (new_length r) buf' ≡ tone_octets (changed ed k i t)) × (take (used - new_length r) (drop (new_length r) buf') ≡ replicate (used - new_length r) 0)
        × (drop (new_length r + (used - new_length r)) buf' ≡ drop (new_length r + (used - new_length r)) buf) × (length buf' ≡ length buf)
    cut =
        lengths (new_length r) used (tone_octets (changed ed k i t)) buf buf' (length_tone_octets (changed ed k i t) ∙ sym length_is) (rw length_is edit_conditions.room) edit_conditions.within
        (p.buffer ∙ ap (λ (x : Outcome Edited). buffer_after x used buf) outcome ∙ ap (λ (x : ℕ). over (tone_octets (changed ed k i t) ++ replicate (used - x) 0) buf) (sym length_is))

    -- the bytes are those that writing the changed tone afresh gives
    pub edit_bytes : take (new_length r) buf' ≡ tone_octets (changed ed k i t)
    edit_bytes = cut.0

    -- octets from the new length up to the old one are 0
    pub edit_clears : take (used - new_length r) (drop (new_length r) buf') ≡ replicate (used - new_length r) 0
    edit_clears = cut.1

    -- from the greater of both lengths on the buffer is unchanged
    pub edit_keeps_the_rest : (drop (new_length r + (used - new_length r)) buf' ≡ drop (new_length r + (used - new_length r)) buf) × (length buf' ≡ length buf)
    edit_keeps_the_rest = (cut.2, cut.3)

    -- the result reads again, as the changed tone
    pub edit_result_reads : read_tone (take (new_length r) buf') ≡ accepted (changed ed k i t)
    edit_result_reads = ap read_tone edit_bytes ∙ edit_reads_again ed k i t formed edit_conditions.grounds edit_conditions.size

    -- listing the new bytes gives the changed tone's list
    pub edit_listing : list_tone (take (new_length r) buf') (fits_numbers (length list)) ≡ accepted (playing_list (changed ed k i t))
    edit_listing = cells_enough (take (new_length r) buf') edit_result_reads (length list) edit_conditions.list_room

    -- the lent list holds it in cells, and beyond it what there was
    pub edit_list : list' ≡ numbers (playing_list (changed ed k i t)).entries ++ drop (entry_cells * (numbers_of r).entries) list
    edit_list =
        let rs = (playing_list (changed ed k i t)).entries in
        p.listed ∙ ap (λ (x : Outcome Edited). list_after x list) outcome ∙ ap (λ (x : ℕ). numbers rs ++ drop x list) (length_numbers rs ∙ ap (λ (x : ℕ). entry_cells * x) (sym (ap (λ (x : Numbers). x.entries) edit_numbers_lem)))

    -- all that is said of the list
    pub edit_list_is : ListIs (changed ed k i t) (take (new_length r) buf') list list' r
    edit_list_is =
        let rs = (playing_list (changed ed k i t)).entries in
        let n : (numbers_of r).entries ≡ length rs = ap (λ (x : Numbers). x.entries) edit_numbers_lem in
        record {
          listed = edit_listing;
          entries = n;
          mark = ap (λ (x : Numbers). x.mark) edit_numbers_lem;
          whole = edit_list;
          each = λ j d h. rw edit_list (agree_at rs (drop (entry_cells * (numbers_of r).entries) list) (list_bounded (changed ed k i t) (edit_formed ed k i t formed edit_conditions.grounds)) j d (rw (← n) h));
        }

    -- a call of `list::list` on the new bytes, with the list as it was lent, answers and leaves the same
    pub edit_list_afresh : (list'' : List ℕ) (s : Result Listed Refusal) → ListPromise (take (new_length r) buf') (fits_numbers (length list)) list list'' s → (s ≡ Ok (record { entries = (numbers_of r).entries; mark = (numbers_of r).mark })) × (list'' ≡ list')
    edit_list_afresh list'' s l = (
      l.answer ∙ ap list_answer edit_listing ∙ ap₂ (λ (x y : ℕ). Ok (record { entries = x; mark = y })) (sym (ap (λ (x : Numbers). x.entries) edit_numbers_lem)) (sym (ap (λ (x : Numbers). x.mark) edit_numbers_lem)),
      l.leaves ∙ ap (λ (x : Outcome Listing). cells_after x list) edit_listing ∙ sym (p.listed ∙ ap (λ (x : Outcome Edited). list_after x list) outcome),
    )

    -- every bit ahead of the edited instruction is unchanged but for that part's length
    pub edit_bits_ahead : Ahead k i t (bits_of (take used buf)) (bits_of (take (new_length r) buf'))
    edit_bits_ahead =
        let u = unchanged ed k i t formed (edit_formed ed k i t formed edit_conditions.grounds) edit_conditions.grounds.pattern in
        let old : bits_of (take used buf) ≡ tone_bits t = (read_formed (take used buf) t q).1 in
        let new : bits_of (take (new_length r) buf') ≡ tone_bits (changed ed k i t) = ap bits_of edit_bytes ∙ bits_tone_octets (changed ed k i t) in
        subst (λ (x : List Bool). Ahead k i t x (bits_of (take (new_length r) buf'))) (sym old)
        (subst (Ahead k i t (tone_bits t)) (sym new)
        (record { ahead_of_length = u.ahead_of_length; behind_length = u.ahead_of_instruction; up_to_instruction = u.of_the_length; stands_there = u.stands_there }))

-- ---- edits in a row

-- the result of an accepted edit can be edited again, its new length being the used one: the second edit is one of the changed tone
pub edit_again : (buf : List ℕ) (used : ℕ) (ed : Edit) (k i : ℕ) (list buf' list' : List ℕ) (r : Result Made Refusal) → EditPromise buf used ed k i list buf' list' r
    → Accepting r → (t : Tone) → read_tone (take used buf) ≡ accepted t
    → (ed₂ : Edit) (k₂ i₂ : ℕ) (list₂ buf₂ list₂' : List ℕ) (r₂ : Result Made Refusal) → EditPromise buf' (new_length r) ed₂ k₂ i₂ list₂ buf₂ list₂' r₂
    → Accepting r₂ ↔ Conditions buf' (new_length r) ed₂ k₂ i₂ (length list₂) (changed ed k i t)
edit_again buf used ed k i list buf' list' r p a t q ed₂ k₂ i₂ list₂ buf₂ list₂' r₂ p₂ =
    let q₂ = edit_result_reads buf used ed k i list buf' list' r p a t q in (
      λ a₂. edit_conditions buf' (new_length r) ed₂ k₂ i₂ list₂ buf₂ list₂' r₂ p₂ a₂ (changed ed k i t) q₂,
      λ c. (edit_accepted_exactly buf' (new_length r) ed₂ k₂ i₂ list₂ buf₂ list₂' r₂ p₂).1 (changed ed k i t, c),
    )

-- a call: what it was handed beside the buffer, and what it answered and left
pub record Call : Type 0 where
  pub edit : Edit
  pub pattern : ℕ
  pub instruction : ℕ
  pub lent : List ℕ
  pub buffer : List ℕ
  pub list : List ℕ
  pub answer : Result Made Refusal

-- calls in a row, each accepted, each handed the buffer and the length that the one before it left
abbrev pub InARow : List ℕ → ℕ → List Call → Type 0
InARow buf used [] = Unit {0}
InARow buf used (c ∷ cs) =
    EditPromise buf used c.edit c.pattern c.instruction c.lent c.buffer c.list c.answer × Accepting c.answer × InARow c.buffer (new_length c.answer) cs

-- the buffer that they leave
abbrev pub buffer_left : List ℕ → List Call → List ℕ
buffer_left buf [] = buf
buffer_left buf (c ∷ cs) = buffer_left c.buffer cs

-- the length of the message in it
abbrev pub length_left : ℕ → List Call → ℕ
length_left used [] = used
length_left used (c ∷ cs) = length_left (new_length c.answer) cs

-- the tone that they make of one
abbrev pub changed_by : List Call → Tone → Tone
changed_by [] t = t
changed_by (c ∷ cs) t = changed_by cs (changed c.edit c.pattern c.instruction t)

-- any number of accepted edits in a row leave a message that reads as the tone changed by each in turn
pub row_reads : (cs : List Call) (buf : List ℕ) (used : ℕ) (t : Tone) → InARow buf used cs → read_tone (take used buf) ≡ accepted t
    → read_tone (take (length_left used cs) (buffer_left buf cs)) ≡ accepted (changed_by cs t)
row_reads [] buf used t h q = q
row_reads (c ∷ cs) buf used t h q =
    row_reads cs c.buffer (new_length c.answer) (changed c.edit c.pattern c.instruction t) h.2
    (edit_result_reads buf used c.edit c.pattern c.instruction c.lent c.buffer c.list c.answer h.0 h.1 t q)

-- where the bytes are a tone's to begin with, they are a tone's after each
row_bytes_from : (cs : List Call) (buf : List ℕ) (used : ℕ) (t : Tone) → InARow buf used cs → read_tone (take used buf) ≡ accepted t → take used buf ≡ tone_octets t
    → take (length_left used cs) (buffer_left buf cs) ≡ tone_octets (changed_by cs t)
row_bytes_from [] buf used t h q e = e
row_bytes_from (c ∷ cs) buf used t h q e =
    let ed = c.edit in
    let k = c.pattern in
    let i = c.instruction in
    row_bytes_from cs c.buffer (new_length c.answer) (changed ed k i t) h.2 (edit_result_reads buf used ed k i c.lent c.buffer c.list c.answer h.0 h.1 t q)
    (edit_bytes buf used ed k i c.lent c.buffer c.list c.answer h.0 h.1 t q)

-- and its bytes are those that writing this tone afresh gives; the buffer holds octets, as every slice of them does
pub row_bytes : (cs : List Call) (buf : List ℕ) (used : ℕ) (t : Tone) → InARow buf used cs → read_tone (take used buf) ≡ accepted t → Octets buf
    → take (length_left used cs) (buffer_left buf cs) ≡ tone_octets (changed_by cs t)
row_bytes cs buf used t h q o = row_bytes_from cs buf used t h q (sym (accepted_is_written (take used buf) t (octets_take used buf o) q).1)

-- the list that the last of them filled is that of the tone changed by each in turn, entry by entry, and it is what listing the message in the buffer gives
pub row_list : (cs : List Call) (c : Call) (buf : List ℕ) (used : ℕ) (t : Tone) → InARow buf used (cs ++ (c ∷ [])) → read_tone (take used buf) ≡ accepted t
    → ListIs (changed_by (cs ++ (c ∷ [])) t) (take (new_length c.answer) c.buffer) c.lent c.list c.answer
row_list [] c buf used t h q = edit_list_is buf used c.edit c.pattern c.instruction c.lent c.buffer c.list c.answer h.0 h.1 t q
row_list (b ∷ cs) c buf used t h q =
    row_list cs c b.buffer (new_length b.answer) (changed b.edit b.pattern b.instruction t) h.2
    (edit_result_reads buf used b.edit b.pattern b.instruction b.lent b.buffer b.list b.answer h.0 h.1 t q)

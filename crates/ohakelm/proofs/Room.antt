-- With the room of specs/Room.antt lent, no export refuses 11.
use Prim.Native.Nat.{ℕ, ◌*◌, ◌≤◌}
use native.Mathlib.Omega.{arith}
use mathlib.Core.Path.{◌≡◌, refl, sym, ap, subst, ◌∙◌}
use mathlib.Core.Logic.{⊎_elim}
use mathlib.Core.Bool.{Bool, true, false}
use mathlib.Core.List.{List}
use lib.ListN.{length, take}
use lib.Dec.{leb, eqb}
use borrow.Author.Tests.{le-leb, leb-true, leb-false, ne_eqb, eqb-false}
use Rattle.bits.specs.Outcome.{Outcome, accepted, refused, and_then}
use Rattle.bits.proofs.Choice.{pick_elim, then_elim}
use Rattle.tone.specs.Tone.{Tone, allowed_title, Formed, entries}
use Rattle.tone.specs.Writing.{tone_length, most_octets}
use Rattle.tone.specs.Reading.{read_tone}
use Rattle.tone.proofs.Demand2.{read_well_formed}
use Rattle.tone.proofs.Grounds.{read_number}
use Rattle.tone.proofs.Largest.{title_most, entries_most}
use Rattle.tone_read.specs.Promise.{read_numbers, roomed, read_into}
use Rattle.tone_table.specs.Judging.{judge_table}
use Rattle.tone_table.proofs.Grounds.{table_grounds}
use Rattle.tone_write.specs.Judging.{song_fine, title_fine, sized, tone_of, write_tone}
use Rattle.tone_write.specs.Promise.{write_numbers}
use Rattle.list_rules.specs.Sounding.{entry_cells}
use Rattle.list_rules.specs.declared.Entry.{Entry}
use Rattle.list_rules.specs.Playing.{Listing, playing_list}
use Rattle.list_rules.specs.Listing.{fits_numbers, fits_both, list_tone}
use Rattle.list_rules.proofs.Bounds.{list_most}
use Rattle.list.specs.Promise.{list_numbers}
use Rattle.edit_change.specs.declared.Edit.{Edit}
use Rattle.edit_change.specs.Change.{carries_new, is_there, empties, overfills}
use Rattle.edit.specs.Editing.{body_length, edit_tone, in_buffer, with_list, edit_message}
use Rattle.edit.specs.Promise.{edit_numbers}
use Rattle.edit.proofs.Demand3.{edit_grounds, edit_formed}
use Rattle.bitmap.specs.Bitmap.{Bitmap, writing_into}
use Rattle.bitmap.proofs.Rules.{bitmap, JudgedCase, judged_is, WritingCase, writing_is}
use Rattle.bitmap.proofs.Largest.{spelt_most}
use Rattle.bitmap_ahead.specs.declared.Kind.{Kind}
use Rattle.bitmap_ahead.specs.declared.Kind.TheVariants.{Plain, Icon, Logo}
use Rattle.bitmap_ahead.specs.Ahead.{Ahead, WellFormed, taken}
use Rattle.bitmap_ahead.proofs.Rules.{taken_formed}
use Rattle.bitmap_kinds.specs.Kinds.{Graphic, writing as kindOctets, with_ahead, judged, into_room, writing_into as kindInto}
use Rattle.bitmap_kinds.proofs.Rules.{graphic}
use Rattle.bitmap_kinds.proofs.Largest.{most_octets as kindMost, spelt_most as kind-most}
use Rattle.written.specs.Written.{write_numbers as written_numbers}
use Rattle.pack.specs.Pack.{write_pack}
use Rattle.pack.proofs.Order.{never_eleven}
use Rattle.salvage.specs.Salvage.{Salvaged, salvage}
use Rattle.salvage.specs.Promises.{salvage_numbers}
use Rattle.salvage.proofs.Order.{never_eleven as salvage-never-eleven}
use Rattle.pack_answers.specs.declared.SalvageAnswer.{SalvageAnswer}
use Rattle.pack_answers.specs.Promise.{PackWriteExport, PackSalvageExport}
use Rattle.ohakelm.specs.declared.ToneAnswer.{ToneAnswer}
use Rattle.written.specs.declared.WrittenAnswer.{WrittenAnswer}
use Rattle.ohakelm.specs.declared.ListAnswer.{ListAnswer}
use Rattle.ohakelm.specs.declared.EditAnswer.{EditAnswer}
use Rattle.ohakelm.specs.Promise.{ReadExport, WriteExport, ListExport, RowsExport, EditExport, BitmapWriteExport, KindWriteExport}
use Rattle.ohakelm.specs.Room.{title_room, table_room, tone_room, entries_room, list_room, bitmap_room, kind_room, pack_room, report_room}

-- accepted, or refused on another ground than 11
data Spared {A : Type 0} : Outcome A → Type 0 where
  none : {a : A} → Spared (accepted a)
  other : (n : ℕ) {p : ℕ} → eqb n 11 ≡ false → Spared (refused n p)

-- the number that an answer then holds is not 11
not_eleven : {A : Type 0} {o : Outcome A} (number : Outcome A → ℕ) → ((a : A) → number (accepted a) ≡ 0) → ((n p : ℕ) → number (refused n p) ≡ n) → Spared o → number o ≡ 11 → ⊥
not_eleven number z s (none {a = a}) e = omega (arith, z a, e)
not_eleven number z s (other n {p = p} h) e = eqb-false n 11 h (sym (s n p) ∙ e)

-- a refusal of reading
unread : (m : List ℕ) {A : Type 0} {n p : ℕ} → read_tone m ≡ refused n p → Spared {A = A} (refused n p)
unread m {n = n} {p = p} e = other n (ne_eqb n 11 (λ x. ⊎_elim (λ w. omega (arith, w.1, x)) (λ w. omega (arith, w, x)) (read_number m n p e)))

-- ---- reading a tone

read_spared : (m : List ℕ) (title table : ℕ) → title_room ≤ title → table_room ≤ table → Spared (read_into m title table)
read_spared m title table h k = go (read_tone m) refl
  where
    go : (o : Outcome Tone) → read_tone m ≡ o → Spared (roomed title table o)
    go (accepted t) e =
        let w = read_well_formed m t e in
        let f : length t.title ≤ title = omega (arith, title_most t.song t.unicode t.title w.formed.front.titled) in
        let g : entries t.patterns ≤ table = omega (arith, entries_most t w) in
        rw (le-leb (length t.title) title f, le-leb (entries t.patterns) table g) none
    go (refused n p) e = unread m e

-- `ohakelm_read`, with 30 octets for the title and 6,482 cells for the table
pub read_room : (m table title table' title' : List ℕ) (r : ToneAnswer) → ReadExport m table title table' title' r
    → table_room ≤ length table → title_room ≤ length title → r.refusal ≡ 11 → ⊥
read_room m table title table' title' r x h k e =
    not_eleven (λ o. (read_numbers o).refusal) (λ _. refl) (λ _ _. refl) (read_spared m (length title) (length table) k h)
    (sym (ap (λ (a : ToneAnswer). a.refusal) x.answer) ∙ e)

-- ---- writing a tone

sized_spared : (room : ℕ) (t : Tone) → tone_room ≤ room → Spared (sized room t)
unfolding sized
sized_spared room t h =
    let l = tone_length t in
    pick_elim Spared (leb l most_octets) (λ f.
    pick_elim Spared (leb l room) (λ _. none) (λ g. let z : ⊥ = omega (arith, leb-true l most_octets f, leb-false l room g) in absurd z))
    (λ _. other 1 refl)

write_spared : (song : ℕ) (unicode : Bool) (title table : List ℕ) (room : ℕ) → tone_room ≤ room → Spared (write_tone song unicode title table room)
unfolding write_tone
write_spared song unicode title table room h =
    pick_elim Spared (song_fine song) (λ _.
    pick_elim Spared (title_fine song unicode title) (λ _.
    pick_elim Spared (allowed_title unicode title) (λ _.
    then_elim Spared (judge_table table) (λ _ _. sized_spared room (tone_of song unicode title table) h)
    (λ n p e. other n (ne_eqb n 11 (λ x. ⊎_elim (λ w. omega (arith, w.1, x)) (λ w. omega (arith, w, x)) (table_grounds table e)))))
    (λ _. other 21 refl))
    (λ _. other 17 refl))
    (λ _. other 4 refl)

-- `ohakelm_write`, with 4,096 octets
pub write_room : (song : ℕ) (unicode : Bool) (title table out out' : List ℕ) (r : WrittenAnswer) → WriteExport song unicode title table out out' r
    → tone_room ≤ length out → r.refusal ≡ 11 → ⊥
write_room song unicode title table out out' r x h e =
    not_eleven (λ o. (write_numbers o).refusal) (λ _. refl) (λ _ _. refl) (write_spared song unicode title table (length out) h)
    (sym (ap (λ (a : WrittenAnswer). a.refusal) x.answer) ∙ e)

-- ---- the playing list

-- three cells an entry
pub list_cells : list_room ≡ 2926125
list_cells = refl

-- the cells of a list fit
numbers_fit : (room : ℕ) (t : Tone) → Formed t → list_room ≤ room → fits_numbers room (playing_list t) ≡ true
numbers_fit room t f h = le-leb (entry_cells * length (playing_list t).entries) room (omega (arith, list_most t f))

-- and its rows
both_fit : (room rows : ℕ) (t : Tone) → Formed t → list_room ≤ room → entries_room ≤ rows → fits_both room rows (playing_list t) ≡ true
both_fit room rows t f h k = rw (numbers_fit room t f h) (le-leb (length (playing_list t).entries) rows (omega (arith, list_most t f)))

list_spared : (m : List ℕ) (fits : Listing → Bool) → ((t : Tone) → Formed t → fits (playing_list t) ≡ true) → Spared (list_tone m fits)
unfolding list_tone
list_spared m fits h = then_elim Spared (read_tone m) (λ t e. rw (h t (read_well_formed m t e).formed) none) (λ n p e. unread m e)

-- `ohakelm_list`, with 2,926,125 cells
pub list_room_lem : (m list list' : List ℕ) (r : ListAnswer) → ListExport m list list' r → list_room ≤ length list → r.refusal ≡ 11 → ⊥
list_room_lem m list list' r x h e =
    not_eleven (λ o. (list_numbers o).refusal) (λ _. refl) (λ _ _. refl) (list_spared m (fits_numbers (length list)) (λ t f. numbers_fit (length list) t f h))
    (sym (ap (λ (a : ListAnswer). a.refusal) x.answer) ∙ e)

-- `ohakelm_rows`, with 2,926,125 cells and 975,375 rows
pub rows_room : (m list : List ℕ) (rows : List Entry) (list' : List ℕ) (rows' : List Entry) (r : ListAnswer) → RowsExport m list rows list' rows' r
    → list_room ≤ length list → entries_room ≤ length rows → r.refusal ≡ 11 → ⊥
rows_room m list rows list' rows' r x h k e =
    not_eleven (λ o. (list_numbers o).refusal) (λ _. refl) (λ _ _. refl)
    (list_spared m (fits_both (length list) (length rows)) (λ t f. both_fit (length list) (length rows) t f h k))
    (sym (ap (λ (a : ListAnswer). a.refusal) x.answer) ∙ e)

-- ---- edits

-- the edit's own grounds are 6, 12, 13 and 14
grounds_spared : (ed : Edit) (k i : ℕ) (t : Tone) → Spared (edit_tone ed k i t)
grounds_spared ed k i t =
    pick_elim Spared (carries_new ed) (λ _.
    pick_elim Spared (is_there ed k i t.patterns) (λ _.
    pick_elim Spared (empties ed (body_length k t)) (λ _. other 13 refl) (λ _.
    pick_elim Spared (overfills ed (body_length k t)) (λ _. other 14 refl) (λ _. none)))
    (λ _. other 12 refl))
    (λ _. other 6 refl)

-- a refusal of one rule is the same of the next
spared_on : {A B : Type 0} {n p : ℕ} → Spared {A = A} (refused n p) → Spared {A = B} (refused n p)
spared_on (other n h) = other n h

edit_spared : (ed : Edit) (buf : List ℕ) (used k i cells : ℕ) → tone_room ≤ length buf → list_room ≤ cells → Spared (edit_message buf used ed k i cells)
unfolding edit_message
edit_spared ed buf used k i cells h l =
    pick_elim Spared (leb used (length buf)) (λ _.
    then_elim (λ x. Spared (and_then (and_then x (in_buffer (length buf))) (with_list cells))) (read_tone (take used buf)) (λ t e.
    then_elim (λ x. Spared (and_then x (with_list cells))) (edit_tone ed k i t) (λ t' a.
    let g = edit_grounds ed k i t t' a in
    put t' (subst Formed (sym g.1) (edit_formed ed k i t (read_well_formed (take used buf) t e).formed g.0)))
    (λ n p a. spared_on (subst Spared a (grounds_spared ed k i t))))
    (λ n p e. unread (take used buf) e))
    (λ _. other 1 refl)
  where
    -- a changed tone, in the buffer and with its list
    put : (t : Tone) → Formed t → Spared (and_then (in_buffer (length buf) t) (with_list cells))
    put t f =
        let n = tone_length t in
        pick_elim (λ x. Spared (and_then x (with_list cells))) (leb n most_octets) (λ a.
        pick_elim (λ x. Spared (and_then x (with_list cells))) (leb n (length buf)) (λ _. rw (numbers_fit cells t f l) none)
        (λ b. let z : ⊥ = omega (arith, leb-true n most_octets a, leb-false n (length buf) b) in absurd z))
        (λ _. other 1 refl)

-- `ohakelm_replace`, `ohakelm_insert` and `ohakelm_delete`, with a buffer of 4,096 octets and 2,926,125 cells
pub edit_room : (ed : Edit) (buf : List ℕ) (used k i : ℕ) (list buf' list' : List ℕ) (r : EditAnswer) → EditExport ed buf used k i list buf' list' r
    → tone_room ≤ length buf → list_room ≤ length list → r.refusal ≡ 11 → ⊥
edit_room ed buf used k i list buf' list' r x h l e =
    not_eleven (λ o. (edit_numbers used o).refusal) (λ _. refl) (λ _ _. refl) (edit_spared ed buf used k i (length list) h l)
    (sym (ap (λ (a : EditAnswer). a.refusal) x.answer) ∙ e)

-- ---- bitmaps, icons and logos

bitmap_spared : (room width height : ℕ) (image : List ℕ) → bitmap_room ≤ room → Spared (writing_into room width height image)
bitmap_spared room width height image h = go (writing_is room width height image)
  where
    go : {o : Outcome (List ℕ)} → WritingCase room width height image o → Spared o
    go (WritingCase.outside n) = other 15 refl
    go (WritingCase.other_length s n) = other 16 refl
    go (WritingCase.small s y l) = let z : ⊥ = omega (arith, spelt_most (bitmap width height image) s y) in absurd z
    go (WritingCase.right s y l) = none

-- `ohakelm_bitmap_write`, with 7,909 octets
pub bitmap_write_room : (width height : ℕ) (image out out' : List ℕ) (r : WrittenAnswer) → BitmapWriteExport width height image out out' r
    → bitmap_room ≤ length out → r.refusal ≡ 11 → ⊥
bitmap_write_room width height image out out' r x h e =
    not_eleven (λ o. (written_numbers o).refusal) (λ _. refl) (λ _ _. refl) (bitmap_spared (length out) width height image h)
    (sym (ap (λ (a : WrittenAnswer). a.refusal) x.answer) ∙ e)

-- the room of a kind is what its largest bitmap takes
room_is : (kind : Kind) → kindMost kind ≡ kind_room kind
room_is Plain = refl
room_is Icon = refl
room_is Logo = refl

kind_spared : (room : ℕ) (kind : Kind) (a : Ahead) (width height : ℕ) (image : List ℕ) → kind_room kind ≤ room → Spared (kindInto room kind a width height image)
unfolding kindInto judged
kind_spared room kind a width height image h =
    pick_elim (λ (o : Outcome Graphic). Spared (into_room room kind o)) (taken kind a) (λ e. go (taken_formed kind a e) (judged_is width height image)) (λ _. other 20 refl)
  where
    go : WellFormed kind a → {o : Outcome Bitmap} → JudgedCase width height image o → Spared (into_room room kind (with_ahead a o))
    go f (JudgedCase.outside n) = other 15 refl
    go f (JudgedCase.other_length s n) = other 16 refl
    go f (JudgedCase.right s y) =
        let g = graphic a (bitmap width height image) in
        let l : length (kindOctets kind g) ≤ room = omega (arith, kind-most kind g f s y, room_is kind) in
        rw (le-leb (length (kindOctets kind g)) room l) none

-- `ohakelm_icon_write` and `ohakelm_logo_write`, with 7,910 octets and with 7,932
pub kind_write_room : (kind : Kind) (a : Ahead) (width height : ℕ) (image out out' : List ℕ) (r : WrittenAnswer) → KindWriteExport kind a width height image out out' r
    → kind_room kind ≤ length out → r.refusal ≡ 11 → ⊥
kind_write_room kind a width height image out out' r x h e =
    not_eleven (λ o. (written_numbers o).refusal) (λ _. refl) (λ _ _. refl) (kind_spared (length out) kind a width height image h)
    (sym (ap (λ (b : WrittenAnswer). b.refusal) x.answer) ∙ e)

-- ---- packs

-- `ohakelm_pack_write`, with 65,535 octets
pub pack_write_room : (octets ns out out' : List ℕ) (r : WrittenAnswer) → PackWriteExport octets ns out out' r → pack_room ≤ length out → r.refusal ≡ 11 → ⊥
pack_write_room octets ns out out' r x h e = go (write_pack octets ns (length out)) refl (sym (ap (λ (a : WrittenAnswer). a.refusal) x.answer) ∙ e)
  where
    go : (o : Outcome (List ℕ)) → write_pack octets ns (length out) ≡ o → (written_numbers o).refusal ≡ 11 → ⊥
    go (accepted w) q z = omega arith
    go (refused n p) q z = never_eleven octets ns (length out) h (q ∙ ap (λ (k : ℕ). refused k p) z)

-- `ohakelm_pack_salvage`, with 65,535 octets and 16,381 numbers
pub pack_salvage_room : (p out report out' report' : List ℕ) (r : SalvageAnswer) → PackSalvageExport p out report out' report' r → pack_room ≤ length out → report_room ≤ length report → r.refusal ≡ 11 → ⊥
pack_salvage_room p out report out' report' r x h l e = go (salvage p (length out) (length report)) refl (sym (ap (λ (a : SalvageAnswer). a.refusal) x.answer) ∙ e)
  where
    go : (o : Outcome Salvaged) → salvage p (length out) (length report) ≡ o → (salvage_numbers o).refusal ≡ 11 → ⊥
    go (accepted s) q z = omega arith
    go (refused n f) q z = salvage-never-eleven p (length out) (length report) h l (q ∙ ap (λ (k : ℕ). refused k f) z)

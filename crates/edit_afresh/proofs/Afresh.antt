-- An edit is as good as starting over: what stands in the buffer after it is what `write` makes of the changed tone.
use Prim.Native.Nat.{ℕ, ◌≤◌}
use mathlib.Core.Path.{◌≡◌, refl, sym, ap, ◌∙◌}
use mathlib.Core.List.{List}
use lib.ListN.{length, take}
use Rattle.std.specs.Prelude.{Result, Ok}
use Rattle.bits.specs.declared.refusal.Refusal.{Refusal}
use Rattle.bits.specs.Bits.{Octets}
use Rattle.bits.specs.Lent.{over}
use Rattle.bits.specs.Outcome.{accepted}
use Rattle.bits.specs.Places.{octet_count}
use Rattle.tone.specs.Tone.{Tone, cells}
use Rattle.tone.specs.Writing.{tone_length, tone_octets}
use Rattle.tone.specs.Reading.{read_tone}
use Rattle.tone.proofs.Demand2.{read_well_formed, length_tone_octets}
use Rattle.written.specs.Written.{Writing}
use Rattle.tone_write.specs.Promise.{WritePromise}
use Rattle.tone_write.proofs.Demand2.{write_gives}
use Rattle.edit_change.specs.declared.Edit.{Edit}
use Rattle.edit_change.specs.Change.{changed}
use Rattle.edit.specs.declared.Edited.{Edited}
use Rattle.edit.specs.Promise.{Numbers, EditPromise}
use Rattle.edit.proofs.Calls.{Accepting, new_length, edit_numbers_lem, edit_bytes, edit_result_reads, Call, InARow, buffer_left, length_left, changed_by, row_reads, row_bytes}

-- a call of `write` with the song type, UNICODE, title and table of t
abbrev pub Writes : Tone → List ℕ → List ℕ → Writing → Type 0
Writes t out out' w = WritePromise t.song t.unicode t.title (cells t.patterns) out out' w

-- where a message reads as t and is its writing, this call, given room, answers its length and leaves it ahead of what was lent
same_octets : (m : List ℕ) (t : Tone) → read_tone m ≡ accepted t → m ≡ tone_octets t → (out out' : List ℕ) (w : Writing) → length m ≤ length out → Writes t out out' w
    → (w ≡ Ok (octet_count (length m))) × (out' ≡ over m out)
same_octets m t q e out out' w room p =
    let n : tone_length t ≡ length m = sym (ap length e ∙ length_tone_octets t) in
    let g = write_gives t.song t.unicode t.title (cells t.patterns) out p t
    (record { well_formed = read_well_formed m t q; its_song = refl; its_unicode = refl; its_title = refl; its_table = refl; fits = rw n room }) in
    (g.answer ∙ ap (λ (x : ℕ). Ok (octet_count x)) n, g.its_octets ∙ ap (λ (x : List ℕ). over x out) (sym e))

-- an accepted edit of a message that reads as t: writing the changed tone afresh gives the octets in the buffer, and their number
pub edit_bytes_afresh : (buf : List ℕ) (used : ℕ) (ed : Edit) (k i : ℕ) (list buf' list' : List ℕ) (r : Result Edited Refusal) → EditPromise buf used ed k i list buf' list' r
    → Accepting r → (t : Tone) → read_tone (take used buf) ≡ accepted t
    → (out out' : List ℕ) (w : Writing) → new_length r ≤ length out → Writes (changed ed k i t) out out' w
    → (w ≡ Ok (octet_count (new_length r))) × (out' ≡ over (take (new_length r) buf') out)
edit_bytes_afresh buf used ed k i list buf' list' r p a t q out out' w room h =
    let t' = changed ed k i t in
    let e : take (new_length r) buf' ≡ tone_octets t' = edit_bytes buf used ed k i list buf' list' r p a t q in
    let n : length (take (new_length r) buf') ≡ new_length r =
    ap length e ∙ length_tone_octets t' ∙ sym (ap (λ (x : Numbers). x.length) (edit_numbers_lem buf used ed k i list buf' list' r p a t q)) in
    let s = same_octets (take (new_length r) buf') t' (edit_result_reads buf used ed k i list buf' list' r p a t q) e out out' w (rw n room) h in
    (s.0 ∙ ap (λ (x : ℕ). Ok (octet_count x)) n, s.1)

-- any number of accepted edits in a row: writing the tone changed by each in turn gives the message that they leave
pub row_bytes_afresh : (cs : List Call) (buf : List ℕ) (used : ℕ) (t : Tone) → InARow buf used cs → read_tone (take used buf) ≡ accepted t → Octets buf
    → (out out' : List ℕ) (w : Writing) → length (take (length_left used cs) (buffer_left buf cs)) ≤ length out → Writes (changed_by cs t) out out' w
    → (w ≡ Ok (octet_count (length (take (length_left used cs) (buffer_left buf cs))))) × (out' ≡ over (take (length_left used cs) (buffer_left buf cs)) out)
row_bytes_afresh cs buf used t h q o out out' w room p =
    same_octets (take (length_left used cs) (buffer_left buf cs)) (changed_by cs t) (row_reads cs buf used t h q) (row_bytes cs buf used t h q o) out out' w room p

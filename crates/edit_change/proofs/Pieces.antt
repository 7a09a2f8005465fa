-- The instruction that an edit carries: judged, as bits, and its notes.
use Prim.Native.Nat.{ℕ, ◌+◌, ◌*◌, ◌%◌, ◌^◌, ◌≤◌, ◌<◌}
use native.Mathlib.Omega.{arith}
use native.Mathlib.Nat.{lt_of_lt_of_le}
use mathlib.Core.Path.{◌≡◌, refl, sym, ap, ◌∙◌}
use mathlib.Core.Bool.{Bool, true, false}
use mathlib.Core.List.{[], ◌∷◌, append-nil}
use lib.Pow.{pow_mono, shl_exact}
use borrow.Author.Tests.{le-leb, lt-leb, lt-ltb, le-ltb}
use mir.Val.{Fits}
use mir.Syntax.{w32}
use Rattle.bits.specs.Bits.{bits_n}
use Rattle.bits.proofs.Numbers.{bits_append, join_lt, shl_one}
use Rattle.tone.specs.Table.{kind, payload, width, allowed}
use Rattle.tone.specs.Writing.{entry_bits}
use Rattle.tone_elements.specs.Answers.{note_in, notes}
use Rattle.edit_change.specs.declared.Edit.{Edit}
use Rattle.edit_change.specs.declared.Edit.TheVariants.{Replace, Insert, Delete}
use Rattle.edit_change.specs.Change.{is_new, carries_new, carried}
use Rattle.edit_change.specs.Answers.{Puts}
use Rattle.edit_change.proofs.Bodies.{new_instruction}

-- ---- what each return of `is_new` shows

pub new_none : (e : ℕ) → kind e < 1 → false ≡ is_new e
new_none e h = rw (lt-leb 1 (kind e) h) refl

pub new_above : (e : ℕ) → 5 < kind e → false ≡ is_new e
new_above e h = rw (le-leb 1 (kind e) (omega arith), lt-leb (kind e) 5 h) refl

module _ (e : ℕ) {w : ℕ} (some : 1 ≤ kind e) (most : kind e ≤ 5) (hw : (w ≡ width (kind e)) × (w ≤ 14)) where
  bound : (1 * 2 ^ w) % 4294967296 ≡ 2 ^ width (kind e)
  bound = shl_one 32 w (omega (arith, hw.1)) ∙ ap (λ (x : ℕ). 2 ^ x) hw.0

  pub new_wide : (1 * 2 ^ w) % 4294967296 ≤ payload e → false ≡ is_new e
  new_wide h = rw (le-leb 1 (kind e) some, le-leb (kind e) 5 most, le-ltb (payload e) (2 ^ width (kind e)) (rw bound at h)) refl

  pub new_code : {b : Bool} → payload e < (1 * 2 ^ w) % 4294967296 → b ≡ allowed (kind e) (payload e) → b ≡ is_new e
  new_code h k = rw (le-leb 1 (kind e) some, le-leb (kind e) 5 most, lt-ltb (payload e) (2 ^ width (kind e)) (rw bound at h)) k

pub ruleset news = (new_none, new_above, new_wide, new_code)

-- ---- by the kind of edit

pub replace_new : (ed : Edit) {e : ℕ} {b : Bool} → ed ≡ Replace e → b ≡ is_new e → b ≡ carries_new ed
replace_new ed g h = rw g h

pub insert_new : (ed : Edit) {e : ℕ} {b : Bool} → ed ≡ Insert e → b ≡ is_new e → b ≡ carries_new ed
insert_new ed g h = rw g h

pub delete_new : (ed : Edit) → ed ≡ Delete → true ≡ carries_new ed
delete_new ed g = rw g refl

pub ruleset carries = (replace_new, insert_new, delete_new)

pub replaces : (ed : Edit) {e : ℕ} → ed ≡ Replace e → carries_new ed ≡ true → is_new e ≡ true
replaces ed g h = rw g at h

pub inserts : (ed : Edit) {e : ℕ} → ed ≡ Insert e → carries_new ed ≡ true → is_new e ≡ true
inserts ed g h = rw g at h

pub replace_puts : (ed : Edit) {e w v : ℕ} → ed ≡ Replace e → Puts (e ∷ []) w v → Puts (carried ed) w v
replace_puts ed g h = rw g h

pub insert_puts : (ed : Edit) {e w v : ℕ} → ed ≡ Insert e → Puts (e ∷ []) w v → Puts (carried ed) w v
insert_puts ed g h = rw g h

pub delete_puts : (ed : Edit) → ed ≡ Delete → Puts (carried ed) 0 0
unfolding bits_n
delete_puts ed g = rw g (record { short = omega arith; small = omega arith; bits = refl })

pub ruleset puts = (replaces, inserts, replace_puts, insert_puts, delete_puts)

-- ---- the bits of an instruction

module _ (e : ℕ) (h : is_new e ≡ true) where
  pub piece_kind : kind e ≤ 5
  piece_kind = (new_instruction e h).in_table.known

  module _ {w : ℕ} (hw : (w ≡ width (kind e)) × (w ≤ 14)) where
    shifted : (kind e * 2 ^ w) % 4294967296 ≡ kind e * 2 ^ w
    shifted = shl_exact 3 w 32 (omega (arith, piece_kind)) (omega (arith, hw.1))

    fits : payload e < 2 ^ w
    fits = rw hw.0 (new_instruction e h).in_table.fits

    pub piece_fits : Fits w32 ((kind e * 2 ^ w) % 4294967296 + payload e)
    piece_fits =
        let l : kind e * 2 ^ w + payload e < 2 ^ (3 + w) = join_lt 3 (kind e) w (payload e) (omega (arith, piece_kind)) fits in
        record { fits = rw shifted (lt_of_lt_of_le l (pow_mono {j = 32} (omega (arith, hw.1)))) }

    pub piece_is : Puts (e ∷ []) (3 + w) ((kind e * 2 ^ w) % 4294967296 + payload e)
    unfolding entry_bits
    piece_is =
        let k : kind e < 2 ^ 3 = omega (arith, piece_kind) in
        record {
          short = omega (arith, hw.1);
          small = rw shifted (join_lt 3 (kind e) w (payload e) k fits);
          bits = append-nil (entry_bits e) ∙ (rw (← hw.0, shifted) (sym (bits_append 3 (kind e) w (payload e) k fits)));
        }

pub ruleset pieces = (piece_kind, piece_fits, piece_is)

-- ---- the notes that an edit puts

pub notes_replace : (ed : Edit) {e n : ℕ} → ed ≡ Replace e → n ≡ note_in e → n ≡ notes (carried ed)
notes_replace ed g h = rw g (omega (arith, h))

pub notes_insert : (ed : Edit) {e n : ℕ} → ed ≡ Insert e → n ≡ note_in e → n ≡ notes (carried ed)
notes_insert ed g h = rw g (omega (arith, h))

pub notes_delete : (ed : Edit) → ed ≡ Delete → ◌≡◌ {A = ℕ} 0 (notes (carried ed))
notes_delete ed g = rw g refl

pub ruleset noteds = (notes_replace, notes_insert, notes_delete)

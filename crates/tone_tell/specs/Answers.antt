-- What the code answers of instructions that it tells.
use Rattle.std.specs.Prelude.{ℕ, ◌*◌, ◌%◌, ◌^◌, ◌≤◌, ◌≡◌, Bool, true}
use Rattle.tone_tell.specs.declared.Told.{Told}
use Rattle.tone_tell.specs.Telling.{kind_on, bits_on, note_on, fault_on, over}

-- the bits, the notes and the faults of the n instructions on top of x
pub record ToldOf (n x : ℕ) (r : Told) : Type 0 where
  pub bits : r.bits ≡ over bits_on n x
  pub notes : r.notes ≡ over note_on n x
  pub faults : r.faults ≡ over fault_on n x
  pub most : r.bits ≤ 63 * n

-- a note or a pause stands on top, and at each twelve bits behind it, four in all
pub record NotesAlone (x : ℕ) : Type 0 where
  pub first : kind_on x ≡ 1
  pub second : kind_on (x * 2 ^ 12 % 2 ^ 64) ≡ 1
  pub third : kind_on (x * 2 ^ 24 % 2 ^ 64) ≡ 1
  pub fourth : kind_on (x * 2 ^ 36 % 2 ^ 64) ≡ 1

-- where the code says yes, it holds
pub record Sure (r : Bool) (A : Type 0) : Type 0 where
  pub holds : r ≡ true → A
